pub mod Asked
pub mod Determined
pub mod Examples
