pub mod Table
pub mod Determined
pub mod Examples
