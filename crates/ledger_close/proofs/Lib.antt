pub mod Closed
pub mod Determined
