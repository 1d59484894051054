pub mod Calls
pub mod Gathered
