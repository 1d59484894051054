pub mod Coefficient
pub mod Promises
