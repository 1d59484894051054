pub mod Plain
pub mod Promises
