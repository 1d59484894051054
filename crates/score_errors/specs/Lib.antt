pub mod Errors
pub mod Promises
pub mod Collection
