pub mod Gather
pub mod Promises
