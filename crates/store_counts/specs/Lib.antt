pub mod Summary
pub mod Promises
