pub mod Summaries
pub mod Promises
pub mod Parts
