pub mod Gather
pub mod Answers
pub mod Promises
