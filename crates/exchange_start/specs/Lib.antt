pub mod Capture
pub mod Answers
pub mod Promises
