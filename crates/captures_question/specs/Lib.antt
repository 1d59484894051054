pub mod Question
pub mod Promises
