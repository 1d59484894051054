pub mod Attacks
pub mod PrivateLent
pub mod Answers
pub mod Promises
