pub mod PrivatePacked
pub mod Promises
