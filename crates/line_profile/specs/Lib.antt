pub mod Under
pub mod Promises
