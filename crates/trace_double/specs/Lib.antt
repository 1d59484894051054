pub mod Double
pub mod PrivateFrom
pub mod Promises
