pub mod PrivateWalk
pub mod Promises
