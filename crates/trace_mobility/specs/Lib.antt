pub mod PrivateMasks
pub mod Promises
