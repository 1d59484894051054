pub mod Attacked
pub mod PrivateWalked
pub mod Promises
