pub mod Mobility
pub mod Weights
pub mod Sides
pub mod PrivateWalked
pub mod Promises
