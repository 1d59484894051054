pub mod Orders
pub mod PrivateUnits
pub mod Promises
