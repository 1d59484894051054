pub mod Consistent
pub mod Promises
pub mod PrivateTested
