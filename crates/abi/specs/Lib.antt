pub mod Doors
pub mod Promises
