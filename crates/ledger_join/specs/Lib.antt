pub mod Join
pub mod Machine
pub mod Promises
