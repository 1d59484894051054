pub mod Sound
pub mod Wrong
pub mod Boards
pub mod Promises
pub mod PrivateTested
