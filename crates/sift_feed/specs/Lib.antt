pub mod Sifting
pub mod Promises
