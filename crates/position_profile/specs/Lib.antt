pub mod Profile
pub mod Promises
pub mod RealPlay
