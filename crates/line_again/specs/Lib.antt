pub mod Again
pub mod Calls
