pub mod Named
pub mod Odds
pub mod Promises
pub mod Exactly
pub mod PrivateTested
