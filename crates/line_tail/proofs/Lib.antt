pub mod Laws
pub mod Tails
pub mod Determined
pub mod Examples
