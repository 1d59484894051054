pub mod Laws
pub mod Sound
pub mod Determined
pub mod Examples
