pub mod Held
pub mod Determined
