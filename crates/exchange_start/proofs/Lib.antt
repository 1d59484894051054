pub mod Tested
pub mod Begun
pub mod Determined
