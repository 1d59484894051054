pub mod Bytes
pub mod Parts
pub mod Words
pub mod Planes
pub mod Tested
pub mod Only
pub mod Determined
pub mod Examples
