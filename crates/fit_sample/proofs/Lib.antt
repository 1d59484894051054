pub mod Parts
pub mod Sampled
pub mod Determined
pub mod Examples
