pub mod Sampled
pub mod Determined
