pub mod Differences
pub mod Determined
