pub mod Differences
pub mod Counts
pub mod Determined
pub mod Parts
pub mod Examples
