pub mod Scores
pub mod Examples
pub mod Determined
