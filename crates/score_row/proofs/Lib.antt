pub mod Answered
pub mod Whole
pub mod Examples
pub mod Determined
