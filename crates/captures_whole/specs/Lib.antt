pub mod Questions
pub mod Whole
