pub mod Steps
pub mod Seen
pub mod Rays
pub mod Back
pub mod Attacked
pub mod Self
