pub mod Short
pub mod Steps
pub mod Joined
pub mod Sides
pub mod Determined
pub mod Examples
