pub mod Turns
pub mod Joined
pub mod Behind
pub mod Determined
