pub mod LineRead
pub mod Least
pub mod Determined
