pub mod Marks
pub mod Sizes
pub mod Examples
pub mod Determined
