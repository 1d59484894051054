pub mod Marks
pub mod Tested
pub mod Walk
pub mod Folds
pub mod Determined
