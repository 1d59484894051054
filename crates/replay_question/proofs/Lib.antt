pub mod Bytes
pub mod Folds
pub mod Examples
pub mod Determined
