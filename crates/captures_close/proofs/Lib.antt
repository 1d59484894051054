pub mod Columns
pub mod Held
pub mod Room
pub mod Determined
