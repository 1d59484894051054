pub mod Spelled
pub mod Wrote
pub mod Added
pub mod Determined
pub mod Examples
