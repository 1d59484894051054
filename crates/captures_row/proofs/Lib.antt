pub mod Fits
pub mod Determined
pub mod Examples
