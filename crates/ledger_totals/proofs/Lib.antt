pub mod Fits
pub mod Point
pub mod Examples
pub mod Determined
