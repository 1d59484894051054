pub mod Sums
pub mod Masks
pub mod Determined
