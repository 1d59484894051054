pub mod Past
pub mod Packed
pub mod Determined
