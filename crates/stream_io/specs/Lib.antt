pub mod Bounds
pub mod Known
