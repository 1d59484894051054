pub mod Nearest
pub mod Near
pub mod Whole
pub mod Quotients
pub mod Doubles
