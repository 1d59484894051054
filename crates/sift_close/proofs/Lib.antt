pub mod Said
pub mod Determined
