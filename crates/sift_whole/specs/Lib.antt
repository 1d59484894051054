pub mod Sifted
pub mod Calls
