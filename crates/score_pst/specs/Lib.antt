pub mod Grids
pub mod Pst
pub mod Promises
