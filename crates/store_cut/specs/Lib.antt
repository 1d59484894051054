pub mod Pieces
pub mod Cut
pub mod Promises
