pub mod Lines
pub mod Pieces
pub mod Parts
pub mod Said
pub mod Joins
pub mod One
pub mod Machine
pub mod Examples
