pub mod Pieces
pub mod Read
pub mod Gathered
pub mod Examples
