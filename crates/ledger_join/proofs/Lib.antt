pub mod Bytes
pub mod Pieces
pub mod Kept
pub mod Some
pub mod Turn
pub mod Doors
pub mod Determined
