pub mod Pieces
pub mod Doors
pub mod Determined
