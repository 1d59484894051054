pub mod Turn
pub mod Doors
pub mod Determined
