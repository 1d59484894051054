pub mod Lengths
pub mod Turn
pub mod Doors
pub mod Examples
pub mod Determined
