pub mod Keeping
pub mod Doors
pub mod Determined
