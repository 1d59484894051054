pub mod Weighed
pub mod Doors
pub mod Determined
