pub mod Within
pub mod Doors
pub mod Determined
