pub mod Rooms
pub mod Determined
