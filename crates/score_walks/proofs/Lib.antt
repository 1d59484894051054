pub mod Kept
pub mod Rooms
pub mod Determined
