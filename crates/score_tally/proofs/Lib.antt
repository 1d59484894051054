pub mod Boards
pub mod Determined
