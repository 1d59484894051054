pub mod Flipped
pub mod Squares
pub mod Sums
pub mod Doors
pub mod Determined
