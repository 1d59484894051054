pub mod Trips
pub mod Same
