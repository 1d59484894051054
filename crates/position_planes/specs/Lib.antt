pub mod Sorted
pub mod PrivatePlanes
