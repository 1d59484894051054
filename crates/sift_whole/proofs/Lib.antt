pub mod Machine
pub mod Cut
pub mod Samples
pub mod Examples
