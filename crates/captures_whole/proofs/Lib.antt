pub mod Machines
pub mod Cut
pub mod Examples
