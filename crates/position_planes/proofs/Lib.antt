pub mod Places
pub mod Planes
pub mod Determined
pub mod Examples
