pub mod Bytes
pub mod Texts
pub mod Parts
pub mod Every
pub mod Within
pub mod Examples
pub mod Determined
