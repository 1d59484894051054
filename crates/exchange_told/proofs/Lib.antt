pub mod Behind
pub mod Why
pub mod Determined
