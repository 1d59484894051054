pub mod Named
pub mod Parts
pub mod Exactly
pub mod Answered
pub mod Determined
pub mod Examples
