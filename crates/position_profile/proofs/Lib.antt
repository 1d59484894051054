pub mod Rules
pub mod Exactly
pub mod Determined
pub mod Examples
