pub mod Traced
pub mod Fitted
pub mod Determined
