pub mod Backward
pub mod Earliest
pub mod Stopping
pub mod Determined
