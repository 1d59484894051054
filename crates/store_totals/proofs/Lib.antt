pub mod Runs
pub mod Kept
pub mod Totals
