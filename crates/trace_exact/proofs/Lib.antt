pub mod Ranges
pub mod Entries
pub mod Exactly
pub mod Tally
