pub mod Marks
pub mod Counters
pub mod Lengths
pub mod Normal
pub mod OneText
pub mod Examples
