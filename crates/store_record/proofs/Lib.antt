pub mod Records
pub mod Answers
pub mod Doors
pub mod Examples
pub mod Determined
