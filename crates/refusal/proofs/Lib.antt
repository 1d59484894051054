pub mod Answers
pub mod Below
pub mod Determined
pub mod Examples
pub mod Named
pub mod Paper
