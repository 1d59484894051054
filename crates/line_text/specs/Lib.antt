pub mod Spelt
pub mod Words
pub mod Lines
pub mod OneText
