pub mod Answered
pub mod PrivateColumns
