pub mod Bitboard
pub mod Answers
pub mod Promises
