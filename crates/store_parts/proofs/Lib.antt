pub mod Rows
pub mod Made
