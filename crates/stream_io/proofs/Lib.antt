pub mod Within
pub mod Written
