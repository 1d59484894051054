pub mod Judged
pub mod Lent
pub mod Determined
pub mod Examples
