pub mod Totals
pub mod Cut
pub mod Examples
