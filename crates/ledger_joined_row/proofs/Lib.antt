pub mod Numbers
pub mod Own
pub mod Laws
pub mod Determined
pub mod Examples
