pub mod Machine
pub mod Turn
pub mod Loop
pub mod Folded
pub mod Examples
pub mod Determined
