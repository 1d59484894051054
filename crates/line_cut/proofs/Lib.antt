pub mod Machine
pub mod Turn
pub mod Loop
pub mod Counted
pub mod Views
pub mod Folded
pub mod Determined
