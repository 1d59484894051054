pub mod Lent
pub mod ByKind
pub mod Doors
pub mod Other
pub mod Determined
