pub mod Laid
pub mod Fits
pub mod Tests
pub mod Doors
pub mod Determined
pub mod Examples
