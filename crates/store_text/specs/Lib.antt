pub mod Board
pub mod Table
pub mod Picture
pub mod Page
pub mod Promises
