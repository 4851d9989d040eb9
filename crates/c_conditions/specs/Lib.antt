pub mod Worths
pub mod Signs
pub mod Levels
pub mod Value
pub mod Stack
pub mod Rows
