pub mod Fuel
pub mod Levels
pub mod Resuming
pub mod Coding
