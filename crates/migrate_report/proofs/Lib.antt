pub mod Joins
pub mod Placed
pub mod Ranges
pub mod Sizes
