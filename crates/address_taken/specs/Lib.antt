pub mod Addressed
pub mod Marks
pub mod Taken
