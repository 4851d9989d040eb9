pub mod ExcludedWord
pub mod Role
pub mod Nesting
pub mod Counts
pub mod Scan
