pub mod Entries
pub mod Outermost
