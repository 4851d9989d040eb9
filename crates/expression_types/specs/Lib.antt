pub mod Names
pub mod Objects
pub mod Check
pub mod Typed
