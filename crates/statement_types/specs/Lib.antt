pub mod Statements
pub mod Typed
