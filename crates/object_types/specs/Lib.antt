pub mod Reserved
pub mod Objects
pub mod Typed
