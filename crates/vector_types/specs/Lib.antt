pub mod Functions
pub mod Order
pub mod Rows
pub mod Tables
pub mod Units
pub mod Answers
pub mod Typed
