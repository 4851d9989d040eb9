pub mod Types
pub mod Operations
pub mod Passing
pub mod Rules
