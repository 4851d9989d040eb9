pub mod Constants
pub mod Declarations
pub mod Expressions
pub mod Statements
pub mod Text
pub mod Types
