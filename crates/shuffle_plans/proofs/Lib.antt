pub mod Calls
pub mod Formulas
pub mod Moves
pub mod Planned
pub mod Rows
pub mod Selected
pub mod Serving
