pub mod Marks
pub mod Nodes
pub mod Operators
pub mod Same
pub mod Tree
pub mod Types
pub mod Vectors
pub mod View
