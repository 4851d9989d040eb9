pub mod Elements
pub mod Vectors
pub mod Laws
