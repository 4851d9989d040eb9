pub mod Laws
pub mod Operands
pub mod Plans
pub mod Selections
pub mod Sequences
pub mod Claims
