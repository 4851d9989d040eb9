pub mod ArithmeticRows
pub mod MovesRows
pub mod ScalarsRows
pub mod Named
pub mod Rows
