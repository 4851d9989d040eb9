pub mod Movable
pub mod Claims
