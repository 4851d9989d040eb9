pub mod Callees
pub mod Counting
pub mod Full
pub mod Memory
pub mod Parts
pub mod Reading
pub mod Rule
pub mod Writing
