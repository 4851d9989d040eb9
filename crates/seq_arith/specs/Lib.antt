pub mod Calls
pub mod Products
pub mod Counts
pub mod Rows
pub mod Plans
pub mod Listed
pub mod Claims
