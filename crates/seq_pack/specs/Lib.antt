pub mod Calls
pub mod Terms
pub mod Tests
pub mod Sets
pub mod Plans
pub mod Listed
pub mod Claims
