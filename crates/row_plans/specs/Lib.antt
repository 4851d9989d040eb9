pub mod Choice
pub mod Plans
pub mod Claims
