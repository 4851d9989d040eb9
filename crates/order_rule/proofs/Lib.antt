pub mod Counted
pub mod Noted
pub mod RowEffects
pub mod Rules
pub mod Scopes
pub mod Sums
