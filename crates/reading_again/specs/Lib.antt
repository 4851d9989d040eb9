pub mod Rewritten
pub mod Unplaced
pub mod Answers
pub mod Plain
pub mod Left
pub mod Standing
