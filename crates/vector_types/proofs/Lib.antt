pub mod Complete
pub mod InFunction
pub mod InOrder
pub mod Judging
pub mod Lists
pub mod Sound
pub mod TableRows
