pub mod Choice
pub mod Forms
pub mod List
