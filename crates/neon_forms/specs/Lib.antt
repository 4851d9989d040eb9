pub mod Forms
pub mod Values
pub mod Row
pub mod Laws
