pub mod Lines
pub mod Items
pub mod Reading
pub mod Fits
pub mod Given
pub mod Texts
