pub mod Numbering
pub mod Cuts
pub mod Lists
pub mod Leaving
pub mod Printing
pub mod KnownNumbers
