pub mod Words
pub mod Good
pub mod Unlimited
pub mod GoodUnits
pub mod Printable
pub mod Again
