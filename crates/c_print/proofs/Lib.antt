mod Digits
mod Margins
mod Ranges
