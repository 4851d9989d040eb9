pub mod Spliced
pub mod Steps
pub mod Scans
pub mod Shapes
pub mod Longest
pub mod Cuts
pub mod Quotes
