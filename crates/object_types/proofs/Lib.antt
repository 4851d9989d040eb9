pub mod Complete
pub mod Initialisers
pub mod ObjectTests
pub mod Sound
