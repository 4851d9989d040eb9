pub mod Arguments
pub mod Complete
pub mod Sound
pub mod TypeTests
