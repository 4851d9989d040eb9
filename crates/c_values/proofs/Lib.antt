pub mod BitsLemmas
pub mod PlaceLemmas
pub mod ByteLemmas
pub mod BlockLemmas
pub mod AccessLemmas
pub mod RowLemmas
