mod Moves
mod Halves
mod Masks
mod Gathers
mod Merges
mod Formed
