-- After a run what it began has ended.
use Rattle.std.specs.Prelude.{◌≡◌, ℕ, ◌≤◌, false, Some, slice_get}
use Rattle.c_memory.specs.declared.blocks.Block.{Block}
use Rattle.c_memory.specs.Outcomes.{Outcome, Done, Turns, Undefined}

-- the blocks from a number on don't live
abbrev pub HaveEnded : ℕ → Outcome → Type 0
HaveEnded n (Done v memory) = (k : ℕ) (b : Block) → slice_get memory k ≡ Some b → n ≤ k → b.alive ≡ false
HaveEnded n Turns = Unit {0}
HaveEnded n Undefined = Unit {0}
