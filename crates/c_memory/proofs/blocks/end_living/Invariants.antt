use Rattle.std.proofs.Common.{◌≡◌, ℕ, true, length, reverse}
use Rattle.c_memory.specs.Memory.{ended_from}
use Rattle.c_memory.specs.Living.{fall, AreEnded}
use Rattle.c_memory.proofs.blocks.end_living.Given as goal

abbrev pub invariant-loop-k : goal.invariant-loop-k
invariant-loop-k l =
    (fall (length l.blocks) (reverse l.living.items) ≡ true)
    × ((first : ℕ) → AreEnded first (reverse l.initial.living.items) l.initial.blocks → AreEnded first (reverse l.living.items) l.blocks)
    × (ended_from l.start l.blocks ≡ ended_from l.start l.initial.blocks)
    × (length l.blocks ≡ length l.initial.blocks)

abbrev pub decreases-loop-k : goal.decreases-loop-k
decreases-loop-k l = length l.living.items
