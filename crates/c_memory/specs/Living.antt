-- Which blocks of a memory live, as far as it is noted: a scope's end then needn't look at those that have ended before.
use Rattle.std.specs.Prelude.{◌≡◌, ℕ, ◌≤◌, ◌==◌, Bool, true, false, not, ◌&&◌, ◌||◌, List, [], ◌∷◌, Some, slice_get, nat_lt}
use Rattle.c_memory.specs.declared.blocks.Block.{Block}

abbrev pub has_none : {A : Type 0} → List A → Bool
has_none [] = true
has_none (x ∷ rest) = false

-- the block has ended: it lives no more, and has no bytes
abbrev pub is_ended : Block → Bool
is_ended b = not b.alive && has_none b.bytes

abbrev pub is_among : ℕ → List ℕ → Bool
is_among k [] = false
is_among k (n ∷ rest) = k == n || is_among k rest

-- each number is below the one before it, and the first is below n
abbrev pub fall : ℕ → List ℕ → Bool
fall n [] = true
fall n (k ∷ rest) = nat_lt k n && fall k rest

-- from a number on, each block whose number isn't among these has ended
abbrev pub AreEnded : ℕ → List ℕ → List Block → Type 0
AreEnded first living blocks = (k : ℕ) (b : Block) → slice_get blocks k ≡ Some b → first ≤ k → is_among k living ≡ false → is_ended b ≡ true
