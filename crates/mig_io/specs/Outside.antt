-- What a source still holds and what a sink has taken, where they tell it, and when a count of faults rises.
use Rattle.std.specs.Prelude.{◌≡◌, ℕ, ◌+◌, ◌-◌, ◌^◌, ◌<◌, ◌≤◌, min, List, [], ◌++◌, length, take, drop, Option, Some, None, ⊤}

-- the count after one more; it stays at the greatest 64-bit number
abbrev pub next_count : ℕ → ℕ
next_count count = min (count + 1) (2 ^ 64 - 1)

-- the count of faults rose by one or more, or stands at the greatest 64-bit number
abbrev pub Rose : ℕ → ℕ → Type 0
Rose before now = next_count before ≤ now

-- a read of n bytes from a source that held the bytes `left`; `before` is the buffer that it was given, `buffer` what it made of it
pub record ReadsFrom (left : List ℕ) (after : Option (List ℕ)) (n : ℕ) (before buffer : List ℕ) : Type 0 where
  pub held : n ≤ length left
  pub bytes : take n buffer ≡ take n left
  pub rest : after ≡ Some (drop n left)
  -- a buffer with room stays without a byte only at the end
  pub ends : n ≡ 0 → 0 < length before → left ≡ []

-- the same, of a source that may not tell its bytes: then nothing is said
abbrev pub Reads : Option (List ℕ) → Option (List ℕ) → ℕ → List ℕ → List ℕ → Type 0
Reads (Some left) after n before buffer = ReadsFrom left after n before buffer
Reads None after n before buffer = ⊤

-- what is left now is the rest of what was left before, where the source tells it
abbrev pub IsRest : Option (List ℕ) → Option (List ℕ) → Type 0
IsRest (Some left) after = (n : ℕ) × (after ≡ Some (drop n left))
IsRest None after = ⊤

-- these bytes are all that the source held, and it holds none now, where it tells them
abbrev pub ReadsAll : Option (List ℕ) → Option (List ℕ) → List ℕ → Type 0
ReadsAll (Some left) after bytes = (bytes ≡ left) × (after ≡ Some [])
ReadsAll None after bytes = ⊤

-- the source held more than `limit` bytes, and `limit + 1` of them are gone, where it tells them
abbrev pub ReadsPast : ℕ → Option (List ℕ) → Option (List ℕ) → Type 0
ReadsPast limit (Some left) after = (limit < length left) × (after ≡ Some (drop (limit + 1) left))
ReadsPast limit None after = ⊤

-- the sink took this piece after all that it held, where it tells its bytes
abbrev pub Grew : Option (List ℕ) → List ℕ → Option (List ℕ) → Type 0
Grew (Some held) piece after = after ≡ Some (held ++ piece)
Grew None piece after = ⊤

-- the sink took some first bytes of the piece and not all of it, where it tells its bytes
abbrev pub GrewInPart : Option (List ℕ) → List ℕ → Option (List ℕ) → Type 0
GrewInPart (Some held) piece after = (n : ℕ) × (n < length piece) × (after ≡ Some (held ++ take n piece))
GrewInPart None piece after = ⊤
