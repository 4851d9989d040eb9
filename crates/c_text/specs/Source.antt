-- The bytes that a text shows: each with its place, line ends and splices resolved (C11 5.1.1.2, phases 1 and 2).
use Rattle.std.specs.Prelude.{ℕ, ◌+◌, List, [], ◌∷◌, Bool, false, ◌&&◌, ◌||◌, ◌==◌, if◌then◌else◌}
use Rattle.c_text.specs.declared.source.Placed.{Placed}

-- a byte order mark of UTF-8 at the start is no part of the text
abbrev pub without_order_mark : List ℕ → List ℕ
without_order_mark (a ∷ b ∷ c ∷ bs) = if (a == 239) && ((b == 187) && (c == 191)) then bs else a ∷ b ∷ c ∷ bs
without_order_mark bs = bs

abbrev pub at_place : ℕ → ℕ → ℕ → Placed
at_place line col b = record { byte = b; place = record { line = line; col = col } }

-- the line and the column behind a byte; a line feed (10) ends its line
abbrev pub line_behind : ℕ → ℕ → ℕ
line_behind line b = if b == 10 then line + 1 else line

abbrev pub col_behind : ℕ → ℕ → ℕ
col_behind col b = if b == 10 then 1 else col + 1

-- each byte with its place, where the first has this one
abbrev pub placed : ℕ → ℕ → List ℕ → List Placed
placed line col [] = []
placed line col (b ∷ bs) = at_place line col b ∷ placed (line_behind line b) (col_behind col b) bs

abbrev pub begins_with : ℕ → List Placed → Bool
begins_with b [] = false
begins_with b (c ∷ cs) = c.byte == b

-- a carriage return (13) directly before a line feed is one line end with it
abbrev pub line_ends : List Placed → List Placed
line_ends [] = []
line_ends (c ∷ cs) = if (c.byte == 13) && begins_with 10 cs then line_ends cs else c ∷ line_ends cs

-- A backslash (92) directly before a line end is left out, and so is that line end. The truth value says whether a backslash stands
-- directly before these bytes.
abbrev pub spliced : Bool → List Placed → List Placed
spliced behind [] = []
spliced behind (c ∷ cs) =
    if ((c.byte == 92) && begins_with 10 cs) || (behind && (c.byte == 10)) then spliced (c.byte == 92) cs
    else c ∷ spliced (c.byte == 92) cs

-- the bytes that a source shows
abbrev pub shown : List ℕ → List Placed
shown source = spliced false (line_ends (placed 1 1 (without_order_mark source)))

abbrev pub bytes_of : List Placed → List ℕ
bytes_of [] = []
bytes_of (c ∷ cs) = c.byte ∷ bytes_of cs
