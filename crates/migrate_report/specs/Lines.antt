-- The lines that say why a unit, or the words for a run, are refused.
use Rattle.std.specs.Prelude.{ℕ, List, [], ◌∷◌, ◌++◌, ◌&&◌, nat_le, if◌then◌else◌, codes, decimal}
use Rattle.c_text.specs.declared.tokens.Place.{Place}
use Rattle.c_text.specs.declared.refusals.Refusal.{Refusal}
use Rattle.c_text.specs.RefusalNames.{refusal_name}

-- the name of a refusal's number, which is from 1 to 22
abbrev pub name_of : ℕ → List ℕ
name_of n = if nat_le 1 n && nat_le n 22 then refusal_name n else []

-- `LINE:COL: `; lines and columns are counted from 1, columns in bytes
abbrev pub place_text : Place → List ℕ
place_text at = decimal at.line ++ (codes ":" ++ (decimal at.col ++ codes ": "))

-- `NUMBER NAME `
unfoldable pub name_text : ℕ → List ℕ
name_text number = decimal number ++ (codes " " ++ (name_of number ++ codes " "))

-- `LINE:COL: NUMBER NAME DETAIL` and a newline
abbrev pub refusal_line : Refusal → List ℕ
refusal_line r = place_text r.place ++ (name_text r.number ++ (r.detail ++ codes "\n"))

-- a line for each, in order
abbrev pub refusal_lines : List Refusal → List ℕ
refusal_lines [] = []
refusal_lines (r ∷ rest) = refusal_line r ++ refusal_lines rest
