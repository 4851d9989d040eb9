-- A text is cut into directives and the texts between them (C11 6.10p1 and p2).
use Rattle.std.specs.Prelude.{ℕ, zero, suc, List, [], ◌∷◌, length, take, drop, Bool, ◌&&◌, if◌then◌else◌, codes}
use Rattle.std.specs.List.{position_or_len}
use Rattle.c_text.specs.declared.tokens.Token.{Token}
use Rattle.c_macros.specs.Arguments.{is_mark}

-- all lines between two directives, which are one text; or a directive's `#`, and what stands behind it on its line
pub data Part : Type 0 where
  Text : List Token → Part
  Line : Token → List Token → Part

-- a `#` in front of which no token stands on its line begins a directive
abbrev pub begins_directive : Token → Bool
begins_directive t = t.first && is_mark (codes "#") t

-- how many of these tokens belong to the line before them, and how many to the text before them
abbrev pub line_length : List Token → ℕ
line_length ts = position_or_len (λ t. t.first) ts

abbrev pub text_length : List Token → ℕ
text_length ts = position_or_len begins_directive ts

-- how many of the tokens behind a part's first belong to it
abbrev pub part_length : Token → List Token → ℕ
part_length t ts = if begins_directive t then line_length ts else text_length ts

-- the part that this token begins, with so many of the tokens behind it
abbrev pub part_of : Token → List Token → Part
part_of t ts = if begins_directive t then Line t (take (line_length ts) ts) else Text (t ∷ take (text_length ts) ts)

-- the parts of a text of at most this many tokens
abbrev pub parts_most : ℕ → List Token → List Part
parts_most n [] = []
parts_most zero (t ∷ ts) = []
parts_most (suc n) (t ∷ ts) = part_of t ts ∷ parts_most n (drop (part_length t ts) ts)

unfoldable pub parts_of : List Token → List Part
parts_of ts = parts_most (length ts) ts
