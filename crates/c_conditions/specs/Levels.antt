-- Which of the levels a token goes on at.
use Rattle.std.specs.Prelude.{ℕ, ◌≤◌, nat_le, List, [], ◌∷◌, Bool, false}
use Rattle.c_text.specs.declared.tokens.Token.{Token}
use Rattle.c_conditions.specs.declared.signs.Link.{Link}
use Rattle.c_conditions.specs.declared.signs.Link.TheVariants.{Infix, Question, Nothing}
use Rattle.c_conditions.specs.Signs.{link_of}

-- a level of an operator is one of those of operators
abbrev pub IsLow : Link → Type 0
IsLow (Infix l op) = l ≤ 10
IsLow Question = Unit {0}
IsLow Nothing = Unit {0}

-- it goes on at this level or at a tighter one
abbrev pub goes_on : ℕ → Link → Bool
goes_on k (Infix l op) = nat_le k l
goes_on k Question = nat_le k 0
goes_on k Nothing = false

-- how the first token goes on
abbrev pub first_link : List Token → Link
first_link [] = Nothing
first_link (t ∷ ts) = link_of t
