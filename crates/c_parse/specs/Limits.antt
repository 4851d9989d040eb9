-- How much a unit may hold, and the refusals of a parser.
use Rattle.std.specs.Prelude.{◌≡◌, ◌⊎◌, ℕ, ◌+◌, List, [], ◌∷◌, length, take, drop, codes, nat_le, Bool, ◌||◌, if◌then◌else◌, Option, Some, None}
use Rattle.c_text.specs.declared.refusals.Refusal.{Refusal}
use Rattle.c_text.specs.declared.tokens.Dialect.{Dialect}
use Rattle.c_text.specs.declared.tokens.Place.{Place}
use Rattle.c_text.specs.declared.tokens.Token.{Token}
use Rattle.c_text.specs.Details.{refusal_of}
use Rattle.c_tree.specs.Tree.{Definition, External, Function, Table}
use Rattle.c_parse.specs.Items.{IsUnit}

-- a function with this many parameters behind this many functions: a unit has 4,096 functions at most, and a function 127 parameters
abbrev pub passes_limit : ℕ → ℕ → Bool
passes_limit before parameters = nat_le 4096 before || nat_le 128 parameters

-- the first function that passes a limit, where this many stand before
abbrev pub first_past : ℕ → List External → Option Definition
first_past n [] = None
first_past n (Function f ∷ rest) = if passes_limit n (length f.params) then Some f else first_past (n + 1) rest
first_past n (Table o is_static ∷ rest) = first_past n rest

-- the place of the end: that of the last token
abbrev pub end_place : List Token → Place
end_place [] = record { line = 1; col = 1 }
end_place (t ∷ []) = t.place
end_place (t ∷ u ∷ ts) = end_place (u ∷ ts)

-- the refusal of text that is no unit, at the first of these tokens, or at the end, which has this place
abbrev pub syntax_at : Place → List Token → Refusal
syntax_at end [] = record { number = 9; place = end; detail = codes "end" }
syntax_at end (t ∷ ts) = refusal_of 9 t

-- the refusal of a function that passes a limit: at its name
abbrev pub too_many : Definition → Refusal
too_many f = record { number = 20; place = f.place; detail = take 255 f.name }

-- the tokens are no unit, and the refusal shows one of them, or the end
pub record NoUnit (d : Dialect) (ts : List Token) (r : Refusal) : Type 0 where
  pub none : (unit : List External) → IsUnit d ts unit → ⊥
  pub before : ℕ
  pub shows : r ≡ syntax_at (end_place ts) (drop before ts)

-- the tokens are a unit that passes a limit, and the refusal shows the first function that does
pub record TooMany (d : Dialect) (ts : List Token) (r : Refusal) : Type 0 where
  pub unit : List External
  pub is : IsUnit d ts unit
  pub function : Definition
  pub first : first_past 0 unit ≡ Some function
  pub shows : r ≡ too_many function

-- why tokens are refused
abbrev pub Refused : Dialect → List Token → Refusal → Type 0
Refused d ts r = NoUnit d ts r ⊎ TooMany d ts r
