-- Tokens among which no macro's name stands.
use Rattle.std.specs.Prelude.{◌≡◌, ℕ, List, [], ◌∷◌, true, Option, None, Ok}
use Rattle.c_text.specs.declared.tokens.Token.{Token}
use Rattle.c_macros.specs.Definition.{Macros}
use Rattle.c_macros.specs.Arguments.{is_name_kind}
use Rattle.c_macros.specs.Expansion.{expand_in}

abbrev pub AllFree : Macros → List Token → Type 0
AllFree macros [] = Unit {0}
AllFree macros (t ∷ ts) = (is_name_kind t.kind ≡ true → macros t.text ≡ None) × AllFree macros ts

-- they expand to themselves, without work, wherever they stand
abbrev pub FreeTokens : Type 0
FreeTokens =
    (limit : ℕ) (macros : Macros) (depth : ℕ) (uses : List Token) (top : Option Token) (ts : List Token) (work : ℕ) → AllFree macros ts →
    expand_in limit macros depth uses top ts work ≡ Ok (ts, work)
