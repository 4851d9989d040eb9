-- The numbers of the refusals of an expansion.
use Rattle.std.specs.Prelude.{◌≡◌, ℕ, ◌==◌, List, true, ◌||◌, Bool, Option, Err}
use Rattle.c_text.specs.declared.tokens.Token.{Token}
use Rattle.c_text.specs.declared.refusals.Refusal.{Refusal}
use Rattle.c_macros.specs.Definition.{Macros}
use Rattle.c_macros.specs.Expansion.{bad_macro, too_deep, too_many, expand_in}

abbrev pub is_macro_number : ℕ → Bool
is_macro_number n = n == bad_macro || (n == too_deep || n == too_many)

-- tokens are refused by one of these
abbrev pub MacroNumbers : Type 0
MacroNumbers =
    (limit : ℕ) (macros : Macros) (depth : ℕ) (uses : List Token) (top : Option Token) (ts : List Token) (work : ℕ) (r : Refusal) →
    expand_in limit macros depth uses top ts work ≡ Err r → is_macro_number r.number ≡ true
