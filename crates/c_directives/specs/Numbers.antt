-- The numbers of the refusals of a text.
use Rattle.std.specs.Prelude.{◌≡◌, ℕ, ◌==◌, List, Bool, true, ◌||◌, Err}
use Rattle.c_text.specs.declared.tokens.Dialect.{Dialect}
use Rattle.c_text.specs.declared.tokens.Token.{Token}
use Rattle.c_text.specs.declared.refusals.Refusal.{Refusal}
use Rattle.c_macros.specs.Numbers.{is_macro_number}
use Rattle.c_directives.specs.Definitions.{bad_directive}
use Rattle.c_directives.specs.Headers.{unknown_header}
use Rattle.c_directives.specs.Directives.{open_condition, expansion}

abbrev pub is_expansion_number : ℕ → Bool
is_expansion_number n = is_macro_number n || (n == bad_directive || (n == unknown_header || n == open_condition))

-- a text is refused by one of these
abbrev pub ExpansionNumbers : Type 0
ExpansionNumbers = (dialect : Dialect) (ts : List Token) (r : Refusal) → expansion dialect ts ≡ Err r → is_expansion_number r.number ≡ true
