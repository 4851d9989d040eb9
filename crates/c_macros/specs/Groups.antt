-- Brackets with what they hold, which are passed over as a whole where arguments are cut.
use Rattle.std.specs.Prelude.{◌≡◌, ℕ, ◌+◌, ◌<◌, List, [], ◌∷◌, ◌++◌, length, take, drop, unwrap_or, slice_get, Some}
use Rattle.c_text.specs.declared.tokens.Token.{Token}
use Rattle.c_macros.specs.declared.roles.Role.TheVariants.{Opens}
use Rattle.c_macros.specs.Arguments.{Cut, onto, role, arguments}

-- tokens at the start of the first argument
abbrev pub onto_all : List Token → Cut → Cut
onto_all [] c = c
onto_all (t ∷ ts) c = onto t (onto_all ts c)

-- wherever these tokens stand, they are part of one argument, and no bracket is left open
abbrev pub IsGroup : List Token → Type 0
IsGroup g = (n : ℕ) (rest : List Token) → arguments n (g ++ rest) ≡ onto_all g (arguments n rest)

-- how far behind a bracket the one that closes it stands: 0 where nothing is known
abbrev pub jump_at : List ℕ → ℕ → ℕ
jump_at jumps i = unwrap_or (slice_get jumps i) 0

-- each jump within the tokens passes over a group
abbrev pub Sound : List Token → List ℕ → Type 0
Sound ts jumps = (i : ℕ) → 0 < jump_at jumps i → i + jump_at jumps i < length ts → IsGroup (take (jump_at jumps i + 1) (drop i ts))

-- a token of this place is a `(`
abbrev pub IsOpen : List Token → ℕ → Type 0
IsOpen ts i = (t : Token) → slice_get ts i ≡ Some t → Opens ≡ role t
