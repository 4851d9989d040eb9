-- What a macro's name stands for (C11 6.10.3).
use Rattle.std.specs.Prelude.{ℕ, List, Bool, if◌then◌else◌, bytes_eq, Option, None}
use Rattle.c_macros.specs.declared.macros.Piece.{Piece}

-- whether brackets follow its name, the names of its parameters, its body, in which each token that names a parameter has that
-- parameter's number, and for each parameter whether it stands in the body
pub record Definition : Type 0 where
  pub function_like : Bool
  pub parameters : List (List ℕ)
  pub body : List Piece
  pub used : List Bool

-- what each name stands for; most stand for nothing
abbrev pub Macros : Type 0
Macros = List ℕ → Option Definition

abbrev pub no_macros : Macros
no_macros name = None

-- the same, but the name stands for this, or for nothing (6.10.3p9, 6.10.3.5)
abbrev pub with_macro : List ℕ → Option Definition → Macros → Macros
with_macro name o macros x = if bytes_eq x name then o else macros x
