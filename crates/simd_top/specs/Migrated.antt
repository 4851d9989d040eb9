-- What a written text owes to its source.
use Rattle.std.specs.Prelude.{◌≡◌, ℕ, List, map, Ok}
use Rattle.c_text.specs.declared.tokens.Dialect.TheVariants.{X86, Neon}
use Rattle.c_print.specs.Text.{text_of}
use Rattle.c_tree.specs.Same.{Same}
use Rattle.c_tree.specs.Tree.{External}
use Rattle.c_memory.specs.Matching.{written_type}
use Rattle.c_memory.specs.Meaning.{functions}
use Rattle.c_memory.specs.Written.{UnitsMatch, DoesTheSame}
use Rattle.round_trip.specs.Again.{ReadAgain}
use Rattle.vector_types.specs.Units.{check_unit}
use Rattle.simd_top.specs.Form.{names_of}
use Rattle.simd_top.specs.Ran.{rows}
use Rattle.simd_top.specs.Source.{HasUnit}

-- the names of each function's parameters
abbrev pub parameters_of : List External → List (List (List ℕ))
parameters_of unit = map (λ f. names_of f.params) (functions unit)

-- The source is a unit that has types. The written text is the text of a Neon unit, and is read again as the same unit. What is read has types, and its functions
-- are the source's, with parameters of the same names, and do the same.
pub record Migrated (source written : List ℕ) : Type 0 where
  pub unit : List External
  pub written_unit : List External
  pub typed_unit : List External
  pub has_unit : HasUnit X86 source unit
  pub is_text : written ≡ text_of written_unit
  pub again : ReadAgain written_unit
  pub typed : check_unit Neon again.again ≡ Ok typed_unit
  pub same_unit : Same typed_unit written_unit
  pub same : UnitsMatch written_type unit typed_unit
  pub parameters : parameters_of typed_unit ≡ parameters_of unit
  pub does_the_same : DoesTheSame (rows X86) (rows Neon) written_type unit typed_unit
