-- What is read of a unit's text stands for the unit.
use Rattle.std.specs.Prelude.{◌≡◌, ℕ, List, Ok}
use Rattle.c_text.specs.declared.tokens.Dialect.TheVariants.{Neon}
use Rattle.c_tree.specs.declared.types.CType.{CType}
use Rattle.c_tree.specs.Same.{Same}
use Rattle.c_tree.specs.Tree.{External}
use Rattle.c_memory.specs.declared.blocks.Block.{Block}
use Rattle.c_memory.specs.declared.value.Value.{Value}
use Rattle.c_memory.specs.Meaning.{Calls, means}
use Rattle.c_memory.specs.Written.{UnitsMatch, DoesTheSame}
use Rattle.reading_again.specs.Plain.{PlainUnit}
use Rattle.reading_again.specs.Standing.{parameter_names}
use Rattle.reading_again.specs.Unplaced.{DifferInPlaces}
use Rattle.round_trip.specs.Again.{ReadAgain}
use Rattle.round_trip.specs.GoodUnits.{GoodUnit}
use Rattle.vector_types.specs.Units.{check_unit}

-- A Neon unit that can be printed, that names no array type in a `sizeof`, and that the check gives back as it is.
pub record IsTypedAsWritten (unit : List External) : Type 0 where
  pub good : GoodUnit unit
  pub plain : PlainUnit unit
  pub typed : check_unit Neon unit ≡ Ok unit

-- The unit is read again from its text. What is read has types; with them it differs from the unit in places alone, is the same, and each call of
-- each of its functions has the outcome that it has in the unit. It matches each source that the unit matches, with the same names of
-- parameters, and does what a source does where the unit does.
pub record StandsFor (unit : List External) : Type 0 where
  pub again : ReadAgain unit
  pub read : List External
  pub typed : check_unit Neon again.again ≡ Ok read
  pub differs : DifferInPlaces unit read
  pub same : Same read unit
  pub means : (rows : Calls) (name : List ℕ) (args : List Value) (memory : List Block) (turns : ℕ) → means rows unit name args memory turns ≡ means rows read name args memory turns
  pub parameters : parameter_names read ≡ parameter_names unit
  pub matches : (written : CType → CType) (source : List External) → UnitsMatch written source unit → UnitsMatch written source read
  pub does : (rows other_rows : Calls) (written : CType → CType) (source : List External) → DoesTheSame rows other_rows written source unit → DoesTheSame rows other_rows written source read

-- of every such unit
abbrev pub AllStand : Type 0
AllStand = (unit : List External) → IsTypedAsWritten unit → StandsFor unit
