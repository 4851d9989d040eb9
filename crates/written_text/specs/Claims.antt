-- What is claimed of the text of the unit that is written for a source.
use Rattle.std.specs.Prelude.{List}
use Rattle.c_text.specs.declared.tokens.Dialect.TheVariants.{X86}
use Rattle.c_tree.specs.Tree.{External}
use Rattle.round_trip.specs.GoodUnits.{GoodUnit}
use Rattle.reading_again.specs.Plain.{PlainUnit}
use Rattle.vector_types.specs.Typed.{TypedUnit}
use Rattle.written_forms.specs.Moved.{Plans}
use Rattle.written_forms.specs.Helpers.{moved_unit}
use Rattle.written_forms.specs.Planned.{AreFit}
use Rattle.ready_units.specs.Movable.{IsMovable}
use Rattle.read_units.specs.Read.{ReadUnit}

-- What is written for a source that the grammar gives, that has its types and is movable, can be printed and is read as it is written; and no
-- `sizeof` and no array stand in it.
pub record IsPrinted (unit : List External) : Type 0 where
  pub good : GoodUnit unit
  pub plain : PlainUnit unit

abbrev pub WrittenUnitsArePrinted : Type 0
WrittenUnitsArePrinted =
    (plans : Plans) (source unit : List External) → AreFit plans → ReadUnit source → TypedUnit X86 source unit → IsMovable plans unit → IsPrinted (moved_unit plans unit)
