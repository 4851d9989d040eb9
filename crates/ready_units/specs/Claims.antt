-- What is claimed of units that are typed and movable.
use Rattle.std.specs.Prelude.{List}
use Rattle.c_text.specs.declared.tokens.Dialect.TheVariants.{X86}
use Rattle.c_tree.specs.Tree.{External}
use Rattle.c_memory.specs.Matching.{written_type}
use Rattle.c_memory.specs.MeaningRows.{call_of_row}
use Rattle.c_memory.specs.Written.{DoesTheSame}
use Rattle.vector_types.specs.Typed.{TypedUnit}
use Rattle.seq_core.specs.Rows as neon
use Rattle.written_forms.specs.Moved.{Plans}
use Rattle.written_forms.specs.Ready.{table}
use Rattle.written_forms.specs.Helpers.{helpers, moved_unit}
use Rattle.written_forms.specs.ReadyUnits.{ReadyUnit}
use Rattle.ready_units.specs.Movable.{IsMovable}
use Rattle.written_forms.specs.Planned.{AreFit}

-- a unit that has its types and is movable is ready: its parts have the types that their places need, and each row that it calls in its text
-- has a sequence that stands for it, in place or as a function
abbrev pub MovableUnitsAreReady : Type 0
MovableUnitsAreReady = (plans : Plans) (source unit : List External) → AreFit plans → TypedUnit X86 source unit → IsMovable plans unit → ReadyUnit plans (helpers plans unit) unit

-- a unit that has its types and is movable, and the unit that is written for it, do the same
abbrev pub MovedUnitsDoTheSame : Type 0
MovedUnitsDoTheSame =
    (plans : Plans) (source unit : List External) → AreFit plans → TypedUnit X86 source unit → IsMovable plans unit
    → DoesTheSame (call_of_row table) (call_of_row neon.table) written_type unit (moved_unit plans unit)
