-- What is claimed of the types of the unit that is written for a source.
use Rattle.std.specs.Prelude.{List}
use Rattle.c_text.specs.declared.tokens.Dialect.TheVariants.{X86, Neon}
use Rattle.c_tree.specs.Tree.{External}
use Rattle.vector_types.specs.Typed.{TypedUnit}
use Rattle.written_forms.specs.Moved.{Plans}
use Rattle.written_forms.specs.Helpers.{moved_unit}
use Rattle.ready_units.specs.Movable.{IsMovable}
use Rattle.written_forms.specs.Planned.{AreFit}

-- what is written for a unit that has its types and is movable passes the check of the Neon dialect as it stands: no conversion is wanted in it
abbrev pub WrittenUnitsAreTyped : Type 0
WrittenUnitsAreTyped =
    (plans : Plans) (source unit : List External) → AreFit plans → TypedUnit X86 source unit → IsMovable plans unit → TypedUnit Neon (moved_unit plans unit) (moved_unit plans unit)
