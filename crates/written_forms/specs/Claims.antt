-- What is claimed of the unit that is written for a source.
use Rattle.std.specs.Prelude.{List}
use Rattle.c_tree.specs.Tree.{External}
use Rattle.c_memory.specs.Matching.{written_type}
use Rattle.c_memory.specs.MeaningRows.{call_of_row}
use Rattle.c_memory.specs.Written.{DoesTheSame}
use Rattle.seq_core.specs.Rows as neon
use Rattle.written_forms.specs.Moved.{Plans}
use Rattle.written_forms.specs.Ready.{table}
use Rattle.written_forms.specs.Helpers.{Use, with_helpers, moved_items}
use Rattle.written_forms.specs.ReadyUnits.{ReadyUnit}

-- A unit that is ready, and what is written for it behind the functions of its rows, do the same, with the Intel rows on one side and the
-- Neon rows on the other.
abbrev pub WrittenDoesTheSame : Type 0
WrittenDoesTheSame =
    (plans : Plans) (us : List Use) (unit : List External) → ReadyUnit plans us unit
    → DoesTheSame (call_of_row table) (call_of_row neon.table) written_type unit (with_helpers us (moved_items plans unit))
