-- The list, group by group, and what is found in it.
use Rattle.std.specs.Prelude.{ℕ, List, ◌++◌, Option}
use Rattle.row_names.specs.Groups.{first_named}
use Rattle.intel_base.specs.declared.BaseOp.{BaseOp}
use Rattle.intel_base.specs.Named.{name_of}
use Rattle.intel_base.specs.ArithmeticRows.{arithmetic_rows}
use Rattle.intel_base.specs.LogicRows.{logic_rows}
use Rattle.intel_base.specs.MovesRows.{moves_rows}
use Rattle.intel_base.specs.ScalarsRows.{scalars_rows}
use Rattle.intel_base.specs.LoadsRows.{loads_rows}

abbrev pub rows : List BaseOp
rows = arithmetic_rows ++ (logic_rows ++ (moves_rows ++ (scalars_rows ++ loads_rows)))

abbrev pub find_of : List ℕ → Option BaseOp
find_of name = first_named name_of rows name
