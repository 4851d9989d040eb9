-- The list, group by group, and what is found in it. The half row isn't in the list.
use Rattle.std.specs.Prelude.{ℕ, List, ◌++◌, Option}
use Rattle.row_names.specs.Groups.{first_named}
use Rattle.intel_wide.specs.declared.WideOp.{WideOp}
use Rattle.intel_wide.specs.Named.{name_of}
use Rattle.intel_wide.specs.Avx2Rows.{avx2_rows}
use Rattle.intel_wide.specs.ArithmeticRows.{arithmetic_rows}
use Rattle.intel_wide.specs.MoreArithmeticRows.{more_arithmetic_rows}
use Rattle.intel_wide.specs.LogicRows.{logic_rows}
use Rattle.intel_wide.specs.ShiftsRows.{shifts_rows}
use Rattle.intel_wide.specs.MovesRows.{moves_rows}
use Rattle.intel_wide.specs.CrossingRows.{crossing_rows}
use Rattle.intel_wide.specs.ScalarsRows.{scalars_rows}
use Rattle.intel_wide.specs.LoadsRows.{loads_rows}

abbrev pub rows : List WideOp
rows = avx2_rows ++ (arithmetic_rows ++ (more_arithmetic_rows ++ (logic_rows ++ (shifts_rows ++ (moves_rows ++ (crossing_rows ++ (scalars_rows ++ loads_rows)))))))

abbrev pub find_of : List ℕ → Option WideOp
find_of name = first_named name_of rows name
