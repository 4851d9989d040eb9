-- The list, group by group, and what is found in it.
use Rattle.std.specs.Prelude.{ℕ, List, ◌++◌, Option}
use Rattle.row_names.specs.Groups.{first_named}
use Rattle.intel_more.specs.declared.MoreOp.{MoreOp}
use Rattle.intel_more.specs.Named.{name_of}
use Rattle.intel_more.specs.ArithmeticRows.{arithmetic_rows}
use Rattle.intel_more.specs.MovesRows.{moves_rows}
use Rattle.intel_more.specs.ScalarsRows.{scalars_rows}

abbrev pub rows : List MoreOp
rows = arithmetic_rows ++ (moves_rows ++ scalars_rows)

abbrev pub find_of : List ℕ → Option MoreOp
find_of name = first_named name_of rows name
