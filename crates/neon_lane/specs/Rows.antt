-- The list, group by group, and what is found in it.
use Rattle.std.specs.Prelude.{ℕ, List, ◌++◌, Option}
use Rattle.row_names.specs.Groups.{first_named}
use Rattle.neon_lane.specs.declared.LaneOp.{LaneOp}
use Rattle.neon_lane.specs.Named.{name_of}
use Rattle.neon_lane.specs.ArithmeticRows.{arithmetic_rows}
use Rattle.neon_lane.specs.SaturatingRows.{saturating_rows}
use Rattle.neon_lane.specs.ExtremesRows.{extremes_rows}
use Rattle.neon_lane.specs.LogicRows.{logic_rows}
use Rattle.neon_lane.specs.ChoicesRows.{choices_rows}
use Rattle.neon_lane.specs.ShiftsRows.{shifts_rows}
use Rattle.neon_lane.specs.ProductsRows.{products_rows}

abbrev pub rows : List LaneOp
rows = arithmetic_rows ++ (saturating_rows ++ (extremes_rows ++ (logic_rows ++ (choices_rows ++ (shifts_rows ++ products_rows)))))

abbrev pub find_of : List ℕ → Option LaneOp
find_of name = first_named name_of rows name
