-- The rows of all groups, and what each is.
use Rattle.std.specs.Prelude.{ℕ, List}
use Rattle.neon_forms.specs.declared.forms.Form.{Form}
use Rattle.neon_forms.specs.Row.{Row}
use Rattle.neon_lane.specs.declared.LaneOp.{LaneOp}
use Rattle.neon_lane.specs.declared.LaneOp.TheVariants as op
use Rattle.neon_lane.specs.ArithmeticRows.{arithmetic_row}
use Rattle.neon_lane.specs.SaturatingRows.{saturating_row}
use Rattle.neon_lane.specs.ExtremesRows.{extremes_row}
use Rattle.neon_lane.specs.LogicRows.{logic_row}
use Rattle.neon_lane.specs.ChoicesRows.{choices_row}
use Rattle.neon_lane.specs.ShiftsRows.{shifts_row}
use Rattle.neon_lane.specs.ProductsRows.{products_row}

abbrev pub row_of : LaneOp → Row
row_of (op.Arithmetic row) = arithmetic_row row
row_of (op.Saturating row) = saturating_row row
row_of (op.Extremes row) = extremes_row row
row_of (op.Logic row) = logic_row row
row_of (op.Choices row) = choices_row row
row_of (op.Shifts row) = shifts_row row
row_of (op.Products row) = products_row row

abbrev pub name_of : LaneOp → List ℕ
name_of op = (row_of op).name

abbrev pub form_of : LaneOp → Form
form_of op = (row_of op).form
