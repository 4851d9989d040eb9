-- The rows of all groups, and what each is.
use Rattle.std.specs.Prelude.{ℕ, List}
use Rattle.intel_forms.specs.declared.forms.Form.{Form}
use Rattle.intel_forms.specs.Row.{Row}
use Rattle.intel_wide.specs.declared.WideOp.{WideOp}
use Rattle.intel_wide.specs.declared.WideOp.TheVariants as op
use Rattle.intel_wide.specs.Avx2Rows.{avx2_row}
use Rattle.intel_wide.specs.ArithmeticRows.{arithmetic_row}
use Rattle.intel_wide.specs.MoreArithmeticRows.{more_arithmetic_row}
use Rattle.intel_wide.specs.LogicRows.{logic_row}
use Rattle.intel_wide.specs.ShiftsRows.{shifts_row}
use Rattle.intel_wide.specs.MovesRows.{moves_row}
use Rattle.intel_wide.specs.CrossingRows.{crossing_row}
use Rattle.intel_wide.specs.ScalarsRows.{scalars_row}
use Rattle.intel_wide.specs.LoadsRows.{loads_row}
use Rattle.intel_wide.specs.HalfRows.{half_row}

abbrev pub row_of : WideOp → Row
row_of (op.Avx2 row) = avx2_row row
row_of (op.Arithmetic row) = arithmetic_row row
row_of (op.MoreArithmetic row) = more_arithmetic_row row
row_of (op.Logic row) = logic_row row
row_of (op.Shifts row) = shifts_row row
row_of (op.Moves row) = moves_row row
row_of (op.Crossing row) = crossing_row row
row_of (op.Scalars row) = scalars_row row
row_of (op.Loads row) = loads_row row
row_of (op.Half row) = half_row row

abbrev pub name_of : WideOp → List ℕ
name_of op = (row_of op).name

abbrev pub form_of : WideOp → Form
form_of op = (row_of op).form
