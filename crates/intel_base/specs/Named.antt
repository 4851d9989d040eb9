-- The rows of all groups, and what each is.
use Rattle.std.specs.Prelude.{ℕ, List}
use Rattle.intel_forms.specs.declared.forms.Form.{Form}
use Rattle.intel_forms.specs.Row.{Row}
use Rattle.intel_base.specs.declared.BaseOp.{BaseOp}
use Rattle.intel_base.specs.declared.BaseOp.TheVariants as op
use Rattle.intel_base.specs.ArithmeticRows.{arithmetic_row}
use Rattle.intel_base.specs.LogicRows.{logic_row}
use Rattle.intel_base.specs.MovesRows.{moves_row}
use Rattle.intel_base.specs.ScalarsRows.{scalars_row}
use Rattle.intel_base.specs.LoadsRows.{loads_row}

abbrev pub row_of : BaseOp → Row
row_of (op.Arithmetic row) = arithmetic_row row
row_of (op.Logic row) = logic_row row
row_of (op.Moves row) = moves_row row
row_of (op.Scalars row) = scalars_row row
row_of (op.Loads row) = loads_row row

abbrev pub name_of : BaseOp → List ℕ
name_of op = (row_of op).name

abbrev pub form_of : BaseOp → Form
form_of op = (row_of op).form
