-- The rows of all groups, and what each is.
use Rattle.std.specs.Prelude.{ℕ, List}
use Rattle.intel_forms.specs.declared.forms.Form.{Form}
use Rattle.intel_forms.specs.Row.{Row}
use Rattle.intel_more.specs.declared.MoreOp.{MoreOp}
use Rattle.intel_more.specs.declared.MoreOp.TheVariants as op
use Rattle.intel_more.specs.ArithmeticRows.{arithmetic_row}
use Rattle.intel_more.specs.MovesRows.{moves_row}
use Rattle.intel_more.specs.ScalarsRows.{scalars_row}

abbrev pub row_of : MoreOp → Row
row_of (op.Arithmetic row) = arithmetic_row row
row_of (op.Moves row) = moves_row row
row_of (op.Scalars row) = scalars_row row

abbrev pub name_of : MoreOp → List ℕ
name_of op = (row_of op).name

abbrev pub form_of : MoreOp → Form
form_of op = (row_of op).form
