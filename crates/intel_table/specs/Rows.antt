-- The table of Intel rows, by the Intel Intrinsics Guide: the rows of its parts. What it tells of a row is said of the row's form.
use Rattle.std.specs.Prelude.{ℕ, List, ◌++◌, map, Option, Some, None, Bool, true, false, if◌then◌else◌}
use Rattle.lane_core.specs.declared.table.Arg.{Arg}
use Rattle.lane_core.specs.declared.table.ImmRange.{ImmRange}
use Rattle.lane_core.specs.declared.table.Sig.{Sig}
use Rattle.lane_core.specs.declared.table.Access.{Access}
use Rattle.row_names.specs.Groups.{first_named}
use Rattle.intel_forms.specs.declared.forms.Form.{Form}
use Rattle.intel_forms.specs.Forms as form
use Rattle.intel_forms.specs.Laws as law
use Rattle.intel_base.specs.declared.BaseOp.{BaseOp}
use Rattle.intel_base.specs.Named as base_named
use Rattle.intel_base.specs.Rows as base
use Rattle.intel_more.specs.declared.MoreOp.{MoreOp}
use Rattle.intel_more.specs.Named as more_named
use Rattle.intel_more.specs.Rows as more
use Rattle.intel_wide.specs.declared.WideOp.{WideOp}
use Rattle.intel_wide.specs.declared.WideOp.TheVariants.{Half}
use Rattle.intel_wide.specs.Named as wide_named
use Rattle.intel_wide.specs.Rows as wide
use Rattle.intel_table.specs.declared.IntelOp.{IntelOp}
use Rattle.intel_table.specs.declared.Part.{Part}
use Rattle.intel_table.specs.declared.Part.TheVariants.{Base, More, Wide}

abbrev pub of_base : BaseOp → IntelOp
of_base row = record { row = Base row }

abbrev pub of_more : MoreOp → IntelOp
of_more row = record { row = More row }

abbrev pub of_wide : WideOp → IntelOp
of_wide row = record { row = Wide row }

abbrev pub part_name : Part → List ℕ
part_name (Base row) = base_named.name_of row
part_name (More row) = more_named.name_of row
part_name (Wide row) = wide_named.name_of row

abbrev pub part_form : Part → Form
part_form (Base row) = base_named.form_of row
part_form (More row) = more_named.form_of row
part_form (Wide row) = wide_named.form_of row

-- the bytes of the row's name
abbrev pub name_of : IntelOp → List ℕ
name_of op = part_name op.row

abbrev pub form_of : IntelOp → Form
form_of op = part_form op.row

-- the rows of each part
unfoldable pub base_rows : List IntelOp
base_rows = map of_base base.rows

unfoldable pub more_rows : List IntelOp
more_rows = map of_more more.rows

unfoldable pub wide_rows : List IntelOp
wide_rows = map of_wide wide.rows

-- the list, part by part
abbrev pub rows : List IntelOp
rows = base_rows ++ (more_rows ++ wide_rows)

-- the names in the list
unfoldable pub names : List (List ℕ)
names = map name_of rows

-- the first row of the list that has the name
unfoldable pub find_of : List ℕ → Option IntelOp
find_of name = first_named name_of rows name

-- the half of a 256-bit compare is a row, but isn't in the list
abbrev pub is_half : Part → Bool
is_half (Wide (Half row)) = true
is_half _ = false

abbrev pub listed : IntelOp → Option IntelOp
listed op = if is_half op.row then None else Some op

abbrev pub signature_of : IntelOp → Sig
signature_of op = form.signature_of (form_of op)

abbrev pub range_of : IntelOp → ImmRange
range_of op = form.range_of (form_of op)

-- the row is scalar by nature
abbrev pub is_scalar : IntelOp → Bool
is_scalar op = form.is_scalar (form_of op)

abbrev pub accesses_of : IntelOp → ℕ
accesses_of op = form.accesses_of (form_of op)

abbrev pub access_of : IntelOp → List Arg → ℕ → ℕ → Option Access
access_of op = form.access_of (form_of op)

-- the bytes of the register into which a row reads or from which it stores
abbrev pub register_of : IntelOp → ℕ
register_of op = law.register_of (form_of op)

abbrev pub eval_of : IntelOp → List Arg → ℕ → Arg
eval_of op = form.value_of (form_of op)
