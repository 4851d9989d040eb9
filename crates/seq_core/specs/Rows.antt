-- The Neon rows as the meaning of C takes them, and the rows that are told apart by their forms.
use Rattle.std.specs.Prelude.{◌≡◌, ◌==◌, List, Bool, true, false}
use Rattle.c_memory.specs.declared.value.Value.{Value}
use Rattle.c_memory.specs.MeaningState.{State}
use Rattle.c_memory.specs.MeaningRows.{RowTable, rows_of, row_call}
use Rattle.c_memory.specs.Meaning.{Calls}
use Rattle.lane_core.specs.declared.table.ParamKind.{ParamKind}
use Rattle.lane_core.specs.declared.table.ParamKind.TheVariants as kind
use Rattle.neon_forms.specs.declared.forms.Form.{Form}
use Rattle.neon_forms.specs.declared.forms.Form.TheVariants as form
use Rattle.neon_move.specs.declared.MoveOp.TheVariants.{Bytes, Halves, Places}
use Rattle.neon_move.specs.declared.bytes.Bytes.TheVariants.{VcreateU8}
use Rattle.neon_move.specs.declared.halves.Halves.TheVariants.{VcombineU8}
use Rattle.neon_move.specs.declared.places.Places.TheVariants.{VdupqNU8}
use Rattle.neon_table.specs.declared.NeonOp.{NeonOp}
use Rattle.neon_table.specs.Rows.{of_move, find_of, name_of, signature_of, range_of, accesses_of, access_of, eval_of}

abbrev pub table : RowTable NeonOp
table = rows_of find_of signature_of range_of accesses_of access_of eval_of

-- under these calls the rows' names mean the rows
abbrev pub AreRows : Calls → Type 0
AreRows c = (op : NeonOp) (vs : List Value) (s : State) → c (name_of op) vs s ≡ row_call table op vs s

-- the rows that a constant vector is written with
abbrev pub combine : NeonOp
combine = of_move (Halves VcombineU8)

abbrev pub create : NeonOp
create = of_move (Bytes VcreateU8)

abbrev pub broadcast : NeonOp
broadcast = of_move (Places VdupqNU8)

-- the row makes no access to memory
abbrev pub is_without_memory : NeonOp → Bool
is_without_memory op = accesses_of op == 0

-- no value, as of a storing row
abbrev pub is_nothing : ParamKind → Bool
is_nothing kind.Nothing = true
is_nothing k = false

-- the row has no value, since it stores
abbrev pub is_storing : NeonOp → Bool
is_storing op = is_nothing (signature_of op).result

-- the forms of reinterpretations, of rows that make a vector of an integer, and of those that give or take an integer otherwise
abbrev pub is_reinterpreting : Form → Bool
is_reinterpreting (form.Reinterpret to from) = true
is_reinterpreting (form.ReinterpretHalf to from) = true
is_reinterpreting f = false

abbrev pub is_broadcasting : Form → Bool
is_broadcasting (form.Duplicate t) = true
is_broadcasting form.Create = true
is_broadcasting f = false

abbrev pub is_by_element : Form → Bool
is_by_element (form.GetLane t) = true
is_by_element (form.SetLane t) = true
is_by_element (form.Reduce op t) = true
is_by_element (form.ReduceHalf op t) = true
is_by_element f = false
