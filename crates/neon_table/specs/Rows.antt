-- The table of Neon rows, by the Arm Neon Intrinsics Reference: the rows of its parts. What it tells of a row is said of the row's form.
use Rattle.std.specs.Prelude.{ℕ, List, ◌++◌, map, Option}
use Rattle.lane_core.specs.declared.table.Arg.{Arg}
use Rattle.lane_core.specs.declared.table.ImmRange.{ImmRange}
use Rattle.lane_core.specs.declared.table.Sig.{Sig}
use Rattle.lane_core.specs.declared.table.Access.{Access}
use Rattle.row_names.specs.Groups.{first_named}
use Rattle.neon_forms.specs.declared.forms.Form.{Form}
use Rattle.neon_forms.specs.Forms as form
use Rattle.neon_forms.specs.Values as values
use Rattle.neon_lane.specs.declared.LaneOp.{LaneOp}
use Rattle.neon_lane.specs.Named as lane_named
use Rattle.neon_lane.specs.Rows as lane
use Rattle.neon_move.specs.declared.MoveOp.{MoveOp}
use Rattle.neon_move.specs.Named as move_named
use Rattle.neon_move.specs.Rows as moves
use Rattle.neon_table.specs.declared.NeonOp.{NeonOp}
use Rattle.neon_table.specs.declared.Part.{Part}
use Rattle.neon_table.specs.declared.Part.TheVariants.{Lane, Move}

abbrev pub of_lane : LaneOp → NeonOp
of_lane row = record { row = Lane row }

abbrev pub of_move : MoveOp → NeonOp
of_move row = record { row = Move row }

abbrev pub part_name : Part → List ℕ
part_name (Lane row) = lane_named.name_of row
part_name (Move row) = move_named.name_of row

abbrev pub part_form : Part → Form
part_form (Lane row) = lane_named.form_of row
part_form (Move row) = move_named.form_of row

-- the bytes of the row's name
abbrev pub name_of : NeonOp → List ℕ
name_of op = part_name op.row

abbrev pub form_of : NeonOp → Form
form_of op = part_form op.row

-- the rows of each part
unfoldable pub lane_rows : List NeonOp
lane_rows = map of_lane lane.rows

unfoldable pub move_rows : List NeonOp
move_rows = map of_move moves.rows

-- the list, part by part
abbrev pub rows : List NeonOp
rows = lane_rows ++ move_rows

-- the names in the list
unfoldable pub names : List (List ℕ)
names = map name_of rows

-- the first row of the list that has the name
unfoldable pub find_of : List ℕ → Option NeonOp
find_of name = first_named name_of rows name

abbrev pub signature_of : NeonOp → Sig
signature_of op = form.signature_of (form_of op)

abbrev pub range_of : NeonOp → ImmRange
range_of op = form.range_of (form_of op)

abbrev pub accesses_of : NeonOp → ℕ
accesses_of op = form.accesses_of (form_of op)

-- no argument keeps an access away
abbrev pub access_of : NeonOp → List Arg → ℕ → ℕ → Option Access
access_of op args imm k = form.access_of (form_of op) k

-- the bytes of the register into which a row reads or from which it stores
abbrev pub register_of : NeonOp → ℕ
register_of op = form.register_of (form_of op)

abbrev pub eval_of : NeonOp → List Arg → ℕ → Arg
eval_of op = values.value_of (form_of op)
