-- The rows of all groups, and what each is.
use Rattle.std.specs.Prelude.{ℕ, List}
use Rattle.neon_forms.specs.declared.forms.Form.{Form}
use Rattle.neon_forms.specs.Row.{Row}
use Rattle.neon_move.specs.declared.MoveOp.{MoveOp}
use Rattle.neon_move.specs.declared.MoveOp.TheVariants as op
use Rattle.neon_move.specs.WidenedRows.{widened_row}
use Rattle.neon_move.specs.NarrowedRows.{narrowed_row}
use Rattle.neon_move.specs.PermutingRows.{permuting_row}
use Rattle.neon_move.specs.HalvesRows.{halves_row}
use Rattle.neon_move.specs.PlacesRows.{places_row}
use Rattle.neon_move.specs.ToUnsignedRows.{to_unsigned_row}
use Rattle.neon_move.specs.ToSignedRows.{to_signed_row}
use Rattle.neon_move.specs.BytesRows.{bytes_row}

abbrev pub row_of : MoveOp → Row
row_of (op.Widened row) = widened_row row
row_of (op.Narrowed row) = narrowed_row row
row_of (op.Permuting row) = permuting_row row
row_of (op.Halves row) = halves_row row
row_of (op.Places row) = places_row row
row_of (op.ToUnsigned row) = to_unsigned_row row
row_of (op.ToSigned row) = to_signed_row row
row_of (op.Bytes row) = bytes_row row

abbrev pub name_of : MoveOp → List ℕ
name_of op = (row_of op).name

abbrev pub form_of : MoveOp → Form
form_of op = (row_of op).form
