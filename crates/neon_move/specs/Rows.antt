-- The list, group by group, and what is found in it.
use Rattle.std.specs.Prelude.{ℕ, List, ◌++◌, Option}
use Rattle.row_names.specs.Groups.{first_named}
use Rattle.neon_move.specs.declared.MoveOp.{MoveOp}
use Rattle.neon_move.specs.Named.{name_of}
use Rattle.neon_move.specs.WidenedRows.{widened_rows}
use Rattle.neon_move.specs.NarrowedRows.{narrowed_rows}
use Rattle.neon_move.specs.PermutingRows.{permuting_rows}
use Rattle.neon_move.specs.HalvesRows.{halves_rows}
use Rattle.neon_move.specs.PlacesRows.{places_rows}
use Rattle.neon_move.specs.ToUnsignedRows.{to_unsigned_rows}
use Rattle.neon_move.specs.ToSignedRows.{to_signed_rows}
use Rattle.neon_move.specs.BytesRows.{bytes_rows}

abbrev pub rows : List MoveOp
rows = widened_rows ++ (narrowed_rows ++ (permuting_rows ++ (halves_rows ++ (places_rows ++ (to_unsigned_rows ++ (to_signed_rows ++ bytes_rows))))))

abbrev pub find_of : List ℕ → Option MoveOp
find_of name = first_named name_of rows name
