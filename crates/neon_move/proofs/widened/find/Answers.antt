use Rattle.std.proofs.Common.{refl}
use Rattle.row_names.specs.Groups.{first_named}
use Rattle.neon_move.specs.Named.{name_of}
use Rattle.neon_move.specs.WidenedRows.{widened_rows}
use Rattle.neon_move.proofs.widened.find.Goals as goal

pub returns : goal.returns
unfolding first_named widened_rows
returns c = c.row_named.ensures name_of refl
