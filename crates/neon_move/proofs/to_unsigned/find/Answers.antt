use Rattle.std.proofs.Common.{refl}
use Rattle.row_names.specs.Groups.{first_named}
use Rattle.neon_move.specs.Named.{name_of}
use Rattle.neon_move.specs.ToUnsignedRows.{to_unsigned_rows}
use Rattle.neon_move.proofs.to_unsigned.find.Goals as goal

pub returns : goal.returns
unfolding first_named to_unsigned_rows
returns c = c.row_named.ensures name_of refl
