use Rattle.std.proofs.Common.{refl}
use Rattle.row_names.specs.Groups.{first_named}
use Rattle.neon_lane.specs.Named.{name_of}
use Rattle.neon_lane.specs.ShiftsRows.{shifts_rows}
use Rattle.neon_lane.proofs.shifts.find.Goals as goal

pub returns : goal.returns
unfolding first_named shifts_rows
returns c = c.row_named.ensures name_of refl
