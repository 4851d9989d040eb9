use Rattle.std.proofs.Common.{refl}
use Rattle.row_names.specs.Groups.{first_named}
use Rattle.neon_lane.specs.Named.{name_of}
use Rattle.neon_lane.specs.LogicRows.{logic_rows}
use Rattle.neon_lane.proofs.logic.find.Goals as goal

pub returns : goal.returns
unfolding first_named logic_rows
returns c = c.row_named.ensures name_of refl
