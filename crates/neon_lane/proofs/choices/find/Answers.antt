use Rattle.std.proofs.Common.{refl}
use Rattle.row_names.specs.Groups.{first_named}
use Rattle.neon_lane.specs.Named.{name_of}
use Rattle.neon_lane.specs.ChoicesRows.{choices_rows}
use Rattle.neon_lane.proofs.choices.find.Goals as goal

pub returns : goal.returns
unfolding first_named choices_rows
returns c = c.row_named.ensures name_of refl
