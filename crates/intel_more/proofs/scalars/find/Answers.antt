use Rattle.std.proofs.Common.{refl}
use Rattle.row_names.specs.Groups.{first_named}
use Rattle.intel_more.specs.Named.{name_of}
use Rattle.intel_more.specs.ScalarsRows.{scalars_rows}
use Rattle.intel_more.proofs.scalars.find.Goals as goal

pub returns : goal.returns
unfolding first_named scalars_rows
returns c = c.row_named.ensures name_of refl
