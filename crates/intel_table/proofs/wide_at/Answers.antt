use Rattle.std.proofs.Common.{◌<◌, length, map, arith}
use Rattle.std.proofs.lemmas.List.{length-map}
use Rattle.row_names.proofs.Listed.{listed}
use Rattle.intel_wide.specs.Rows as part
use Rattle.intel_table.specs.Rows.{of_wide, wide_rows}
use Rattle.intel_table.proofs.wide_at.Goals as goal

pub at-requires : goal.at-requires
unfolding wide_rows
at-requires c = let all = length-map part.rows of_wide in let inside : c.args.k < length (map of_wide part.rows) = c.requires in omega (arith, inside, all)

pub returns : goal.returns
unfolding wide_rows
returns c = listed of_wide part.rows c.args.k c.at.result c.at.ensures
