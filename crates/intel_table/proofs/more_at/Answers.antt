use Rattle.std.proofs.Common.{◌<◌, length, map, arith}
use Rattle.std.proofs.lemmas.List.{length-map}
use Rattle.row_names.proofs.Listed.{listed}
use Rattle.intel_more.specs.Rows as part
use Rattle.intel_table.specs.Rows.{of_more, more_rows}
use Rattle.intel_table.proofs.more_at.Goals as goal

pub at-requires : goal.at-requires
unfolding more_rows
at-requires c = let all = length-map part.rows of_more in let inside : c.args.k < length (map of_more part.rows) = c.requires in omega (arith, inside, all)

pub returns : goal.returns
unfolding more_rows
returns c = listed of_more part.rows c.args.k c.at.result c.at.ensures
