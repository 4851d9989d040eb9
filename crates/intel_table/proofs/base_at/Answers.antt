use Rattle.std.proofs.Common.{◌<◌, length, map, arith}
use Rattle.std.proofs.lemmas.List.{length-map}
use Rattle.row_names.proofs.Listed.{listed}
use Rattle.intel_base.specs.Rows as part
use Rattle.intel_table.specs.Rows.{of_base, base_rows}
use Rattle.intel_table.proofs.base_at.Goals as goal

pub at-requires : goal.at-requires
unfolding base_rows
at-requires c = let all = length-map part.rows of_base in let inside : c.args.k < length (map of_base part.rows) = c.requires in omega (arith, inside, all)

pub returns : goal.returns
unfolding base_rows
returns c = listed of_base part.rows c.args.k c.at.result c.at.ensures
