use Rattle.std.proofs.Common.{◌<◌, length, map, arith}
use Rattle.std.proofs.lemmas.List.{length-map}
use Rattle.row_names.proofs.Listed.{listed}
use Rattle.neon_lane.specs.Rows as part
use Rattle.neon_table.specs.Rows.{of_lane, lane_rows}
use Rattle.neon_table.proofs.lane_at.Goals as goal

pub at-requires : goal.at-requires
unfolding lane_rows
at-requires c = let all = length-map part.rows of_lane in let inside : c.args.k < length (map of_lane part.rows) = c.requires in omega (arith, inside, all)

pub returns : goal.returns
unfolding lane_rows
returns c = listed of_lane part.rows c.args.k c.at.result c.at.ensures
