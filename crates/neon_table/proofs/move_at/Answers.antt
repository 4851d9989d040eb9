use Rattle.std.proofs.Common.{◌<◌, length, map, arith}
use Rattle.std.proofs.lemmas.List.{length-map}
use Rattle.row_names.proofs.Listed.{listed}
use Rattle.neon_move.specs.Rows as part
use Rattle.neon_table.specs.Rows.{of_move, move_rows}
use Rattle.neon_table.proofs.move_at.Goals as goal

pub at-requires : goal.at-requires
unfolding move_rows
at-requires c = let all = length-map part.rows of_move in let inside : c.args.k < length (map of_move part.rows) = c.requires in omega (arith, inside, all)

pub returns : goal.returns
unfolding move_rows
returns c = listed of_move part.rows c.args.k c.at.result c.at.ensures
