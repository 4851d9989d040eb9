use Rattle.std.proofs.Common.{◌∙◌, sym}
use Rattle.std.proofs.lemmas.List.{length-map}
use Rattle.neon_move.specs.Rows as part
use Rattle.neon_table.specs.Rows.{of_move, move_rows}
use Rattle.neon_table.proofs.move_count.Goals as goal

pub returns-clause-value : goal.returns-clause-value
unfolding move_rows
returns-clause-value c = c.count.ensures.value ∙ sym (length-map part.rows of_move)
