use Rattle.std.proofs.Common.{◌∙◌, sym}
use Rattle.std.proofs.lemmas.List.{length-map}
use Rattle.neon_lane.specs.Rows as part
use Rattle.neon_table.specs.Rows.{of_lane, lane_rows}
use Rattle.neon_table.proofs.lane_count.Goals as goal

pub returns-clause-value : goal.returns-clause-value
unfolding lane_rows
returns-clause-value c = c.count.ensures.value ∙ sym (length-map part.rows of_lane)
