use Rattle.std.proofs.Common.{◌∙◌, sym}
use Rattle.std.proofs.lemmas.List.{length-map}
use Rattle.intel_wide.specs.Rows as part
use Rattle.intel_table.specs.Rows.{of_wide, wide_rows}
use Rattle.intel_table.proofs.wide_count.Goals as goal

pub returns-clause-value : goal.returns-clause-value
unfolding wide_rows
returns-clause-value c = c.count.ensures.value ∙ sym (length-map part.rows of_wide)
