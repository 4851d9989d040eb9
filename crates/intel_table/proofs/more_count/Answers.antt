use Rattle.std.proofs.Common.{◌∙◌, sym}
use Rattle.std.proofs.lemmas.List.{length-map}
use Rattle.intel_more.specs.Rows as part
use Rattle.intel_table.specs.Rows.{of_more, more_rows}
use Rattle.intel_table.proofs.more_count.Goals as goal

pub returns-clause-value : goal.returns-clause-value
unfolding more_rows
returns-clause-value c = c.count.ensures.value ∙ sym (length-map part.rows of_more)
