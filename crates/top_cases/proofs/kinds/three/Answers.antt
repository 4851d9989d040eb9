use Rattle.std.proofs.Common.{◌∙◌, ap, sym}
use Rattle.scalar_core.specs.NumberLaws.{num_of_parts}
use Rattle.seq_core.specs.Terms.{Int}
use Rattle.top_cases.proofs.kinds.three.Goals as goal

pub returns : goal.returns
returns c = c.number.ensures ∙ ap Int (sym (num_of_parts _))
