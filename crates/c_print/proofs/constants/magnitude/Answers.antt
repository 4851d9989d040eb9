use Rattle.std.proofs.Common.{◌∙◌, ap}
use Rattle.std.specs.Prelude.{unsigned_abs}
use Rattle.std.specs.Int.{w128}
use Rattle.std.proofs.lemmas.Int.{to_z-of_z}
use Rattle.c_print.proofs.Ranges.{value_fits}
use Rattle.c_print.proofs.constants.magnitude.Goals as goal

pub returns : goal.returns
returns c = let n = c.args.n in c.unsigned_abs.ensures.value ∙ ap unsigned_abs (to_z-of_z w128 n.value (value_fits n.ty n.value n.in_range))
