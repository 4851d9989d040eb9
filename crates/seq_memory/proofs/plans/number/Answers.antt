use Rattle.std.proofs.Common.{◌∙◌, sym, refl}
use Rattle.std.specs.Int.{w128}
use Rattle.std.proofs.lemmas.Int.{to_z-of_z}
use Rattle.scalar_core.specs.Numbers.{num_of}
use Rattle.scalar_core.specs.NumberLaws.{num_same, num_of_in_range}
use Rattle.seq_memory.proofs.plans.number.Goals as goal

pub returns : goal.returns
unfolding num_of
returns c =
    num_same _ (num_of c.args.ty c.args.value) refl
    (to_z-of_z w128 c.args.value c.ranges.value ∙ sym (num_of_in_range c.args.ty c.args.value c.requires))
