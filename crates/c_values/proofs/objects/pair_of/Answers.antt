use Rattle.std.proofs.Common.{◌∙◌, replicate, refl}
use Rattle.c_values.proofs.ByteLemmas.{joined}
use Rattle.c_values.proofs.objects.pair_of.Goals as goal

pub returns : goal.returns
returns c =
    joined 16 c.copy_from_slice.new.self c.copy_from_slice-2.new.self (replicate 16 0) c.copy_from_slice.ensures.len refl
    ∙ rw (c.copy_from_slice.ensures.after, c.copy_from_slice-2.ensures.after) refl
