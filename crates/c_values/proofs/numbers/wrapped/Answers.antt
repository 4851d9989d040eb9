use Rattle.std.proofs.Common.{◌∙◌, ap, pos, ℕ, ℤ}
use Rattle.std.specs.Int.{w128}
use Rattle.std.proofs.lemmas.Int.{to_z-of_z}
use Rattle.scalar_core.specs.TwosComplement.{bits_of}
use Rattle.scalar_core.specs.Numbers.{num_of}
use Rattle.c_values.proofs.BitsLemmas.{num_of_bits}
use Rattle.c_values.proofs.numbers.wrapped.Goals as goal

pub returns : goal.returns
returns c =
    c.from_bits.ensures ∙ ap (λ (n : ℕ). num_of c.args.ty (pos n)) c.bits.ensures
    ∙ ap (λ (z : ℤ). num_of c.args.ty (pos (bits_of c.args.ty z))) (to_z-of_z w128 c.args.value c.ranges.value) ∙ num_of_bits c.args.ty c.args.value
