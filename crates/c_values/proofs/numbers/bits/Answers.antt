use Rattle.c_values.proofs.BitsLemmas.{bits_are}
use Rattle.c_values.proofs.numbers.bits.Goals as goal

pub returns : goal.returns
returns c =
    bits_are c.args.ty c.args.value c.modulus.result c.rem_euclid.result c.ranges.value (record { sfits = c.modulus.type_inv }) (record { sfits = c.rem_euclid.type_inv })
    c.modulus.ensures c.rem_euclid.ensures.value
