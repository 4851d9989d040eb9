use Rattle.c_values.proofs.BitsLemmas.{boolean_of_bits, other_of_bits}
use Rattle.c_values.proofs.numbers.from_bits.Goals as goal

pub returns-then-is_boolean : goal.returns-then-is_boolean
returns-then-is_boolean c =
    boolean_of_bits c.args.ty c.args.bits c.from.result c.number.result (cc) (record { sfits = c.from.type_inv }) c.from.ensures c.number.ensures

pub returns-else-is_boolean : goal.returns-else-is_boolean
returns-else-is_boolean c =
    other_of_bits c.args.ty c.args.bits c.from-else-is_boolean.result c.number-else-is_boolean.result c.convert.result (cc) c.ranges.bits.fits (record { sfits = c.from-else-is_boolean.type_inv })
    c.from-else-is_boolean.ensures c.number-else-is_boolean.ensures c.convert.ensures.value
