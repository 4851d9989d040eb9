use Rattle.std.proofs.Common.{◌≡◌, ◌+◌, ◌*◌, ◌^◌, length, drop}
use Rattle.c_constants.specs.IntegerConstant.{radix_of, number_of}
use Rattle.c_constants.proofs.integer.number.Given as goal

abbrev pub invariant-loop-digit : goal.invariant-loop-digit
invariant-loop-digit l =
    number_of (radix_of l.base) l.digits ≡ l.number * radix_of l.base ^ length (drop l.digit-index l.digits) + number_of (radix_of l.base) (drop l.digit-index l.digits)
