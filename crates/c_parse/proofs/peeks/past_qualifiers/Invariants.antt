use Rattle.std.proofs.Common.{◌≡◌, ◌≤◌, length}
use Rattle.c_parse.specs.Reading.{past_qualifiers}
use Rattle.c_parse.proofs.peeks.past_qualifiers.Given as goal

abbrev pub invariant-loop-left : goal.invariant-loop-left
invariant-loop-left l = record {
  goes : past_qualifiers l.dialect l.tokens ≡ past_qualifiers l.dialect l.left;
  shorter : length l.left ≤ length l.tokens;
}

abbrev pub decreases-loop-left : goal.decreases-loop-left
decreases-loop-left l = length l.left
