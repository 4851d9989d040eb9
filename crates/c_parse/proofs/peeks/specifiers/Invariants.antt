use Rattle.std.proofs.Common.{◌≡◌, ◌≤◌, length}
use Rattle.c_parse.specs.Reading.{specifiers_front, no_specifiers}
use Rattle.c_parse.proofs.peeks.specifiers.Given as goal

abbrev pub invariant-loop-left : goal.invariant-loop-left
invariant-loop-left l = record {
  goes : specifiers_front l.dialect no_specifiers l.tokens ≡ specifiers_front l.dialect l.words l.left;
  shorter : length l.left ≤ length l.tokens;
}

abbrev pub decreases-loop-left : goal.decreases-loop-left
decreases-loop-left l = length l.left
