use Rattle.std.proofs.Common.{◌≡◌, ◌≤◌, length, false}
use Rattle.c_parse.specs.DeclarationReading.{qualifiers_front}
use Rattle.c_parse.proofs.declarators.qualifiers.Given as goal

abbrev pub invariant-loop-left : goal.invariant-loop-left
invariant-loop-left l = record {
  goes : qualifiers_front l.dialect false l.tokens ≡ qualifiers_front l.dialect l.constant l.left;
  shorter : length l.left ≤ length l.tokens;
}

abbrev pub decreases-loop-left : goal.decreases-loop-left
decreases-loop-left l = length l.left
