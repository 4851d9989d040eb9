use Rattle.std.proofs.Common.{◌≡◌, ◌≤◌, length}
use Rattle.c_parse.specs.Objects.{nothing_said}
use Rattle.c_parse.specs.DeclarationReading.{specifiers_front}
use Rattle.c_parse.specs.DeclarationViews.{view_specification}
use Rattle.c_parse.proofs.specification.specifiers.Given as goal

abbrev pub invariant-loop-alloc : goal.invariant-loop-alloc
invariant-loop-alloc l = record {
  shorter : length l.left ≤ length l.tokens;
  goes : specifiers_front l.dialect nothing_said l.tokens ≡ specifiers_front l.dialect (view_specification l.said) l.left;
}

abbrev pub decreases-loop-alloc : goal.decreases-loop-alloc
decreases-loop-alloc l = length l.left
