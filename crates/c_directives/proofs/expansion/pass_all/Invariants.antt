use Rattle.std.proofs.Common.{◌≡◌, ◌≤◌, length}
use Rattle.c_directives.specs.Parts.{parts_of}
use Rattle.c_directives.specs.Directives.{expand_parts}
use Rattle.c_directives.specs.Answers.{state_of}
use Rattle.c_directives.proofs.expansion.pass_all.Given as goal

abbrev pub invariant-loop-part : goal.invariant-loop-part
invariant-loop-part l = record {
  goes : expand_parts l.rules (parts_of l.tokens) (state_of l.fn.state) ≡ expand_parts l.rules (parts_of l.left) (state_of l.state);
  within : l.state.made.work ≤ l.rules.work;
}

abbrev pub decreases-loop-part : goal.decreases-loop-part
decreases-loop-part l = length l.left
