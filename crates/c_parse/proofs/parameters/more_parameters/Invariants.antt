use Rattle.std.proofs.Common.{◌≡◌, ◌≤◌, length, map}
use Rattle.c_tree.specs.View.{view_declared}
use Rattle.c_parse.specs.DeclarationReading.{more_parameters}
use Rattle.c_parse.proofs.parameters.more_parameters.Given as goal

abbrev pub invariant-loop-behind : goal.invariant-loop-behind
invariant-loop-behind l = record {
  shorter : length l.left ≤ length l.tokens;
  goes : more_parameters l.dialect (map view_declared l.fn.start.items) l.tokens ≡ more_parameters l.dialect (map view_declared l.all.items) l.left;
}

abbrev pub decreases-loop-behind : goal.decreases-loop-behind
decreases-loop-behind l = length l.left
