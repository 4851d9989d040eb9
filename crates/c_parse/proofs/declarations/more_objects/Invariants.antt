use Rattle.std.proofs.Common.{◌≡◌, ◌≤◌, length, map}
use Rattle.c_tree.specs.View.{view_declared}
use Rattle.c_parse.specs.DeclarationReading.{more_objects}
use Rattle.c_parse.specs.DeclarationViews.{view_specification}
use Rattle.c_parse.proofs.declarations.more_objects.Given as goal

abbrev pub invariant-loop-behind : goal.invariant-loop-behind
invariant-loop-behind l = record {
  shorter : length l.left ≤ length l.tokens;
  goes : more_objects l.dialect (view_specification l.said) (map view_declared l.fn.start.items) l.tokens ≡ more_objects l.dialect (view_specification l.said) (map view_declared l.all.items) l.left;
}

abbrev pub decreases-loop-behind : goal.decreases-loop-behind
decreases-loop-behind l = length l.left
