use Rattle.std.proofs.Common.{◌≡◌, ◌≤◌, map, length}
use Rattle.c_tree.specs.View.{view_item}
use Rattle.c_parse.specs.Limits.{first_past}
use Rattle.c_parse.proofs.limits.first_past.Given as goal

abbrev pub invariant-loop-left : goal.invariant-loop-left
invariant-loop-left l = record {
  room : l.before ≤ 4096;
  goes : first_past 0 (map view_item l.items) ≡ first_past l.before (map view_item l.left);
}

abbrev pub decreases-loop-left : goal.decreases-loop-left
decreases-loop-left l = length l.left
