use Rattle.std.proofs.Common.{◌≡◌, ◌++◌, drop}
use Rattle.seq_core.specs.View.{view_all}
use Rattle.seq_core.specs.InPlace.{leaves_of_all}
use Rattle.seq_core.proofs.in_place.+leaves.Given as goal

abbrev pub invariant-push_all_leaves-loop-t : goal.invariant-push_all_leaves-loop-t
invariant-push_all_leaves-loop-t l = l.out.items ++ leaves_of_all (view_all (drop l.t-index l.all)) ≡ l.initial.out.items ++ leaves_of_all (view_all l.all)
