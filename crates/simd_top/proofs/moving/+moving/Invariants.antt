use Rattle.std.proofs.Common.{◌≡◌, map, take}
use Rattle.c_tree.specs.View.{view}
use Rattle.simd_top.specs.Written.{moved_tree}
use Rattle.simd_top.proofs.moving.+moving.Given as goal

abbrev pub invariant-moved_trees-loop-e : goal.invariant-moved_trees-loop-e
invariant-moved_trees-loop-e l = map view l.out.items ≡ map (λ e. moved_tree (view e)) (take l.e-index l.all)
