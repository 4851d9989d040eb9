use Rattle.std.proofs.Common.{◌≡◌, map, take}
use Rattle.c_tree.specs.View.{view_declared}
use Rattle.simd_top.specs.Written.{moved_object}
use Rattle.simd_top.proofs.moving.moved_objects.Given as goal

abbrev pub invariant-loop-o : goal.invariant-loop-o
invariant-loop-o l = map view_declared l.out.items ≡ map (λ o. moved_object (view_declared o)) (take l.o-index l.all)
