use Rattle.std.proofs.Common.{◌≡◌, map, take}
use Rattle.c_tree.specs.View.{view_item}
use Rattle.simd_top.specs.Written.{moved_item}
use Rattle.simd_top.proofs.moving.moved_items.Given as goal

abbrev pub invariant-loop-item : goal.invariant-loop-item
invariant-loop-item l = map view_item l.out.items ≡ map (λ x. moved_item (view_item x)) (take l.item-index l.all)
