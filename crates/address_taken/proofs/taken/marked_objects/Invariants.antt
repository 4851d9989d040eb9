use Rattle.std.proofs.Common.{◌≡◌, map, take}
use Rattle.c_tree.specs.View.{view_declared}
use Rattle.address_taken.specs.Marks.{is_marked}
use Rattle.address_taken.proofs.taken.marked_objects.Given as goal

abbrev pub invariant-loop-d : goal.invariant-loop-d
invariant-loop-d l = l.out.items ≡ map (λ d. is_marked l.marks d.name) (map view_declared (take l.d-index l.all))
