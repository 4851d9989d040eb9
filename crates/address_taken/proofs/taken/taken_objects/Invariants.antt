use Rattle.std.proofs.Common.{◌≡◌, List, ℕ, map, drop, reverse}
use Rattle.c_tree.specs.View.{view_declared}
use Rattle.address_taken.specs.Marks.{is_marked}
use Rattle.address_taken.specs.Taken.{taken_objects}
use Rattle.address_taken.proofs.Walk.{before_objects}
use Rattle.address_taken.proofs.taken.taken_objects.Given as goal

abbrev pub invariant-loop-i : goal.invariant-loop-i
invariant-loop-i l = record {
  answer : reverse l.out.items ≡ taken_objects (map view_declared (drop l.i l.all)) (is_marked l.fn.marks);
  marked : (x : List ℕ) → is_marked l.marks x ≡ before_objects (drop l.i l.all) (is_marked l.fn.marks) x;
}
