use Rattle.std.proofs.Common.{◌≡◌, ◌||◌, ◌&&◌, not, List, ℕ, map, drop}
use Rattle.c_tree.specs.View.{view_declared}
use Rattle.address_taken.specs.Addressed.{is_declared}
use Rattle.address_taken.specs.Marks.{is_marked, is_among}
use Rattle.address_taken.proofs.hiding.hide_objects.Given as goal

abbrev pub invariant-loop-d : goal.invariant-loop-d
invariant-loop-d l = record {
  unmarked : (x : List ℕ) → (not (is_declared x (map view_declared (drop l.d-index l.all))) && is_marked l.marks x) ≡ (not (is_declared x (map view_declared l.all)) && is_marked l.fn.marks x);
  kept : (x : List ℕ) → (is_marked l.marks x || is_among x l.hidden.items) ≡ (is_marked l.fn.marks x || is_among x l.fn.hidden.items);
}
