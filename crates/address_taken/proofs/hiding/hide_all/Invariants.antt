use Rattle.std.proofs.Common.{◌≡◌, ◌||◌, ◌&&◌, not, List, ℕ, drop}
use Rattle.c_tree.specs.View.{view_stmts}
use Rattle.address_taken.specs.Marks.{is_marked, is_among, declared_in}
use Rattle.address_taken.proofs.hiding.hide_all.Given as goal

abbrev pub invariant-loop-s : goal.invariant-loop-s
invariant-loop-s l = record {
  unmarked : (x : List ℕ) → (not (declared_in x (view_stmts (drop l.s-index l.all))) && is_marked l.marks x) ≡ (not (declared_in x (view_stmts l.all)) && is_marked l.fn.marks x);
  kept : (x : List ℕ) → (is_marked l.marks x || is_among x l.hidden.items) ≡ (is_marked l.fn.marks x || is_among x l.fn.hidden.items);
}
