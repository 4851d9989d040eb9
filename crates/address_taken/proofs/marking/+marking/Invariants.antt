use Rattle.std.proofs.Common.{◌≡◌, ◌||◌, List, ℕ, drop}
use Rattle.c_tree.specs.View.{views}
use Rattle.address_taken.specs.Addressed.{takes_in_all}
use Rattle.address_taken.specs.Marks.{is_marked}
use Rattle.address_taken.proofs.marking.+marking.Given as goal

abbrev pub invariant-mark_all-loop-e : goal.invariant-mark_all-loop-e
invariant-mark_all-loop-e l = (x : List ℕ) → (takes_in_all x (views (drop l.e-index l.all)) || is_marked l.marks x) ≡ (takes_in_all x (views l.all) || is_marked l.fn.marks x)
