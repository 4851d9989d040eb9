use Rattle.std.proofs.Common.{◌≡◌, List, ℕ, drop}
use Rattle.c_tree.specs.View.{views}
use Rattle.order_rule.specs.Counting.{times_of, counted_in_all}
use Rattle.order_rule.proofs.counting.+counting.Given as goal

abbrev pub invariant-count_all-loop-e : goal.invariant-count_all-loop-e
invariant-count_all-loop-e l = (x : List ℕ) → counted_in_all x (views (drop l.e-index l.all)) (times_of l.counts x) ≡ counted_in_all x (views l.all) (times_of l.fn.counts x)
