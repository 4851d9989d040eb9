use Rattle.std.proofs.Common.{◌≡◌, ◌↔◌, drop}
use Rattle.c_tree.specs.View.{views}
use Rattle.c_tree.specs.Same.{stripped_all}
use Rattle.c_tree.proofs.same.+same.Given as goal

abbrev pub invariant-same_exprs-loop-x : goal.invariant-same_exprs-loop-x
invariant-same_exprs-loop-x l = (stripped_all (views l.a) ≡ stripped_all (views l.b)) ↔ (stripped_all (views (drop l.x-index l.a)) ≡ stripped_all (views l.rest))
