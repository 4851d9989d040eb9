use Rattle.std.proofs.Common.{◌≡◌, map, drop}
use Rattle.std.specs.Vec.Iter.{into_iter_items}
use Rattle.c_tree.specs.View.{view, views}
use Rattle.type_rules.specs.Passing.{passed}
use Rattle.type_rules.proofs.Arguments.{behind}
use Rattle.type_rules.proofs.passing.passed.Given as goal

abbrev pub invariant-loop-p : goal.invariant-loop-p
invariant-loop-p l = passed l.params (views (into_iter_items l.initial.left)) ≡ behind (map view l.out.items) (passed (drop l.p-index l.params) (views (into_iter_items l.left)))
