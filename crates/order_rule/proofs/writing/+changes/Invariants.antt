use Rattle.std.proofs.Common.{◌≡◌, drop}
use Rattle.c_tree.specs.View.{views}
use Rattle.order_rule.specs.Writing.{changes_in_all}
use Rattle.order_rule.proofs.writing.+changes.Given as goal

abbrev pub invariant-changes_in_all-loop-e : goal.invariant-changes_in_all-loop-e
invariant-changes_in_all-loop-e l = changes_in_all l.name (views (drop l.e-index l.all)) ≡ changes_in_all l.name (views l.all)
