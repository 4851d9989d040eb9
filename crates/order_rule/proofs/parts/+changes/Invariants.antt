use Rattle.std.proofs.Common.{◌≡◌, drop}
use Rattle.c_tree.specs.View.{view, views}
use Rattle.order_rule.specs.Parts.{changes_well_in_all}
use Rattle.order_rule.proofs.parts.+changes.Given as goal

abbrev pub invariant-changes_well_in_all-loop-e : goal.invariant-changes_well_in_all-loop-e
invariant-changes_well_in_all-loop-e l = changes_well_in_all (view l.part.whole.now) (views (drop l.e-index l.all)) ≡ changes_well_in_all (view l.part.whole.now) (views l.all)
