use Rattle.std.proofs.Common.{◌≡◌, drop}
use Rattle.c_tree.specs.View.{views}
use Rattle.type_rules.specs.Passing.{immediate_of}
use Rattle.type_rules.proofs.passing.immediate_of.Given as goal

abbrev pub invariant-loop-p : goal.invariant-loop-p
invariant-loop-p l = immediate_of l.params (views l.all) ≡ immediate_of (drop l.p-index l.params) (views l.left)
