use Rattle.std.proofs.Common.{◌≡◌, drop}
use Rattle.order_rule.specs.Callees.{reads}
use Rattle.order_rule.proofs.callees.reads.Given as goal

abbrev pub invariant-loop-p : goal.invariant-loop-p
invariant-loop-p l = reads l.params ≡ reads (drop l.p-index l.params)
