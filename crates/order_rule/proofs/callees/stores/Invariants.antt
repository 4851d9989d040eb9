use Rattle.std.proofs.Common.{◌≡◌, drop}
use Rattle.order_rule.specs.Callees.{stores}
use Rattle.order_rule.proofs.callees.stores.Given as goal

abbrev pub invariant-loop-p : goal.invariant-loop-p
invariant-loop-p l = stores l.params ≡ stores (drop l.p-index l.params)
