use Rattle.std.proofs.Common.{◌≡◌, drop}
use Rattle.c_tree.specs.View.{views}
use Rattle.order_rule.specs.Callees.{callees_of}
use Rattle.order_rule.specs.Memory.{env_of}
use Rattle.order_rule.specs.Parts.{broken_in_all}
use Rattle.order_rule.proofs.parts.+broken.Given as goal

abbrev pub invariant-broken_in_all-loop-e : goal.invariant-broken_in_all-loop-e
invariant-broken_in_all-loop-e l =
    broken_in_all (env_of l.memory) (callees_of l.callees) (views (drop l.e-index l.all)) ≡ broken_in_all (env_of l.memory) (callees_of l.callees) (views l.all)
