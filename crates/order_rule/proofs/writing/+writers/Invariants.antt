use Rattle.std.proofs.Common.{◌≡◌, drop}
use Rattle.c_tree.specs.View.{views}
use Rattle.order_rule.specs.Callees.{callees_of}
use Rattle.order_rule.specs.Memory.{env_of}
use Rattle.order_rule.specs.Writing.{sum, writers_in_all}
use Rattle.order_rule.proofs.writing.+writers.Given as goal

abbrev pub invariant-writers_in_all-loop-e : goal.invariant-writers_in_all-loop-e
invariant-writers_in_all-loop-e l =
    writers_in_all (env_of l.memory) (callees_of l.callees) (views l.all) ≡ sum l.total (writers_in_all (env_of l.memory) (callees_of l.callees) (views (drop l.e-index l.all)))
