use Rattle.std.proofs.Common.{◌≡◌, drop}
use Rattle.c_tree.specs.View.{views}
use Rattle.order_rule.specs.Callees.{callees_of}
use Rattle.order_rule.specs.Memory.{env_of}
use Rattle.order_rule.specs.Reading.{reads_in_all}
use Rattle.order_rule.proofs.reading.+reads.Given as goal

abbrev pub invariant-reads_in_all-loop-e : goal.invariant-reads_in_all-loop-e
invariant-reads_in_all-loop-e l =
    reads_in_all l.outside (env_of l.memory) (callees_of l.callees) (views (drop l.e-index l.all)) ≡ reads_in_all l.outside (env_of l.memory) (callees_of l.callees) (views l.all)
