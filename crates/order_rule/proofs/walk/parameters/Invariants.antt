use Rattle.std.proofs.Common.{◌≡◌, map, drop}
use Rattle.c_tree.specs.View.{view_declared}
use Rattle.order_rule.specs.Memory.{env_of}
use Rattle.order_rule.specs.Full.{with_objects}
use Rattle.order_rule.proofs.walk.parameters.Given as goal

abbrev pub invariant-loop-d : goal.invariant-loop-d
invariant-loop-d l = with_objects (map view_declared l.all) l.fn.taken (env_of l.fn.memory) ≡ with_objects (map view_declared (drop l.d-index l.all)) l.left (env_of l.memory)
