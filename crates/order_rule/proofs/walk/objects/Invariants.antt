use Rattle.std.proofs.Common.{◌≡◌, List, map, drop}
use Rattle.c_tree.specs.View.{view_declared}
use Rattle.order_rule.specs.Callees.{callees_of}
use Rattle.order_rule.specs.Memory.{env_of}
use Rattle.order_rule.specs.Full.{Full, full_objects, with_objects, noted_all, found}
use Rattle.order_rule.proofs.walk.objects.Given as goal

abbrev pub invariant-loop-d : goal.invariant-loop-d
invariant-loop-d l = record {
  found : (more : List Full) →
      noted_all (callees_of l.callees) (full_objects (map view_declared l.all) l.fn.taken (env_of l.fn.memory) more) (found l.fn.before) ≡
      noted_all (callees_of l.callees) (full_objects (map view_declared (drop l.d-index l.all)) l.left (env_of l.memory) more) (found l.now);
  names : with_objects (map view_declared l.all) l.fn.taken (env_of l.fn.memory) ≡ with_objects (map view_declared (drop l.d-index l.all)) l.left (env_of l.memory);
}
