use Rattle.std.proofs.Common.{◌≡◌, List, drop}
use Rattle.c_tree.specs.View.{view_stmts}
use Rattle.order_rule.specs.Callees.{callees_of}
use Rattle.address_taken.specs.Taken.{seen_all}
use Rattle.order_rule.specs.Memory.{env_of}
use Rattle.order_rule.specs.Full.{Full, full_statements, beyond_all, noted_all, found}
use Rattle.order_rule.proofs.walk.+walk.Given as goal

abbrev pub invariant-statements-loop-s : goal.invariant-statements-loop-s
invariant-statements-loop-s l = record {
  found : (more : List Full) →
      noted_all (callees_of l.callees) (full_statements (view_stmts l.all) (seen_all l.fn.parts) (env_of l.fn.memory) more) (found l.fn.before) ≡
      noted_all (callees_of l.callees) (full_statements (view_stmts (drop l.s-index l.all)) (seen_all l.left) (env_of l.memory) more) (found l.now);
  names : beyond_all (view_stmts l.all) (seen_all l.fn.parts) (env_of l.fn.memory) ≡ beyond_all (view_stmts (drop l.s-index l.all)) (seen_all l.left) (env_of l.memory);
}
