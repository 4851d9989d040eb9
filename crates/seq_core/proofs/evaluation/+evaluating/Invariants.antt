use Rattle.std.proofs.Common.{◌≡◌, ◌++◌, drop, Some}
use Rattle.seq_core.specs.View.{view_all}
use Rattle.seq_core.specs.Actions.{just, then_acts, values_in}
use Rattle.seq_core.proofs.evaluation.+evaluating.Given as goal

abbrev pub invariant-operands-loop-t : goal.invariant-operands-loop-t
invariant-operands-loop-t l = values_in l.ps l.ss (view_all l.all) l.initial.memory.blocks ≡ then_acts (values_in l.ps l.ss (view_all (drop l.t-index l.all))) (λ vs. just (Some (l.out.items ++ vs))) l.memory.blocks
