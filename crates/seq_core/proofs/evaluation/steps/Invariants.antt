use Rattle.std.proofs.Common.{◌≡◌, [], map, drop}
use Rattle.seq_core.specs.View.{view}
use Rattle.seq_core.specs.Actions.{steps_in}
use Rattle.seq_core.proofs.evaluation.steps.Given as goal

abbrev pub invariant-loop-t : goal.invariant-loop-t
invariant-loop-t l = steps_in l.ps [] (map view l.all) l.initial.memory.blocks ≡ steps_in l.ps l.out.items (map view (drop l.t-index l.all)) l.memory.blocks
