use Rattle.std.proofs.Common.{◌≡◌, drop}
use Rattle.c_values.specs.Accesses.{reads_in}
use Rattle.c_values.proofs.accesses.read_each.Given as goal

abbrev pub invariant-loop-access : goal.invariant-loop-access
invariant-loop-access l =
    reads_in l.memory.blocks l.at l.accesses l.initial.register ≡ reads_in l.memory.blocks l.at (drop l.access-index l.accesses) l.register
