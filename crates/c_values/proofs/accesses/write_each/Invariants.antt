use Rattle.std.proofs.Common.{◌≡◌, drop}
use Rattle.c_values.specs.Accesses.{writes_in}
use Rattle.c_values.proofs.accesses.write_each.Given as goal

abbrev pub invariant-loop-access : goal.invariant-loop-access
invariant-loop-access l =
    writes_in l.at l.register l.accesses l.initial.memory.blocks ≡ writes_in l.at l.register (drop l.access-index l.accesses) l.memory.blocks
