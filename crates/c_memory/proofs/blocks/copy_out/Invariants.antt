use Rattle.std.proofs.Common.{◌≡◌, ◌++◌, map, take, drop}
use Rattle.std.specs.Option.{unwrap_or}
use Rattle.c_memory.proofs.blocks.copy_out.Given as goal

abbrev pub invariant-loop-i : goal.invariant-loop-i
invariant-loop-i l = l.into ≡ map (λ byte. unwrap_or byte 0) (take l.i l.initial.bytes) ++ drop l.i l.initial.into
