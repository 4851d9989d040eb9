use Rattle.std.proofs.Common.{◌≡◌, ◌++◌, map, take, drop}
use Rattle.c_memory.specs.Memory.{ended}
use Rattle.c_memory.proofs.blocks.end_all.Given as goal

abbrev pub invariant-loop-block : goal.invariant-loop-block
invariant-loop-block l = l.blocks ≡ map ended (take l.block-index l.initial.blocks) ++ drop l.block-index l.initial.blocks
