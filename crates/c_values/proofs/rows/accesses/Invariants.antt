use Rattle.std.proofs.Common.{◌≡◌}
use Rattle.c_memory.specs.MeaningRows.{first_accesses}
use Rattle.c_values.proofs.rows.accesses.Given as goal

abbrev pub invariant-loop-k : goal.invariant-loop-k
invariant-loop-k g l = l.all.items ≡ first_accesses (g.T.VectorTable.access_of l.op l.args l.imm) l.k
