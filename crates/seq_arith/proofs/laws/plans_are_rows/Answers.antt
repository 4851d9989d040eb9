use Rattle.seq_arith.proofs.Typed.{plans_are_rows}
use Rattle.seq_arith.proofs.laws.plans_are_rows.Goals as goal

pub returns : goal.returns
returns c = plans_are_rows
