use Rattle.seq_pack.proofs.Planned.{plans_are_rows}
use Rattle.seq_pack.proofs.laws.plans_are_rows.Goals as goal

pub returns : goal.returns
returns c = plans_are_rows
