use Rattle.shuffle_plans.proofs.Rows.{selections_are_rows}
use Rattle.shuffle_plans.proofs.laws.selections_are_rows.Goals as goal

pub returns-clause-rows : goal.returns-clause-rows
returns-clause-rows c = selections_are_rows
