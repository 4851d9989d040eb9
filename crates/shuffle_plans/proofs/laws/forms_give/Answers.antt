use Rattle.shuffle_plans.proofs.Planned.{two_value}
use Rattle.shuffle_plans.proofs.laws.forms_give.Goals as goal

pub returns : goal.returns
returns c = two_value
