-- What is claimed of the sequences of rows.
use Rattle.written_forms.specs.Planned.{AreFit}
use Rattle.row_plans.specs.Plans.{Prices, plan_for}

-- each sequence fits its row, whatever the prices are
abbrev pub PlansFit : Type 0
PlansFit = (prices : Prices) → AreFit (plan_for prices)
