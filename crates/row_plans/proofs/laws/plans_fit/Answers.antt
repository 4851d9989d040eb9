use Rattle.row_plans.proofs.Fitting.{plans_fit}
use Rattle.row_plans.proofs.laws.plans_fit.Goals as goal

pub returns : goal.returns
returns c =
    plans_fit (record {
      stand = c.a_sequence_of_values_stands_for_its_row.ensures;
      arith = c.lanes_are_rows.ensures;
      pack = c.packs_are_rows.ensures;
      serve = c.forms_serve.ensures;
    })
