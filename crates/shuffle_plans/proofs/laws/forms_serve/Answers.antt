use Rattle.shuffle_plans.proofs.Serving.{forms_serve}
use Rattle.shuffle_plans.proofs.laws.forms_serve.Goals as goal

pub returns : goal.returns
returns c = forms_serve c.selections_are_rows.ensures.places
