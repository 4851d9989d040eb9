use Rattle.reading_again.proofs.FixedUnits.{unit_back}
use Rattle.reading_again.proofs.laws.a_typed_unit_is_given_back.Goals as goal

pub returns : goal.returns
returns c = unit_back
