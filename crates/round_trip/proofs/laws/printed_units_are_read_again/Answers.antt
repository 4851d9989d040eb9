use Rattle.round_trip.proofs.Again.{printed_again}
use Rattle.round_trip.proofs.laws.printed_units_are_read_again.Goals as goal

pub returns : goal.returns
returns c = printed_again c.printed_text.ensures
