use Rattle.round_trip.proofs.Again.{text_again}
use Rattle.round_trip.proofs.laws.good_units_are_read_again.Goals as goal

pub returns : goal.returns
returns c = text_again c.printed_text.ensures
