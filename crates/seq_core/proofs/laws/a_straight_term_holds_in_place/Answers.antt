use Rattle.seq_core.proofs.InPlaced.{goes}
use Rattle.seq_core.proofs.laws.a_straight_term_holds_in_place.Goals as goal

pub returns : goal.returns
returns c = λ place params steps t ts f i calls rows ps s u h v d. goes place params steps calls rows ts ps t f i s u h v d
