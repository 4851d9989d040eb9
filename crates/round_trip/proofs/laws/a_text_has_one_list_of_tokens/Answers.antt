use Rattle.round_trip.proofs.Alignments.{same_tokens}
use Rattle.round_trip.proofs.laws.a_text_has_one_list_of_tokens.Goals as goal

pub returns : goal.returns
returns c = same_tokens
