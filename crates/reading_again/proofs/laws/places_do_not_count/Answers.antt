use Rattle.reading_again.proofs.Meanings.{same_means}
use Rattle.reading_again.proofs.laws.places_do_not_count.Goals as goal

pub returns : goal.returns
returns c = same_means
