use Rattle.reading_again.proofs.Standing.{is_the_same, same_names, matches_too, does_too}
use Rattle.reading_again.proofs.laws.a_unit_that_differs_in_places_stands_for_it.Goals as goal

pub returns : goal.returns
returns c = record { same = is_the_same; names = same_names; matches = matches_too; does = does_too }
