use Rattle.simd_top.proofs.ReadBack.{stands}
use Rattle.simd_top.proofs.standing.what_is_read_stands_for_what_is_written.Goals as goal

pub returns : goal.returns
returns c = stands c.good_units_are_read_again.ensures c.same_trees_get_the_same_types.ensures.read_again c.places_do_not_count.ensures
    c.a_unit_that_differs_in_places_stands_for_it.ensures.same c.a_unit_that_differs_in_places_stands_for_it.ensures.names
    c.a_unit_that_differs_in_places_stands_for_it.ensures.matches c.a_unit_that_differs_in_places_stands_for_it.ensures.does
