use Rattle.written_forms.specs.Helpers.{helpers}
use Rattle.ready_units.proofs.laws.moved_units_do_the_same.Goals as goal

pub returns : goal.returns
returns c = λ plans source unit fit typed m. c.what_is_written_does_the_same.ensures plans (helpers plans unit) unit (c.movable_units_are_ready.ensures plans source unit fit typed m)
