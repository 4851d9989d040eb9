use Rattle.std.proofs.Common.{◌≡◌, map, drop}
use Rattle.c_tree.specs.View.{view_declared}
use Rattle.c_meaning.specs.States.{seen_state}
use Rattle.c_meaning.specs.Flagged.{begin_parameters}
use Rattle.c_meaning.proofs.state.State.begin_parameters.Given as goal

abbrev pub invariant-loop-d : goal.invariant-loop-d
invariant-loop-d l =
    begin_parameters (map view_declared l.params) l.initial.flags_left l.initial.left (seen_state l.initial.self)
    ≡ begin_parameters (map view_declared (drop l.d-index l.params)) l.flags_left l.left (seen_state l.self)
