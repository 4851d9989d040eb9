use Rattle.std.proofs.Common.{◌≡◌, map, take}
use Rattle.c_directives.proofs.predefined.parameters_of.Given as goal

abbrev pub invariant-loop-parameter : goal.invariant-loop-parameter
invariant-loop-parameter l = l.out.items ≡ map (λ x. x.now) (take l.parameter-index l.name.parameters.now)
