use Rattle.std.proofs.Common.{◌≡◌, false, map, take}
use Rattle.c_directives.proofs.definitions.no_flags.Given as goal

abbrev pub invariant-loop-parameter : goal.invariant-loop-parameter
invariant-loop-parameter l = l.flags.items ≡ map (λ p. false) (take l._parameter-index l.parameters)
