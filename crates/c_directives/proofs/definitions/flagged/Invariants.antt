use Rattle.std.proofs.Common.{◌≡◌, false, map, drop}
use Rattle.c_directives.specs.Definitions.{flagged}
use Rattle.c_directives.proofs.definitions.flagged.Given as goal

abbrev pub invariant-loop-piece : goal.invariant-loop-piece
invariant-loop-piece l = flagged l.body (map (λ p. false) l.parameters) ≡ flagged (drop l.piece-index l.body) l.flags.items
