use Rattle.std.proofs.Common.{◌≡◌, drop}
use Rattle.c_directives.specs.Definitions.{same_body}
use Rattle.c_directives.proofs.same.same_body.Given as goal

abbrev pub invariant-loop-piece : goal.invariant-loop-piece
invariant-loop-piece l = same_body l.body l.other ≡ same_body (drop l.piece-index l.body) l.right
