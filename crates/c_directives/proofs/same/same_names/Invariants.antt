use Rattle.std.proofs.Common.{◌≡◌, drop}
use Rattle.c_directives.specs.Definitions.{same_names}
use Rattle.c_directives.proofs.same.same_names.Given as goal

abbrev pub invariant-loop-name : goal.invariant-loop-name
invariant-loop-name l = same_names l.names l.others ≡ same_names (drop l.name-index l.names) l.right
