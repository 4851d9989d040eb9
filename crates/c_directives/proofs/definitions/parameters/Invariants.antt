use Rattle.std.proofs.Common.{◌≡◌, length}
use Rattle.c_directives.specs.Definitions.{parameters}
use Rattle.c_directives.specs.Entries.{behind_names}
use Rattle.c_directives.proofs.definitions.parameters.Given as goal

abbrev pub invariant-loop-left : goal.invariant-loop-left
invariant-loop-left l = parameters l.tokens ≡ behind_names l.names.items (parameters l.left)

abbrev pub decreases-loop-left : goal.decreases-loop-left
decreases-loop-left l = length l.left
