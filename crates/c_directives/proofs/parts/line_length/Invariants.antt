use Rattle.std.proofs.Common.{◌≡◌, ◌+◌, ◌-◌, ◌≤◌, length, drop}
use Rattle.c_directives.specs.Parts.{line_length}
use Rattle.c_directives.proofs.parts.line_length.Given as goal

abbrev pub invariant-loop-n : goal.invariant-loop-n
invariant-loop-n l = record { within : l.n ≤ length l.tokens; goes : line_length l.tokens ≡ l.n + line_length (drop l.n l.tokens) }

abbrev pub decreases-loop-n : goal.decreases-loop-n
decreases-loop-n l = length l.tokens - l.n
