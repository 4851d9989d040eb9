use Rattle.std.proofs.Common.{◌≡◌, ◌-◌, ◌≤◌, length, drop}
use Rattle.c_text.specs.Reading.{number_run}
use Rattle.c_text.proofs.pieces.number_run.Given as goal

abbrev pub invariant-loop-n : goal.invariant-loop-n
invariant-loop-n l = record { within : l.n ≤ length l.text; goes : number_run l.first 0 l.text ≡ number_run l.before l.n (drop l.n l.text) }

abbrev pub decreases-loop-n : goal.decreases-loop-n
decreases-loop-n l = length l.text - l.n
