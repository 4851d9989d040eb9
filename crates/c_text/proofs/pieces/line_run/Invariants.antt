use Rattle.std.proofs.Common.{◌≡◌, ◌-◌, ◌≤◌, length, drop}
use Rattle.c_text.specs.Forms.{is_no_line_end}
use Rattle.c_text.specs.Reading.{run}
use Rattle.c_text.proofs.pieces.line_run.Given as goal

abbrev pub invariant-loop-n : goal.invariant-loop-n
invariant-loop-n l = record { within : l.n ≤ length l.text; goes : run is_no_line_end 0 l.text ≡ run is_no_line_end l.n (drop l.n l.text) }

abbrev pub decreases-loop-n : goal.decreases-loop-n
decreases-loop-n l = length l.text - l.n
