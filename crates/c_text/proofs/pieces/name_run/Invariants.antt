use Rattle.std.proofs.Common.{◌≡◌, ◌-◌, ◌≤◌, length, drop}
use Rattle.c_text.specs.Forms.{is_name_byte}
use Rattle.c_text.specs.Reading.{run}
use Rattle.c_text.proofs.pieces.name_run.Given as goal

abbrev pub invariant-loop-n : goal.invariant-loop-n
invariant-loop-n l = record { within : l.n ≤ length l.text; goes : run is_name_byte 0 l.text ≡ run is_name_byte l.n (drop l.n l.text) }

abbrev pub decreases-loop-n : goal.decreases-loop-n
decreases-loop-n l = length l.text - l.n
