use Rattle.std.proofs.Common.{◌≡◌, drop}
use Rattle.c_text.specs.Forms.{all_are, is_no_line_end}
use Rattle.c_text.proofs.pieces.stays_on_line.Given as goal

abbrev pub invariant-loop-b : goal.invariant-loop-b
invariant-loop-b l = all_are is_no_line_end l.bytes ≡ all_are is_no_line_end (drop l.b-index l.bytes)
