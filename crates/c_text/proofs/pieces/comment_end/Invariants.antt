use Rattle.std.proofs.Common.{◌≡◌, false, drop}
use Rattle.c_text.specs.Reading.{comment_end}
use Rattle.c_text.proofs.pieces.comment_end.Given as goal

abbrev pub invariant-loop-b : goal.invariant-loop-b
invariant-loop-b l = record { counts : l.n ≡ l.b-index; goes : comment_end false 0 l.text ≡ comment_end l.star l.n (drop l.b-index l.text) }
