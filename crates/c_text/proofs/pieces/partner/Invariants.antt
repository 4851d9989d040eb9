use Rattle.std.proofs.Common.{◌≡◌, false, drop}
use Rattle.c_text.specs.Reading.{partner}
use Rattle.c_text.proofs.pieces.partner.Given as goal

abbrev pub invariant-loop-b : goal.invariant-loop-b
invariant-loop-b l = record { counts : l.n ≡ l.b-index; goes : partner l.quote false 0 l.text ≡ partner l.quote l.escaped l.n (drop l.b-index l.text) }
