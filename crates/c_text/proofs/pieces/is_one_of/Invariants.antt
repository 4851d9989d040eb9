use Rattle.std.proofs.Common.{◌≡◌, drop}
use Rattle.c_text.specs.Forms.{is_one_of}
use Rattle.c_text.proofs.pieces.is_one_of.Given as goal

abbrev pub invariant-loop-c : goal.invariant-loop-c
invariant-loop-c l = is_one_of l.bytes l.b ≡ is_one_of (drop l.c-index l.bytes) l.b
