use Rattle.std.proofs.Common.{◌≡◌, ◌∷◌, drop}
use Rattle.c_text.specs.Tokens.{bad_bytes}
use Rattle.c_text.proofs.lexer.first_bad.Given as goal

abbrev pub invariant-loop-c : goal.invariant-loop-c
invariant-loop-c l = bad_bytes (l.fn.begin ∷ l.others) ≡ bad_bytes (drop l.c-index l.others)
