use Rattle.std.proofs.Common.{◌≡◌, ◌++◌, take}
use Rattle.c_macros.proofs.filling.append.Given as goal

abbrev pub invariant-loop-token : goal.invariant-loop-token
invariant-loop-token l = l.out.items ≡ l.fn.out.items ++ take l.token-index l.tokens
