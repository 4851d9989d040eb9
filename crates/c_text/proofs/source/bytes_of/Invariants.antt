use Rattle.std.proofs.Common.{◌≡◌, ◌++◌, drop}
use Rattle.c_text.specs.Source.{bytes_of}
use Rattle.c_text.proofs.source.bytes_of.Given as goal

abbrev pub invariant-loop-c : goal.invariant-loop-c
invariant-loop-c l = bytes_of l.chars ≡ l.out.items ++ bytes_of (drop l.c-index l.chars)
