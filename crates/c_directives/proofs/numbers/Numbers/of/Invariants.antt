use Rattle.std.proofs.Common.{◌≡◌, ◌||◌, ℕ, List, [], take, drop}
use Rattle.c_directives.specs.Definitions.{number_of, has_twice}
use Rattle.c_directives.specs.Entries.{numbers_of}
use Rattle.c_directives.proofs.numbers.Numbers.of.Given as goal

abbrev pub invariant-loop-i : goal.invariant-loop-i
invariant-loop-i l = record {
  numbers : (x : List ℕ) → numbers_of l.numbers x ≡ number_of x 0 (take l.i l.names);
  twice : has_twice [] l.names ≡ (l.numbers.has_twice || has_twice (take l.i l.names) (drop l.i l.names));
}
