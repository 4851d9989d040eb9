use Rattle.std.proofs.Common.{◌≡◌, ◌++◌, map, take}
use Rattle.c_directives.specs.Definitions.{piece}
use Rattle.c_directives.specs.Entries.{numbers_of}
use Rattle.c_directives.proofs.definitions.push_pieces.Given as goal

abbrev pub invariant-loop-token : goal.invariant-loop-token
invariant-loop-token l = l.out.items ≡ l.fn.out.items ++ map (piece (numbers_of l.numbers)) (take l.token-index l.body)
