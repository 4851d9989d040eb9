use Rattle.std.proofs.Common.{◌≡◌, ◌++◌, length}
use Rattle.std.specs.Option.{option_map}
use Rattle.c_directives.specs.Headers.{up_to_mark}
use Rattle.c_directives.proofs.headers.up_to_mark.Given as goal

abbrev pub invariant-loop-token : goal.invariant-loop-token
invariant-loop-token l = option_map (λ x. l.fn.name.items ++ x) (up_to_mark l.tokens) ≡ option_map (λ x. l.name.items ++ x) (up_to_mark l.left)

abbrev pub decreases-loop-token : goal.decreases-loop-token
decreases-loop-token l = length l.left
