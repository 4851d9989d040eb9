use Rattle.std.proofs.Common.{◌≡◌, ◌++◌, map, drop}
use Rattle.c_macros.specs.Expansion.{filled}
use Rattle.c_macros.proofs.filling.fill.Given as goal

abbrev pub invariant-loop-piece : goal.invariant-loop-piece
invariant-loop-piece l =
    filled l.place (map (λ v. v.items) l.arguments) l.body ≡ l.out.items ++ filled l.place (map (λ v. v.items) l.arguments) (drop l.piece-index l.body)
