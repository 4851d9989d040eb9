use Rattle.std.proofs.Common.{◌≡◌, ◌+◌, ◌≤◌, length, map, drop}
use Rattle.c_macros.specs.Expansion.{filled}
use Rattle.c_macros.proofs.filling.work_after.Given as goal

abbrev pub invariant-loop-piece : goal.invariant-loop-piece
invariant-loop-piece l = record {
  small : l.sum ≤ l.limit + 1;
  same : l.work + (1 + length (filled l.place (map (λ v. v.items) l.arguments) l.body)) ≡ l.sum + length (filled l.place (map (λ v. v.items) l.arguments) (drop l.piece-index l.body));
}
