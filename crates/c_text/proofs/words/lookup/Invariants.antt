use Rattle.std.proofs.Common.{◌≡◌, map, bytes_eq, length}
use Rattle.std.specs.Map.{lookup}
use Rattle.c_text.proofs.words.lookup.Given as goal

abbrev pub invariant-loop-left : goal.invariant-loop-left
invariant-loop-left g l = lookup (bytes_eq l.word) (map (λ r. (r.0.now, r.1)) l.rows) ≡ lookup (bytes_eq l.word) (map (λ r. (r.0.now, r.1)) l.left)

abbrev pub decreases-loop-left : goal.decreases-loop-left
decreases-loop-left g l = length l.left
