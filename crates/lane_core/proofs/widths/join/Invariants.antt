use Rattle.std.proofs.Common.{◌≡◌, ◌<◌, ◌+◌, ℕ, get_or, length}
use Rattle.lane_core.proofs.widths.join.Given as goal

abbrev pub invariant-loop-i : goal.invariant-loop-i
invariant-loop-i l = record {
  low : (k : ℕ) → k < l.i → get_or l.out k 0 ≡ get_or l.a k 0;
  high : (k : ℕ) → k < l.i → get_or l.out (k + 16) 0 ≡ get_or l.b k 0;
  size : length l.out ≡ 32;
}
