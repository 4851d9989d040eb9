use Rattle.std.proofs.Common.{◌≡◌, ◌<◌, ℕ, get_or, length}
use Rattle.lane_core.proofs.widths.low.Given as goal

abbrev pub invariant-loop-i : goal.invariant-loop-i
invariant-loop-i l = record {
  same : (k : ℕ) → k < l.i → get_or l.out k 0 ≡ get_or l.r k 0;
  size : length l.out ≡ 16;
}
