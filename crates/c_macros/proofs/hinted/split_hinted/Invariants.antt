use Rattle.std.proofs.Common.{◌≡◌, ◌-◌, ◌≤◌, length, map, take, drop}
use Rattle.c_macros.specs.Arguments.{arguments}
use Rattle.c_macros.specs.Seen.{listed, glued}
use Rattle.c_macros.proofs.hinted.split_hinted.Given as goal

abbrev pub invariant-loop-i : goal.invariant-loop-i
invariant-loop-i l = record {
  begun : l.start ≤ l.i;
  within : l.i ≤ length l.tokens;
  few : l.inner ≤ l.i;
  same : listed (arguments 0 l.tokens) ≡ glued (map (λ a. a.tokens.now) l.list.items) (take (l.i - l.start) (drop l.start l.tokens)) (arguments l.inner (drop l.i l.tokens));
}

abbrev pub decreases-loop-i : goal.decreases-loop-i
decreases-loop-i l = length l.tokens - l.i
