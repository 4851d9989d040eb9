use Rattle.std.proofs.Common.{◌+◌, ◌-◌, ◌<◌, ◌≤◌, length, take, drop}
use Rattle.c_macros.proofs.Groups.{IsInside}
use Rattle.c_macros.proofs.hinted.jump_from.Given as goal

abbrev pub invariant-loop-j : goal.invariant-loop-j
invariant-loop-j l = record {
  behind : l.i < l.j;
  within : l.j ≤ length l.tokens;
  inside : IsInside (take (l.j - (l.i + 1)) (drop (l.i + 1) l.tokens));
}

abbrev pub decreases-loop-j : goal.decreases-loop-j
decreases-loop-j l = length l.tokens - l.j
