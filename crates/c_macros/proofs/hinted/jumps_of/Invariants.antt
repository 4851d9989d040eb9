use Rattle.std.proofs.Common.{◌≡◌, length, vec_len}
use Rattle.c_macros.specs.Groups.{Sound}
use Rattle.c_macros.proofs.hinted.jumps_of.Given as goal

abbrev pub invariant-loop-i : goal.invariant-loop-i
invariant-loop-i l = record {
  sound : Sound l.tokens l.jumps.items;
  many : vec_len l.jumps ≡ length l.tokens;
}
