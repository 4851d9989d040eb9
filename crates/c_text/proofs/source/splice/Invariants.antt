use Rattle.std.proofs.Common.{◌≤◌, ◌+◌, length}
use Rattle.c_text.proofs.Spliced.{IsFront}
use Rattle.c_text.proofs.source.splice.Given as goal

abbrev pub invariant-loop-b : goal.invariant-loop-b
invariant-loop-b l = record {
  lines : l.line + length l.rest ≤ length l.text + 1;
  cols : l.col + length l.rest ≤ length l.text + 1;
  front : IsFront l.text l.out.items l.line l.col l.behind l.rest;
}

abbrev pub decreases-loop-b : goal.decreases-loop-b
decreases-loop-b l = length l.rest
