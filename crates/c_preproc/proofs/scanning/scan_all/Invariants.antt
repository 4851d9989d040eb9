use Rattle.std.proofs.Common.{◌≡◌, ◌^◌, ◌<◌, reverse, take, drop}
use Rattle.c_preproc.specs.Role.{next_role}
use Rattle.c_preproc.specs.Nesting.{contexts_behind}
use Rattle.c_preproc.specs.Counts.{Shows}
use Rattle.c_preproc.specs.Scan.{first_refusal, first_refusal_behind}
use Rattle.c_preproc.proofs.scanning.scan_all.Given as goal

abbrev pub invariant-loop-i : goal.invariant-loop-i
invariant-loop-i l = record {
  shown : Shows l.nesting.current l.nesting.outer.items (contexts_behind (reverse (take l.i l.tokens)) (next_role (drop l.i l.tokens)));
  light : l.nesting.weight < 2 ^ 32;
  passed : first_refusal l.dialect l.tokens ≡ first_refusal_behind l.dialect (reverse (take l.i l.tokens)) (drop l.i l.tokens);
}
