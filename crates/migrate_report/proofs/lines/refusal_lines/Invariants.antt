use Rattle.std.proofs.Common.{◌≡◌, ◌++◌, drop}
use Rattle.migrate_report.specs.Lines.{refusal_lines}
use Rattle.migrate_report.proofs.lines.refusal_lines.Given as goal

abbrev pub invariant-loop-refusal : goal.invariant-loop-refusal
invariant-loop-refusal l = refusal_lines l.list ≡ l.out.items ++ refusal_lines (drop l.refusal-index l.list)
