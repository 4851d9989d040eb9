use Rattle.std.proofs.Common.{◌≡◌, ◌≤◌, drop}
use Rattle.migrate_report.specs.Items.{value, value_behind}
use Rattle.migrate_report.proofs.items.number_up_to.Given as goal

abbrev pub invariant-loop-c : goal.invariant-loop-c
invariant-loop-c l = (l.n ≤ l.most) × (value l.digits ≡ value_behind l.n (drop l.c-index l.digits))
