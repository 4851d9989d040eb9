use Rattle.std.proofs.Common.{rules, map, string_bytes}
use Rattle.c_tree.specs.View.{view_unit}
use Rattle.simd_top.proofs.BothRuns.{outside_both}
use Rattle.simd_top.proofs.due.both.Goals as goal

pub returns-in_ok-line-in-Some : goal.returns-in_ok-line-in-Some
returns-in_ok-line-in-Some c =
    outside_both (view_unit c.args.unit.now.unit) c.args.name.now c.args.turns (map (λ w. string_bytes w) c.args.items.now) c.in-Some.refusal c.in_ok-line-in-Some.line.items (search rules) c.in_ok-line-in-Some.ensures
