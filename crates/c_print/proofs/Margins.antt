-- A line's margin, level by level.
use Rattle.std.proofs.Common.{◌≡◌, ℕ, suc, ◌+◌, ◌-◌, ◌<◌, ◌++◌, ap, arith}
use Rattle.std.specs.Prelude.{codes}
use Rattle.c_print.specs.Statements.{margin}

pub margin_step : (depth level : ℕ) → level < depth → margin (depth - level) ≡ codes "    " ++ margin (depth - (level + 1))
margin_step depth level below = let e : depth - level ≡ suc (depth - (level + 1)) = omega arith in ap margin e
