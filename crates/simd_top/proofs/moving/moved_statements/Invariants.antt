use Rattle.std.proofs.Common.{◌≡◌, map, take}
use Rattle.c_tree.specs.View.{view_stmt}
use Rattle.simd_top.specs.Written.{moved_statement}
use Rattle.simd_top.proofs.moving.moved_statements.Given as goal

abbrev pub invariant-loop-s : goal.invariant-loop-s
invariant-loop-s l = map view_stmt l.out.items ≡ map (λ s. moved_statement (view_stmt s)) (take l.s-index l.all)
