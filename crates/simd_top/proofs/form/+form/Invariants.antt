use Rattle.std.proofs.Common.{◌≡◌, drop}
use Rattle.c_tree.specs.View.{views}
use Rattle.simd_top.specs.Form.{are_expressions}
use Rattle.simd_top.specs.NameSets.{names_in}
use Rattle.simd_top.proofs.form.+form.Given as goal

abbrev pub invariant-are_expressions-loop-e : goal.invariant-are_expressions-loop-e
invariant-are_expressions-loop-e l = are_expressions (names_in l.parameters) (views l.all) ≡ are_expressions (names_in l.parameters) (views (drop l.e-index l.all))
