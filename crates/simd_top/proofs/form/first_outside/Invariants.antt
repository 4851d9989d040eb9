use Rattle.std.proofs.Common.{◌≡◌, drop, map, []}
use Rattle.c_tree.specs.View.{view_item}
use Rattle.simd_top.specs.Form.{first_outside}
use Rattle.simd_top.specs.NameSets.{names_in}
use Rattle.simd_top.proofs.form.first_outside.Given as goal

abbrev pub invariant-loop-item : goal.invariant-loop-item
invariant-loop-item l = first_outside [] (map view_item l.items) ≡ first_outside (names_in l.seen) (map view_item (drop l.item-index l.items))
