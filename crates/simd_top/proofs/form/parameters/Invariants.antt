use Rattle.std.proofs.Common.{◌≡◌, drop, take, map, []}
use Rattle.c_tree.specs.View.{view_declared}
use Rattle.simd_top.specs.Form.{are_parameters, names_of}
use Rattle.simd_top.specs.NameSets.{names_in}
use Rattle.simd_top.proofs.form.parameters.Given as goal

abbrev pub invariant-loop-o : goal.invariant-loop-o
invariant-loop-o l = record {
  goes : are_parameters [] (map view_declared l.all) ≡ are_parameters (names_in l.names) (map view_declared (drop l.o-index l.all));
  seen : names_in l.names ≡ names_of (map view_declared (take l.o-index l.all));
}
