use Rattle.std.proofs.Common.{◌≡◌, ◌++◌, map, drop, Some}
use Rattle.std.specs.Prelude.{option_map}
use Rattle.c_tree.specs.View.{views}
use Rattle.c_memory.specs.MeaningObjects.{constants_bytes}
use Rattle.c_values.proofs.blocks.constants_bytes.Given as goal

abbrev pub invariant-loop-e : goal.invariant-loop-e
invariant-loop-e l =
    option_map (map Some) (constants_bytes l.ty (views l.list)) ≡ option_map (λ more. l.all.items ++ map Some more) (constants_bytes l.ty (views (drop l.e-index l.list)))
