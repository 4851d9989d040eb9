use Rattle.std.proofs.Common.{◌≡◌, ◌++◌, map, drop}
use Rattle.c_tree.specs.View.{view as view_tree}
use Rattle.seq_core.specs.View.{view_all}
use Rattle.seq_core.specs.Written.{pen, all_written}
use Rattle.seq_core.specs.Listed.{listed}
use Rattle.seq_core.proofs.+writing.Given as goal

abbrev pub invariant-writing::all_written-loop-t : goal.invariant-writing::all_written-loop-t
invariant-writing::all_written-loop-t l =
    let p = pen l.place (map view_tree l.params) (map view_tree l.steps) in
    map view_tree l.out.items ++ listed (all_written p (view_all (drop l.t-index l.all))) ≡ listed (all_written p (view_all l.all))
