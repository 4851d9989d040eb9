use Rattle.std.proofs.Common.{◌≡◌, ◌++◌, map, drop, []}
use Rattle.c_tree.specs.View.{view as view_tree, view_stmt}
use Rattle.seq_core.specs.View.{view}
use Rattle.seq_core.specs.Listed.{names_after, statements_after}
use Rattle.seq_core.proofs.functions.push_steps.Given as goal

abbrev pub invariant-loop-t : goal.invariant-loop-t
invariant-loop-t l =
    let ps = map view_tree l.params in
    let names = map view_tree l.names.items in
    let rest = map view (drop l.t-index l.all) in
    (names_after l.place ps names rest ≡ names_after l.place ps [] (map view l.all))
    × (map view_stmt l.out.items ++ statements_after l.place ps names rest ≡ map view_stmt l.initial.out.items ++ statements_after l.place ps [] (map view l.all))
