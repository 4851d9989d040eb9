use Rattle.std.proofs.Common.{◌≡◌, [], map, drop}
use Rattle.c_tree.specs.View.{view_item}
use Rattle.scopes.specs.Scopes.{functions_of}
use Rattle.vector_types.specs.Functions.{with_items}
use Rattle.vector_types.proofs.headings.functions.Given as goal

abbrev pub invariant-loop-item : goal.invariant-loop-item
invariant-loop-item l = record {
  counts : l.order ≡ l.item-index;
  goes : with_items l.dialect 0 (map view_item l.items) [] ≡ with_items l.dialect l.order (map view_item (drop l.item-index l.items)) (functions_of l.all);
}
