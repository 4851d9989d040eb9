use Rattle.std.proofs.Common.{◌≡◌, [], map, drop}
use Rattle.c_tree.specs.View.{view_item}
use Rattle.scopes.specs.Scopes.{env_of, entries_of}
use Rattle.scopes.specs.Kept.{at_file}
use Rattle.vector_types.specs.Units.{check_items}
use Rattle.vector_types.specs.Answers.{judged_of, behind}
use Rattle.vector_types.proofs.Judging.{at_item}
use Rattle.vector_types.proofs.units.check_items.Given as goal

abbrev pub invariant-loop-item : goal.invariant-loop-item
invariant-loop-item l = record {
  counts : l.here ≡ l.item-index;
  file : env_of l.env ≡ at_file (env_of l.env);
  goes : check_items (map view_item l.items) (env_of l.initial.env) [] ≡ behind (judged_of l.judged) (check_items (map view_item (drop l.item-index l.items)) (at_item l.here (env_of l.env)) (entries_of l.callees));
}
