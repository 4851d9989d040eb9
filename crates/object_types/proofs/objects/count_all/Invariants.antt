use Rattle.std.proofs.Common.{◌≡◌, ◌+◌, drop}
use Rattle.c_tree.specs.View.{views}
use Rattle.object_types.specs.Objects.{count_all}
use Rattle.object_types.proofs.objects.count_all.Given as goal

abbrev pub invariant-loop-x : goal.invariant-loop-x
invariant-loop-x l = record {
  counts : l.n ≡ l.x-index;
  goes : count_all (views l.all) ≡ l.n + count_all (views (drop l.x-index l.all));
}
