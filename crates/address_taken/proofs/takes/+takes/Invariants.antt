use Rattle.std.proofs.Common.{◌≡◌, drop}
use Rattle.c_tree.specs.View.{views}
use Rattle.address_taken.specs.Addressed.{takes_in_all}
use Rattle.address_taken.proofs.takes.+takes.Given as goal

abbrev pub invariant-takes_in_all-loop-e : goal.invariant-takes_in_all-loop-e
invariant-takes_in_all-loop-e l = takes_in_all l.name (views (drop l.e-index l.all)) ≡ takes_in_all l.name (views l.all)
