use Rattle.c_meaning.proofs.Indexed.{Leads, far}
use Rattle.c_meaning.proofs.functions.Callees.last_called.Given as goal

abbrev pub invariant-loop-found : goal.invariant-loop-found
invariant-loop-found l = Leads l.name l.n l.self.all.items l.found

abbrev pub decreases-loop-found : goal.decreases-loop-found
decreases-loop-found l = far l.found
