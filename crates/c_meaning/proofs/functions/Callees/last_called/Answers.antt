use Rattle.std.proofs.Common.{arith}
use Rattle.c_meaning.proofs.Indexed.{leads_next, comes_nearer}
use Rattle.c_meaning.proofs.functions.Callees.last_called.Goals as goal

pub loop-found-smaller : goal.loop-found-smaller
loop-found-smaller c =
    comes_nearer c.args.name.now c.args.self.now.places c.args.self.now.all.items c.args.n c.in-Some.k c.loop-found.found c.index.result.now c.args.self.now.indexed c.in-Some.is c.index.ensures c.loop-found.invariant

pub loop-found-preserved : goal.loop-found-preserved
loop-found-preserved c =
    leads_next c.args.name.now c.args.self.now.places c.args.self.now.all.items c.args.n c.in-Some.k c.loop-found.found c.index.result.now c.args.self.now.indexed c.in-Some.is (omega arith) c.index.ensures c.loop-found.invariant
