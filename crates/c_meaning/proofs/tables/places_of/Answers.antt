use Rattle.std.proofs.Common.{◌+◌, arith}
use Rattle.c_meaning.proofs.Shared.{placed_more}
use Rattle.c_meaning.proofs.tables.places_of.Goals as goal

pub loop-k-preserved : goal.loop-k-preserved
loop-k-preserved c =
    placed_more c.loop-k.places c.set.new.self c.args.bindings.now c.loop-k.k (c.loop-k.k + 1) c.index-bindings-k.result c.loop-k-test.true (omega arith) c.index-bindings-k.is c.loop-k.invariant c.in_ok-set.ensures
