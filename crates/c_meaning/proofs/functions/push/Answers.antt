use Rattle.std.proofs.Common.{arith}
use Rattle.c_meaning.proofs.Indexed.{indexed_push}
use Rattle.c_meaning.proofs.functions.push.Goals as goal

pub returns-clause-indexed : goal.returns-clause-indexed
returns-clause-indexed c =
    indexed_push c.args.places.now c.set.new.self c.args.callees.now.items c.push.new.self.items _ c.bytes-name.result.now c.len.result c.bytes-name.ensures (omega (arith, c.len.ensures)) c.in_ok-push.ensures.items c.get-same.ensures c.in_ok-set.ensures
