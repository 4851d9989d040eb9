use Rattle.c_values.proofs.RowLemmas.{applied_some, applied_none}
use Rattle.c_values.proofs.rows.applied.Goals as goal

pub returns-in-Some : goal.returns-in-Some
returns-in-Some g c =
    applied_some (g.T.VectorTable.signature_of c.args.op).result c.args.gives (g.T.VectorTable.eval_of c.args.op c.args.args.now c.args.imm) c.eval-arg.result c.bytes_of.result.now
    c.given.result c.args.at c.args.accesses.now c.args.memory.now.blocks c.write_each.new.memory.blocks c.write_each.result c.in-Some.field-0
    c.eval-arg.ensures c.requires.gives c.bytes_of.ensures c.given.ensures c.write_each.ensures c.in-Some.is

pub returns-in-None : goal.returns-in-None
returns-in-None g c =
    applied_none (g.T.VectorTable.signature_of c.args.op).result (g.T.VectorTable.eval_of c.args.op c.args.args.now c.args.imm) c.eval-arg.result c.bytes_of.result.now
    c.args.at c.args.accesses.now c.args.memory.now.blocks c.write_each.new.memory.blocks c.write_each.result
    c.eval-arg.ensures c.bytes_of.ensures c.write_each.ensures c.in-None.is
