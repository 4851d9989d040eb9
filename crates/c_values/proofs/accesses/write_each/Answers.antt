use Rattle.std.proofs.Common.{◌∙◌, refl}
use Rattle.c_values.proofs.AccessLemmas.{writes_on, writes_end}
use Rattle.c_values.proofs.accesses.write_each.Goals as goal

pub returns-in-None : goal.returns-in-None
returns-in-None c =
    let none = c.loop-access.invariant
    ∙ writes_end c.args.at c.args.register.now c.args.accesses.now c.loop-access.access-index c.loop-access.memory.blocks c.write_next.new.memory.blocks c.write_next.result c.loop-access-test.true
    c.write_next.ensures c.in-None.is in
    rw none refl

pub loop-access-preserved : goal.loop-access-preserved
loop-access-preserved c =
    c.loop-access.invariant
    ∙ writes_on c.args.at c.args.register.now c.args.accesses.now c.loop-access.access-index c.loop-access.memory.blocks c.write_next.new.memory.blocks c.write_next.result c.in-Some.field-0 c.loop-access-test.true
    c.write_next.ensures c.in-Some.is
