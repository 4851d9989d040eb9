use Rattle.c_memory.proofs.Definedness.{write_answers}
use Rattle.c_memory.proofs.memory.Memory.write.Goals as goal

pub returns-in-At-clause-defined : goal.returns-in-At-clause-defined
returns-in-At-clause-defined c =
    rw c.in-At.is (write_answers c.args.self.now.blocks c.in-At.block c.in-At.offset c.args.align c.args.bytes.now c.write.result c.write.new.self c.write.ensures)
