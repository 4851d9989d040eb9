use Rattle.c_memory.proofs.Definedness.{read_answers}
use Rattle.c_memory.proofs.memory.Memory.read.Goals as goal

pub returns-in-At-clause-defined : goal.returns-in-At-clause-defined
returns-in-At-clause-defined c =
    rw c.in-At.is (read_answers c.args.self.now.blocks c.in-At.block c.in-At.offset c.args.align c.args.into.now c.read.result c.read.new.into c.read.ensures)
