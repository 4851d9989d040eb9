use Rattle.neon_table.specs.Laws.{accesses_inside}
use Rattle.neon_table.proofs.access.Goals as goal

pub returns-clause-inside : goal.returns-clause-inside
returns-clause-inside c = rw (c.access.ensures, c.form.ensures) (accesses_inside c.args.op c.args.args.now c.args.imm c.args.k)
