use Rattle.neon_table.specs.Found.{same_by_name}
use Rattle.neon_table.proofs.name.Goals as goal

pub returns-clause-alone : goal.returns-clause-alone
returns-clause-alone c = same_by_name c.args.op
