use Rattle.c_directives.proofs.KnownNumbers.{expansion_numbers}
use Rattle.c_directives.proofs.laws.expansion_numbers.Goals as goal

pub returns : goal.returns
returns c = expansion_numbers c.macro_numbers.ensures
