use Rattle.c_macros.proofs.Numbered.{numbered}
use Rattle.c_macros.proofs.laws.macro_numbers.Goals as goal

pub returns : goal.returns
returns c = numbered
