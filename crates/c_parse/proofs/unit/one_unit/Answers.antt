use Rattle.c_parse.proofs.ItemsRead.{one_unit}
use Rattle.c_parse.proofs.unit.one_unit.Goals as goal

pub returns : goal.returns
returns c = one_unit
