use Rattle.read_units.proofs.NamedUnits.{unit_names}
use Rattle.read_units.proofs.UnitsOfTheGrammar.{read_unit}
use Rattle.read_units.proofs.laws.units_of_the_grammar_are_read.Goals as goal

pub returns : goal.returns
returns c = λ tokens unit is named. read_unit tokens unit is (unit_names tokens unit is named)
