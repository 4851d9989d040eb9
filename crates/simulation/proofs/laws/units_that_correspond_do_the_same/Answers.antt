use Rattle.simulation.specs.TableLaws.{tables_good}
use Rattle.simulation.specs.WrittenRuns.{written_runs_match}
use Rattle.simulation.proofs.Covering.{memory_law, turns_law}
use Rattle.simulation.proofs.laws.units_that_correspond_do_the_same.Goals as goal

pub returns : goal.returns
returns c = λ rows other_rows unit other match short. written_runs_match memory_law turns_law rows other_rows unit other match (tables_good unit short)
