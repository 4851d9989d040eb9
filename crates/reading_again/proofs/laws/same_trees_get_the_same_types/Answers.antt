use Rattle.reading_again.proofs.Same.{same_expressions, same_objects, same_statements, same_functions, same_units, read_again}
use Rattle.reading_again.proofs.laws.same_trees_get_the_same_types.Goals as goal

pub returns : goal.returns
returns c = record { expressions = same_expressions; objects = same_objects; statements = same_statements; functions = same_functions; units = same_units; read_again = read_again }
