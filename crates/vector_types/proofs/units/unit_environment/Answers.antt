use Rattle.std.proofs.Common.{◌≡◌, [], map, rules}
use Rattle.scopes.specs.Scopes.{entries_of}
use Rattle.vector_types.specs.Rows.{row_of_table, is_neon_row}
use Rattle.vector_types.proofs.TableRows.{begun}
use Rattle.vector_types.proofs.units.unit_environment.Goals as goal

pub returns : goal.returns
returns c =
    let outer : map entries_of c.new.result.items ≡ [] = search rules in
    begun c.args.dialect _ (row_of_table c.args.dialect) _ is_neon_row _ _ _ _ c.in_ok-rows.ensures c.in_ok-neon.ensures outer c.new-2.ensures c.in_ok-functions.ensures
