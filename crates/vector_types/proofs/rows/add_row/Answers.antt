use Rattle.std.proofs.Common.{◌≡◌, ◌∙◌, ap}
use Rattle.type_rules.specs.Passing.{row_heading}
use Rattle.scopes.specs.declared.environment.Row.{Row as CodeRow}
use Rattle.scopes.specs.Scopes.{row}
use Rattle.vector_types.specs.Rows.{row_told}
use Rattle.vector_types.proofs.Lists.{on_ok_then}
use Rattle.vector_types.proofs.TableRows.{row_added}
use Rattle.vector_types.proofs.rows.add_row.Goals as goal

pub returns : goal.returns
returns g c =
    let made : CodeRow = record { heading = c.in_ok-heading.heading; range = c.range-range.result } in
    let told : row made ≡ row_told (g.T.VectorTable.signature_of c.args.op) (g.T.VectorTable.range_of c.args.op) =
    λ i. record { heading = (c.in_ok-heading.ensures ∙ ap row_heading c.signature.ensures) i; range = c.range-range.ensures i } in
    on_ok_then c.add.result (λ h. row_added c.args.all.now c.add.new.all c.args.name.now made _ h told) c.add.ensures
