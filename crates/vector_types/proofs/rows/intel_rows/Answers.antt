use Rattle.std.proofs.Common.{◌≡◌, ◌∙◌, ◌+◌, ◌≤◌, ℕ, List, Some, None, if◌then◌else◌, drop, length, ap, arith}
use Rattle.std.proofs.Math.ListN.{drop_of_length-le}
use Rattle.c_text.specs.declared.tokens.Dialect.TheVariants.{X86}
use Rattle.intel_table.specs.declared.IntelOp.{IntelOp}
use Rattle.intel_table.specs.Rows.{rows, name_of, signature_of, range_of}
use Rattle.scopes.specs.Scopes.{Row, named, or_else, same_name, rows_of}
use Rattle.vector_types.specs.Rows.{row_told, row_of_table}
use Rattle.vector_types.proofs.TableRows.{one_more, none_yet, all_found, intel_found, no_row}
use Rattle.vector_types.proofs.rows.intel_rows.Goals as goal

abbrev told : IntelOp → Row
told op = row_told (signature_of op) (range_of op)

pub loop-k-init : goal.loop-k-init
loop-k-init c = none_yet name_of told (row_of_table X86) (λ x. named x (rows_of c.new-all.result)) rows intel_found (no_row c.new-all.result c.new-all.ensures)

pub loop-k-preserved : goal.loop-k-preserved
loop-k-preserved c =
    let old = rows_of c.loop-k.all in
    let added : (x : List ℕ) → named x (rows_of c.add_row.new.all) ≡ or_else (named x old) (if same_name x (name_of c.at-op.result) then Some (told c.at-op.result) else None) =
    λ x. c.in_ok-add_row.ensures x ∙ ap (λ n. or_else (named x old) (if same_name x n then Some (told c.at-op.result) else None)) (c.as_bytes.ensures.value ∙ c.name.ensures.value) in
    one_more name_of told (row_of_table X86) (λ x. named x old) (λ x. named x (rows_of c.add_row.new.all)) (drop c.loop-k.k rows) (drop (c.loop-k.k + 1) rows) c.at-op.result c.loop-k.invariant c.at-op.ensures added

pub returns : goal.returns
returns c =
    let past : length rows ≤ c.loop-k.k = omega (arith, c.count-k-end.ensures, c.loop-k-test.false) in
    all_found name_of told (row_of_table X86) (λ x. named x (rows_of c.loop-k.all)) (drop c.loop-k.k rows) c.loop-k.invariant (drop_of_length-le rows past)
