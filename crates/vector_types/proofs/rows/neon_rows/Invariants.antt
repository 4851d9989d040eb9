use Rattle.std.proofs.Common.{◌≡◌, ℕ, List, drop}
use Rattle.c_text.specs.declared.tokens.Dialect.TheVariants.{Neon}
use Rattle.neon_table.specs.Rows.{rows, name_of, signature_of, range_of}
use Rattle.scopes.specs.Scopes.{named, or_else, rows_of}
use Rattle.vector_types.specs.Rows.{row_told, row_of_table}
use Rattle.vector_types.proofs.TableRows.{found}
use Rattle.vector_types.proofs.rows.neon_rows.Given as goal

abbrev pub invariant-loop-k : goal.invariant-loop-k
invariant-loop-k l = (x : List ℕ) → row_of_table Neon x ≡ or_else (named x (rows_of l.all)) (found name_of (λ op. row_told (signature_of op) (range_of op)) x (drop l.k rows))
