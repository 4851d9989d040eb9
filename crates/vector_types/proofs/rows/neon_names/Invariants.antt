use Rattle.std.proofs.Common.{◌≡◌, ℕ, List, drop}
use Rattle.neon_table.specs.Rows.{rows, name_of}
use Rattle.scopes.specs.Scopes.{named, or_else, entries_of}
use Rattle.vector_types.proofs.TableRows.{found, named_only}
use Rattle.vector_types.proofs.rows.neon_names.Given as goal

abbrev pub invariant-loop-k : goal.invariant-loop-k
invariant-loop-k l = (x : List ℕ) → found name_of named_only x rows ≡ or_else (named x (entries_of l.all)) (found name_of named_only x (drop l.k rows))
