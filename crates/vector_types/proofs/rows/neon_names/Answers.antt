use Rattle.std.proofs.Common.{◌≡◌, ◌∙◌, ◌+◌, ◌≤◌, ℕ, List, Option, Some, None, if◌then◌else◌, is_some, drop, length, refl, ap, arith}
use Rattle.std.proofs.Math.ListN.{drop_of_length-le}
use Rattle.neon_table.specs.Rows.{rows, name_of}
use Rattle.scopes.specs.Scopes.{named, or_else, same_name, entries_of}
use Rattle.vector_types.proofs.TableRows.{found, named_only, one_more, none_yet, all_found, neon_name, no_name}
use Rattle.vector_types.proofs.rows.neon_names.Goals as goal

abbrev whole : List ℕ → Option (Unit {0})
whole x = found name_of named_only x rows

pub loop-k-init : goal.loop-k-init
loop-k-init c = none_yet name_of named_only whole (λ x. named x (entries_of c.new-all.result)) rows (λ x. refl) (no_name (entries_of c.new-all.result) c.new-all.ensures)

pub loop-k-preserved : goal.loop-k-preserved
loop-k-preserved c =
    let old = entries_of c.loop-k.all in
    let added : (x : List ℕ) → named x (entries_of c.add.new.all) ≡ or_else (named x old) (if same_name x (name_of c.at.result) then Some (named_only c.at.result) else None) =
    λ x. c.in_ok-add.ensures x ∙ ap (λ n. or_else (named x old) (if same_name x n then Some (named_only c.at.result) else None)) (c.as_bytes.ensures.value ∙ c.name.ensures.value) in
    one_more name_of named_only whole (λ x. named x old) (λ x. named x (entries_of c.add.new.all)) (drop c.loop-k.k rows) (drop (c.loop-k.k + 1) rows) c.at.result c.loop-k.invariant c.at.ensures added

pub returns : goal.returns
returns c =
    let past : length rows ≤ c.loop-k.k = omega (arith, c.count-k-end.ensures, c.loop-k-test.false) in
    λ x. ap is_some (all_found name_of named_only whole (λ y. named y (entries_of c.loop-k.all)) (drop c.loop-k.k rows) c.loop-k.invariant (drop_of_length-le rows past) x) ∙ neon_name x
