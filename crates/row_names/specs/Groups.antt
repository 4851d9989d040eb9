-- Rows in groups, and the first among some that has a name.
use Rattle.std.proofs.Common.{◌≡◌, ℕ, List, ◌++◌, find, Option}
use Rattle.std.specs.Option.{option_or}
use Rattle.std.proofs.lemmas.List.Folds.{find-append}
use Rattle.row_names.specs.Names.{same_name}

-- the first of these rows that has the name
unfoldable pub first_named : {A : Type 0} → (A → List ℕ) → List A → List ℕ → Option A
first_named name_of rows name = find (λ row. same_name (name_of row) name) rows

-- a row is found in two lists where it is found in the first, or else in the second
pub named_in_both : {A : Type 0} (name_of : A → List ℕ) (xs ys : List A) (name : List ℕ)
    → first_named name_of (xs ++ ys) name ≡ option_or (first_named name_of xs name) (first_named name_of ys name)
unfolding first_named
named_in_both name_of xs ys name = find-append (λ row. same_name (name_of row) name) xs ys
