-- The names that a unit may not declare. Those of the x86 dialect are this project's: migrated units use them.
use Rattle.std.specs.Prelude.{ℕ, Bool, ◌||◌, List, nat_eq, bytes_eq, is_some, codes}
use Rattle.std.specs.List.{starts_with, list_any}
use Rattle.c_text.specs.declared.tokens.Dialect.{Dialect}
use Rattle.c_text.specs.declared.tokens.Dialect.TheVariants.{X86, Neon}
use Rattle.std.specs.Map.{lookup}
use Rattle.c_text.specs.PredefinedNames.{predefined_names}
use Rattle.c_tree.specs.Vectors.{neon_vectors}
use Rattle.scopes.specs.Scopes.{same_name}

-- the name of a type of Arm's vectors
abbrev pub is_vector_type : List ℕ → Bool
is_vector_type x = is_some (lookup (bytes_eq x) neon_vectors)

abbrev pub is_predefined : Dialect → List ℕ → Bool
is_predefined dialect x = list_any (λ m. same_name x m.name) (predefined_names dialect)

-- In the x86 dialect what begins with `mg_`, `_mm` or `__builtin_`, the names of the Neon table and of Arm's vector types, and the predefined
-- names of either dialect; in the Neon dialect the names of the Neon table alone. The truth value says whether the name is one of that table.
abbrev pub is_reserved : Dialect → Bool → List ℕ → Bool
is_reserved X86 is_neon_row x =
    starts_with nat_eq x (codes "mg_") || starts_with nat_eq x (codes "_mm") || starts_with nat_eq x (codes "__builtin_") || is_neon_row || is_vector_type x || is_predefined X86 x || is_predefined Neon x
is_reserved Neon is_neon_row x = is_neon_row
