-- How contracts see what the code has of definitions.
use Rattle.std.specs.Prelude.{ℕ, List, ◌++◌, Option, Some, None, nat_eq}
use Rattle.std.specs.Cmp.Lexicographic.{pointwise}
use Rattle.std.specs.Map.{lookup}
use Rattle.c_directives.specs.declared.numbers.Numbers.{Numbers}
use Rattle.c_directives.specs.declared.definitions.Heading.{Heading as CodeHeading}
use Rattle.c_directives.specs.Definitions.{Heading}

-- the number of a name
unfoldable pub numbers_of : Numbers → List ℕ → Option ℕ
numbers_of n x = lookup (λ k. pointwise nat_eq x k.items) n.map.entries

-- the first, or else the second
abbrev pub or_else : {A : Type 0} → Option A → Option A → Option A
or_else (Some x) other = Some x
or_else None other = other

abbrev pub heading_seen : Option CodeHeading → Option Heading
heading_seen None = None
heading_seen (Some h) = Some (h.names.items, (h.variadic, h.body.now))

-- these names in front of others
abbrev pub behind_names : List (List ℕ) → Option Heading → Option Heading
behind_names names None = None
behind_names names (Some (others, rest)) = Some (names ++ others, rest)
