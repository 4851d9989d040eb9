-- Which objects are in memory since their address is taken in the function, by the names that a place sees (C11 6.2.1).
use Rattle.std.specs.Prelude.{ℕ, Bool, if◌then◌else◌, List, [], ◌∷◌, ◌++◌, map, Option, None, is_some, unwrap_or}
use Rattle.scopes.specs.Scopes.{named, or_else, entries_of}
use Rattle.c_tree.specs.Tree.{Statements}
use Rattle.address_taken.specs.Addressed.{takes_statements}
use Rattle.address_taken.specs.Marks.{is_marked}
use Rattle.order_rule.specs.declared.memory.Memory.{Memory}

-- a scope: its objects, and whether the address of each is taken
abbrev pub Scope : Type 0
Scope = List (List ℕ × Bool)

-- what a place sees: the scopes around the innermost one, outermost first, the innermost scope, and whether the address is taken of the
-- objects of other names, those of tables
pub record Env : Type 0 where
  pub outer : List Scope
  pub innermost : Scope
  pub outside : List ℕ → Bool

-- whether the address is taken of the object of this name in these scopes; one of an inner scope hides those of outer ones (6.2.1p4)
abbrev pub visible : List ℕ → List Scope → Option Bool
visible x [] = None
visible x (s ∷ inner) = or_else (visible x inner) (named x s)

abbrev pub is_taken : List ℕ → Env → Bool
is_taken x env = unwrap_or (or_else (named x env.innermost) (visible x env.outer)) (env.outside x)

-- one more object in the innermost scope, which declares no name twice (6.7p3), a scope that opens in it, and what is left where it ends
abbrev pub with_object : List ℕ → Bool → Env → Env
with_object x taken env = if is_some (named x env.innermost) then env else record env { innermost = env.innermost ++ (x, taken) ∷ [] }

abbrev pub opened : Env → Env
opened env = record env { outer = env.outer ++ env.innermost ∷ []; innermost = [] }

abbrev pub last_scope : List Scope → Scope
last_scope [] = []
last_scope (s ∷ []) = s
last_scope (s ∷ t ∷ inner) = last_scope (t ∷ inner)

abbrev pub but_last : List Scope → List Scope
but_last [] = []
but_last (s ∷ []) = []
but_last (s ∷ t ∷ inner) = s ∷ but_last (t ∷ inner)

abbrev pub closed : Env → Env
closed env = record env { outer = but_last env.outer; innermost = last_scope env.outer }

-- where the body of a function begins, no scope in it is open
abbrev pub begun : (List ℕ → Bool) → Env
begun outside = record { outer = []; innermost = []; outside = outside }

abbrev pub outset : Statements → Env
outset body = begun (λ x. takes_statements x body)

-- what contracts see of the code's
abbrev pub env_of : Memory → Env
env_of m = record {
  outer = map entries_of m.outer.items;
  innermost = entries_of m.innermost;
  outside = is_marked m.outside.now;
}
