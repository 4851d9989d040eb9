-- The names that a place in a unit sees (C11 6.2.1).
use Rattle.std.specs.Prelude.{ℕ, Bool, if◌then◌else◌, List, [], ◌∷◌, ◌++◌, map, Option, Some, None, is_some, nat_eq}
use Rattle.std.specs.Cmp.Lexicographic.{pointwise}
use Rattle.c_text.specs.declared.tokens.Dialect.{Dialect}
use Rattle.lane_core.specs.declared.table.ImmRange.{ImmRange}
use Rattle.type_rules.specs.Passing.{Heading, heading}
use Rattle.scopes.specs.declared.names.Names.{Names}
use Rattle.scopes.specs.declared.environment.Object.{Object}
use Rattle.scopes.specs.declared.environment.Callee.{Callee as CodeCallee}
use Rattle.scopes.specs.declared.environment.Row.{Row as CodeRow}
use Rattle.scopes.specs.declared.environment.Environment.{Environment}

-- the two names are the same
abbrev pub same_name : List ℕ → List ℕ → Bool
same_name = pointwise nat_eq

-- what a name stands for, among names in the order in which they are declared
abbrev pub named : {V : Type 0} → List ℕ → List (List ℕ × V) → Option V
named x [] = None
named x (e ∷ es) = if same_name x e.0 then Some e.1 else named x es

-- a scope: its objects, each with its type and whether it is const
abbrev pub Scope : Type 0
Scope = List (List ℕ × Object)

-- a function of the unit: its heading, and how many items of the unit stand before it
pub record Callee : Type 0 where
  pub order : ℕ
  pub heading : Heading

-- a row of a table as calls see it: its heading, and the values that its immediate may have
pub record Row : Type 0 where
  pub heading : Heading
  pub range : ImmRange

-- what a place sees: the row of the dialect's table that has a name, whether a row of Neon's table has it, the scopes around the innermost
-- one, outermost first, the innermost scope, the functions of the whole unit, the number of the unit's item that the place stands in, and
-- whether that is a function that may call none of them
pub record Env : Type 0 where
  pub dialect : Dialect
  pub rows : List ℕ → Option Row
  pub neon : List ℕ → Bool
  pub outer : List Scope
  pub innermost : Scope
  pub functions : List (List ℕ × Callee)
  pub here : ℕ
  pub calls_none : Bool

-- the first, or else the second
abbrev pub or_else : {A : Type 0} → Option A → Option A → Option A
or_else (Some x) other = Some x
or_else None other = other

-- the object of this name in these scopes: one of an inner scope hides those of outer ones (6.2.1p4)
abbrev pub visible : List ℕ → List Scope → Option Object
visible x [] = None
visible x (s ∷ inner) = or_else (visible x inner) (named x s)

abbrev pub object_named : List ℕ → Env → Option Object
object_named x env = or_else (named x env.innermost) (visible x env.outer)

-- the innermost scope declares the name
abbrev pub is_declared_here : List ℕ → Env → Bool
is_declared_here x env = is_some (named x env.innermost)

-- one more object in the innermost scope, a scope that opens in it, and what is left where the innermost scope ends
abbrev pub with_object : List ℕ → Object → Env → Env
with_object x o env = record env { innermost = env.innermost ++ (x, o) ∷ [] }

abbrev pub opened : Env → Env
opened env = record env { outer = env.outer ++ env.innermost ∷ []; innermost = [] }

-- the last of some scopes, and the others
abbrev pub last_scope : List Scope → Scope
last_scope [] = []
last_scope (s ∷ []) = s
last_scope (s ∷ t ∷ inner) = last_scope (t ∷ inner)

abbrev pub but_last : List Scope → List Scope
but_last [] = []
but_last (s ∷ []) = []
but_last (s ∷ t ∷ inner) = s ∷ but_last (t ∷ inner)

abbrev pub closed : Env → Env
closed env = record env { outer = but_last env.outer; innermost = last_scope env.outer }

-- what contracts see of the code's names, functions, rows and environment
abbrev pub entries_of : {V : Type 0} → Names V → List (List ℕ × V)
entries_of n = map (λ e. (e.0.items, e.1)) n.map.entries

abbrev pub callee : CodeCallee → Callee
callee c = record { order = c.order; heading = heading c.heading }

abbrev pub functions_of : Names CodeCallee → List (List ℕ × Callee)
functions_of n = map (λ e. (e.0.items, callee e.1)) n.map.entries

abbrev pub row : CodeRow → Row
row r = record { heading = heading r.heading; range = r.range }

abbrev pub rows_of : Names CodeRow → List (List ℕ × Row)
rows_of n = map (λ e. (e.0.items, row e.1)) n.map.entries

abbrev pub env_of : Environment → Env
env_of e = record {
  dialect = e.dialect;
  rows = λ x. named x (rows_of e.rows);
  neon = λ x. is_some (named x (entries_of e.neon));
  outer = map entries_of e.outer.items;
  innermost = entries_of e.innermost;
  functions = functions_of e.functions;
  here = e.here;
  calls_none = e.calls_none;
}
