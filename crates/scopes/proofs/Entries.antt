-- Names in a map.
use Rattle.std.proofs.Common.{◌≡◌, ◌∙◌, ℕ, Bool, true, false, cond, List, [], ◌∷◌, ◌++◌, map, Option, Some, None, Vec, nat_eq, refl, ap}
use Rattle.std.proofs.lemmas.List.{map-append}
use Rattle.std.specs.Cmp.Lexicographic.{pointwise}
use Rattle.std.specs.declared.alloc.Global.{Global}
use Rattle.std.specs.Map.{lookup}
use Rattle.std.specs.Option.{option_map}
use Rattle.c_text.specs.declared.tokens.Dialect.{Dialect}
use Rattle.scopes.specs.declared.names.Names.{Names}
use Rattle.scopes.specs.declared.environment.Callee.{Callee as CodeCallee}
use Rattle.scopes.specs.declared.environment.Row.{Row as CodeRow}
use Rattle.scopes.specs.Scopes.{named, or_else, callee, row, entries_of, functions_of, rows_of, Env, Scope, Callee, Row, last_scope, but_last, opened, closed}

-- a look-up in a map is one among the names
pub lookup-named : {V : Type 0} (x : List ℕ) (es : List (Vec ℕ Global × V)) → lookup (λ k. pointwise nat_eq x k.items) es ≡ named x (map {B = List ℕ × V} (λ e. (e.0.items, e.1)) es)
lookup-named x [] = refl
lookup-named x (e ∷ es) = ap (cond (pointwise nat_eq x e.0.items) (Some e.1)) (lookup-named x es)

pub or_else-assoc : {A : Type 0} (a b c : Option A) → or_else (or_else a b) c ≡ or_else a (or_else b c)
or_else-assoc (Some x) b c = refl
or_else-assoc None b c = refl

mapped-if : {V W : Type 0} (f : V → W) (b : Bool) (v : V) (r : Option W) (o : Option V) → r ≡ option_map f o → cond b (Some (f v)) r ≡ option_map f (cond b (Some v) o)
mapped-if f true v r o h = refl
mapped-if f false v r o h = h

-- the names, as contracts see them
abbrev pub seen : {V : Type 0} → List (Vec ℕ Global × V) → List (List ℕ × V)
seen = map (λ e. (e.0.items, e.1))

named-mapped : {V W : Type 0} (f : V → W) (x : List ℕ) (es : List (Vec ℕ Global × V)) → named x (map {B = List ℕ × W} (λ e. (e.0.items, f e.1)) es) ≡ option_map f (named x (seen es))
named-mapped f x [] = refl
named-mapped f x (e ∷ es) = mapped-if f (pointwise nat_eq x e.0.items) e.1 (named x (map {B = List ℕ × _} (λ e. (e.0.items, f e.1)) es)) (named x (seen es)) (named-mapped f x es)

-- a function is looked up as the code keeps it
pub named_callee : (x : List ℕ) (n : Names CodeCallee) → named x (functions_of n) ≡ option_map callee (named x (entries_of n))
named_callee x n = named-mapped callee x n.map.entries

-- and so is a row
pub named_row : (x : List ℕ) (n : Names CodeRow) → named x (rows_of n) ≡ option_map row (named x (entries_of n))
named_row x n = named-mapped row x n.map.entries

-- a new name goes last
pub entries-append : {V : Type 0} (es : List (Vec ℕ Global × V)) (k : Vec ℕ Global) (v : V) (x : List ℕ) → k.items ≡ x → seen (es ++ (k, v) ∷ []) ≡ seen es ++ (x, v) ∷ []
entries-append {V} es k v x h = map-append {B = List ℕ × V} (λ e. (e.0.items, e.1)) es ((k, v) ∷ []) ∙ ap (λ y. seen es ++ (y, v) ∷ []) h

pub last-append : (o : List Scope) (s : Scope) → last_scope (o ++ s ∷ []) ≡ s
last-append [] s = refl
last-append (a ∷ []) s = refl
last-append (a ∷ b ∷ o) s = last-append (b ∷ o) s

pub but_last-append : (o : List Scope) (s : Scope) → but_last (o ++ s ∷ []) ≡ o
but_last-append [] s = refl
but_last-append (a ∷ []) s = refl
but_last-append (a ∷ b ∷ o) s = ap (λ x. a ∷ x) (but_last-append (b ∷ o) s)

pub ends : (env : Env) (s : Scope) → closed (record (opened env) { innermost = s }) ≡ env
ends env s = rw (last-append env.outer env.innermost, but_last-append env.outer env.innermost) refl

pub closes : (d : Dialect) (rs : List ℕ → Option Row) (ns : List ℕ → Bool) (old new : List Scope) (x i : Scope) (fs : List (List ℕ × Callee)) (h : ℕ) (n : Bool) → old ≡ new ++ x ∷ [] →
    let before : Env = record { dialect = d; rows = rs; neon = ns; outer = old; innermost = i; functions = fs; here = h; calls_none = n } in
    let after : Env = record { dialect = d; rows = rs; neon = ns; outer = new; innermost = x; functions = fs; here = h; calls_none = n } in
    after ≡ closed before
closes d rs ns old new x i fs h n e = rw (e, last-append new x, but_last-append new x) refl
