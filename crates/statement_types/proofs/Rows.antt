-- Objects and statements in rows, and scopes that end.
use Rattle.std.proofs.Common.{◌≡◌, ◌∙◌, Bool, map, List, [], ◌∷◌, ◌++◌, Ok, Err, refl, ap}
use Rattle.std.proofs.lemmas.List.{map-append}
use Rattle.c_tree.specs.declared.types.CType.{CType}
use Rattle.c_tree.specs.declared.statements.Declared.{Declared}
use Rattle.c_tree.specs.declared.statements.Stmt.{Stmt}
use Rattle.c_tree.specs.Tree.{Object, Statement, Statements, Optional, Declare, Absent, Present, NoStatements, Then}
use Rattle.c_tree.specs.View.{view_declared, view_stmt, view_stmts, and_then}
use Rattle.scopes.specs.Scopes.{Env, Scope, with_object, opened, closed}
use Rattle.expression_types.specs.Check.{◌>>=◌, Checked}
use Rattle.object_types.specs.Objects.{known, check_object}
use Rattle.statement_types.specs.Statements.{with_objects, check_objects, beyond, beyond_optional, beyond_all, around, check_statement, check_statements}

-- declared objects that are checked one after the other
abbrev pub objects_front : List Object → Checked (List Object) → Checked (List Object)
objects_front front r = r >>= λ rest. Ok (front ++ rest)

append-one : {A : Type 0} (xs ys : List A) (x : A) → (xs ++ x ∷ []) ++ ys ≡ xs ++ x ∷ ys
append-one [] ys x = refl
append-one (z ∷ xs) ys x = ap (λ l. z ∷ l) (append-one xs ys x)

objects_front_one : (front : List Object) (v : Object) (r : Checked (List Object)) → objects_front (front ++ v ∷ []) r ≡ objects_front front (r >>= λ more. Ok (v ∷ more))
objects_front_one front v (Ok rest) = ap Ok (append-one front rest v)
objects_front_one front v (Err x) = refl

pub objects_one_more : (w : Checked (List Object)) (env env' : Env) (out out' all rest : List Declared) (d v : Declared) →
    w ≡ objects_front (map view_declared out) (check_objects (map view_declared all) env) → all ≡ d ∷ rest → check_object (view_declared d) env ≡ Ok (view_declared v) → out' ≡ out ++ v ∷ [] →
    env' ≡ with_object v.name (known v.constant v.ty) env → w ≡ objects_front (map view_declared out') (check_objects (map view_declared rest) env')
objects_one_more w env env' out out' all rest d v goes here passes grown e =
    let seen : map view_declared out' ≡ map view_declared out ++ view_declared v ∷ [] = ap (map view_declared) grown ∙ map-append view_declared out (v ∷ []) in
    rw (seen, e, objects_front_one (map view_declared out) (view_declared v) (check_objects (map view_declared rest) (with_object v.name (known v.constant v.ty) env))) (goes ∙ rw (here, passes) refl)

pub with_objects-append : (all : List Object) (d : Object) (env : Env) → with_objects (all ++ d ∷ []) env ≡ with_object d.name (known d.constant d.ty) (with_objects all env)
with_objects-append [] d env = refl
with_objects-append (a ∷ all) d env = with_objects-append all d (with_object a.name (known a.constant a.ty) env)

-- statements that are checked one after the other
and_one_more : (all : List Statement) (s : Statement) (more : Statements) → and_then (all ++ s ∷ []) more ≡ and_then all (Then s more)
and_one_more [] s more = refl
and_one_more (a ∷ all) s more = ap (Then a) (and_one_more all s more)

abbrev pub in_front : List Statement → Checked Statements → Checked Statements
in_front front r = r >>= λ rest. Ok (and_then front rest)

front_one_more : (front : List Statement) (s : Statement) (r : Checked Statements) → in_front (front ++ s ∷ []) r ≡ in_front front (r >>= λ rest. Ok (Then s rest))
front_one_more front s (Ok rest) = ap Ok (and_one_more front s rest)
front_one_more front s (Err x) = refl

pub statements_one_more : (t : CType) (b : Bool) (w : Checked Statements) (env env' : Env) (out out' all rest : List Stmt) (s v : Stmt) →
    w ≡ in_front (map view_stmt out) (check_statements (view_stmts all) (around env t b)) → all ≡ s ∷ rest → check_statement (view_stmt s) (around env t b) ≡ Ok (view_stmt v) → out' ≡ out ++ v ∷ [] →
    env' ≡ beyond (view_stmt v) env → w ≡ in_front (map view_stmt out') (check_statements (view_stmts rest) (around env' t b))
statements_one_more t b w env env' out out' all rest s v goes here passes grown e =
    let seen : map view_stmt out' ≡ map view_stmt out ++ view_stmt v ∷ [] = ap (map view_stmt) grown ∙ map-append view_stmt out (v ∷ []) in
    rw (seen, e, front_one_more (map view_stmt out) (view_stmt v) (check_statements (view_stmts rest) (around (beyond (view_stmt v) env) t b))) (goes ∙ rw (here, passes) refl)

beyond_all-then : (all : List Statement) (s : Statement) (env : Env) → beyond_all (and_then (all ++ s ∷ []) NoStatements) env ≡ beyond s (beyond_all (and_then all NoStatements) env)
beyond_all-then [] s env = refl
beyond_all-then (a ∷ all) s env = beyond_all-then all s (beyond a env)

pub beyond_all-append : (all all' : List Stmt) (v : Stmt) (env : Env) → all' ≡ all ++ v ∷ [] → beyond_all (view_stmts all') env ≡ beyond (view_stmt v) (beyond_all (view_stmts all) env)
beyond_all-append all all' v env grown =
    ap (λ l. beyond_all (and_then l NoStatements) env) (ap (map view_stmt) grown ∙ map-append view_stmt all (v ∷ [])) ∙ beyond_all-then (map view_stmt all) (view_stmt v) env

-- a statement declares in the innermost scope alone
abbrev Inner : Env → Env → Type 0
Inner env env' = (s : Scope) × (env' ≡ record env { innermost = s })

objects-inner : (all : List Object) (env : Env) → Inner env (with_objects all env)
objects-inner [] env = (env.innermost, refl)
objects-inner (d ∷ rest) env = let p = objects-inner rest (with_object d.name (known d.constant d.ty) env) in (p.0, p.1)

beyond-inner : (v : Statement) (env : Env) → Inner env (beyond v env)
beyond-inner (Declare all) env = objects-inner all env
beyond-inner _ env = (env.innermost, refl)

beyond_all-inner : (vs : Statements) (env : Env) → Inner env (beyond_all vs env)
beyond_all-inner NoStatements env = (env.innermost, refl)
beyond_all-inner (Then v rest) env =
    let p = beyond-inner v env in
    let q = beyond_all-inner rest (beyond v env) in
    (q.0, q.1 ∙ ap (λ (e : Env). record e { innermost = q.0 }) p.1)

optional-inner : (o : Optional) (env : Env) → Inner env (beyond_optional o env)
optional-inner Absent env = (env.innermost, refl)
optional-inner (Present s) env = beyond-inner s env

module _ (ends : (env : Env) (s : Scope) → closed (record (opened env) { innermost = s }) ≡ env) where
  pub statement-ends : (v : Statement) (env : Env) → closed (beyond v (opened env)) ≡ env
  statement-ends v env = let p = beyond-inner v (opened env) in ap closed p.1 ∙ ends env p.0

  pub statements-end : (vs : Statements) (env : Env) → closed (beyond_all vs (opened env)) ≡ env
  statements-end vs env = let p = beyond_all-inner vs (opened env) in ap closed p.1 ∙ ends env p.0

  pub optional-ends : (o : Optional) (env : Env) → closed (beyond_optional o (opened env)) ≡ env
  optional-ends o env = let p = optional-inner o (opened env) in ap closed p.1 ∙ ends env p.0
