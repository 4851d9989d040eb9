-- Lists of expressions, of functions and of parameters.
use Rattle.std.proofs.Common.{◌≡◌, ◌∙◌, ℕ, true, false, List, [], ◌∷◌, ◌++◌, map, length, Option, Some, None, is_some, Result, Ok, Err, OnOk, Vec, refl, sym, ap, arith}
use Rattle.std.proofs.lemmas.List.{map-append}
use Rattle.std.specs.declared.alloc.Global.{Global}
use Rattle.std.specs.Option.{option_map}
use Rattle.c_text.specs.declared.tokens.Dialect.{Dialect}
use Rattle.c_tree.specs.declared.expressions.Expr.{Expr}
use Rattle.c_tree.specs.declared.statements.Declared.{Declared}
use Rattle.c_tree.specs.Tree.{Object, Definition}
use Rattle.c_tree.specs.View.{views, view_declared}
use Rattle.type_rules.specs.Passing.{heading}
use Rattle.scopes.specs.declared.names.Names.{Names}
use Rattle.scopes.specs.declared.environment.Callee.{Callee as CodeCallee}
use Rattle.scopes.specs.Scopes.{Env, Callee, named, callee, entries_of, functions_of, with_object}
use Rattle.scopes.proofs.Entries.{named_callee}
use Rattle.expression_types.specs.Check.{◌>>=◌, Checked}
use Rattle.object_types.specs.Objects.{known, count_all}
use Rattle.vector_types.specs.Functions.{heading_of, with_function, check_parameter, check_parameters}

-- as many as the list has
pub members_counted : (xs : List Expr) → count_all (views xs) ≡ length xs
members_counted [] = refl
members_counted (x ∷ xs) = let h = members_counted xs in omega (arith, h)

-- what contracts see of a function and its name
abbrev called : List ℕ × CodeCallee → List ℕ × Callee
called e = (e.0, callee e.1)

called_entries : (es : List (Vec ℕ Global × CodeCallee)) → map {B = List ℕ × Callee} (λ e. (e.0.items, callee e.1)) es ≡ map called (map {B = List ℕ × CodeCallee} (λ e. (e.0.items, e.1)) es)
called_entries [] = refl
called_entries (e ∷ es) = ap (λ l. (e.0.items, callee e.1) ∷ l) (called_entries es)

-- one more function
functions_grow : (old new : Names CodeCallee) (x : List ℕ) (f : CodeCallee) → entries_of new ≡ entries_of old ++ (x, f) ∷ [] → functions_of new ≡ functions_of old ++ (x, callee f) ∷ []
functions_grow old new x f h =
    called_entries new.map.entries ∙ ap (map called) h ∙ map-append called (entries_of old) ((x, f) ∷ []) ∙ ap (λ l. l ++ (x, callee f) ∷ []) (sym (called_entries old.map.entries))

unknown : {A : Type 0} (m : Option A) → is_some m ≡ false → m ≡ None
unknown None h = refl
unknown (Some x) h = cc

pub function_added : (old new : Names CodeCallee) (d : Dialect) (f : Definition) (c : CodeCallee) → is_some (named f.name (entries_of old)) ≡ false → entries_of new ≡ entries_of old ++ (f.name, c) ∷ [] →
    heading c.heading ≡ heading_of d f → functions_of new ≡ with_function d c.order f (functions_of old)
function_added old new d f c none grown same =
    let absent : named f.name (functions_of old) ≡ None = named_callee f.name old ∙ ap (option_map callee) (unknown (named f.name (entries_of old)) none) in
    rw absent (functions_grow old new f.name c grown ∙ ap (λ h. functions_of old ++ (f.name, record { order = c.order; heading = h }) ∷ []) same)

kept_some : {A B : Type 0} (g : A → B) (m : Option A) → is_some (option_map g m) ≡ is_some m
kept_some g (Some x) = refl
kept_some g None = refl

pub function_known : (old : Names CodeCallee) (d : Dialect) (i : ℕ) (f : Definition) → is_some (named f.name (entries_of old)) ≡ true → functions_of old ≡ with_function d i f (functions_of old)
function_known old d i f some =
    let present : is_some (named f.name (functions_of old)) ≡ true = ap is_some (named_callee f.name old) ∙ kept_some callee (named f.name (entries_of old)) ∙ some in
    rw present refl

pub on_ok_then : {X E P Q : Type 0} (r : Result X E) → (P → Q) → OnOk r P → OnOk r Q
on_ok_then (Ok x) f h = f h
on_ok_then (Err e) f h = h

-- parameters that are checked one after the other
abbrev pub in_front : List Object → Checked (List Object) → Checked (List Object)
in_front front r = r >>= λ rest. Ok (front ++ rest)

append-one : {A : Type 0} (xs ys : List A) (x : A) → (xs ++ x ∷ []) ++ ys ≡ xs ++ x ∷ ys
append-one [] ys x = refl
append-one (z ∷ xs) ys x = ap (λ l. z ∷ l) (append-one xs ys x)

front_one_more : (front : List Object) (v : Object) (r : Checked (List Object)) → in_front (front ++ v ∷ []) r ≡ in_front front (r >>= λ more. Ok (v ∷ more))
front_one_more front v (Ok rest) = ap Ok (append-one front rest v)
front_one_more front v (Err x) = refl

pub one_more_parameter : (w : Checked (List Object)) (env env' : Env) (out out' all rest : List Declared) (d v : Declared) →
    w ≡ in_front (map view_declared out) (check_parameters (map view_declared all) env) → all ≡ d ∷ rest → check_parameter (view_declared d) env ≡ Ok (view_declared v) → out' ≡ out ++ v ∷ [] →
    env' ≡ with_object v.name (known v.constant v.ty) env → w ≡ in_front (map view_declared out') (check_parameters (map view_declared rest) env')
one_more_parameter w env env' out out' all rest d v goes here passes grown e =
    let seen : map view_declared out' ≡ map view_declared out ++ view_declared v ∷ [] = ap (map view_declared) grown ∙ map-append view_declared out (v ∷ []) in
    rw (seen, e, front_one_more (map view_declared out) (view_declared v) (check_parameters (map view_declared rest) (with_object v.name (known v.constant v.ty) env))) (goes ∙ rw (here, passes) refl)
