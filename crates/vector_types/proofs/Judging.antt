-- Items that are judged one after the other.
use Rattle.std.proofs.Common.{◌≡◌, ◌∙◌, ℕ, ◌+◌, Bool, true, false, if◌then◌else◌, List, [], ◌∷◌, ◌++◌, map, Result, Ok, Err, refl, sym, ap, subst}
use Rattle.c_text.specs.declared.refusals.Fail.{Fail}
use Rattle.c_text.specs.declared.refusals.Fail.TheVariants.{Refused, Memory}
use Rattle.c_tree.specs.declared.units.Item.{Item}
use Rattle.c_tree.specs.Tree.{Object, External, Function, Table}
use Rattle.c_tree.specs.View.{view_item}
use Rattle.scopes.specs.Scopes.{Env, with_object}
use Rattle.scopes.specs.Kept.{at_file, OnAnswer}
use Rattle.expression_types.specs.Check.{Checked}
use Rattle.order_rule.specs.Callees.{Before}
use Rattle.vector_types.specs.Functions.{is_taken}
use Rattle.vector_types.specs.Tables.{check_table, refused_object, beyond_table}
use Rattle.vector_types.specs.Units.{Judged, and_judged, item_checked, beyond_item, callees_beyond, next_item, check_items}
use Rattle.vector_types.specs.Answers.{nothing_judged, behind, is_answer}

append-one : {A : Type 0} (xs ys : List A) (x : A) → (xs ++ x ∷ []) ++ ys ≡ xs ++ x ∷ ys
append-one [] ys x = refl
append-one (z ∷ xs) ys x = ap (λ l. z ∷ l) (append-one xs ys x)

append-nil : {A : Type 0} (xs : List A) → xs ++ [] ≡ xs
append-nil [] = refl
append-nil (z ∷ xs) = ap (λ l. z ∷ l) (append-nil xs)

judged_behind : (front : Judged) (x : Checked External) (j : Judged) → behind (behind front (and_judged x nothing_judged)) j ≡ behind front (and_judged x j)
judged_behind front (Ok v) j = rw (append-nil front.refusals, append-one front.items j.items v) refl
judged_behind front (Err r) j = rw (append-nil front.items, append-one front.refusals j.refusals r) refl

pub one_more_judged : (w front front' : Judged) (all rest : List Item) (u : Item) (env env' : Env) (callees callees' : Before) → w ≡ behind front (check_items (map view_item all) env callees) → all ≡ u ∷ rest →
    front' ≡ behind front (and_judged (item_checked (view_item u) env callees) nothing_judged) → env' ≡ next_item (beyond_item (view_item u) env) → callees' ≡ callees_beyond (view_item u) env callees →
    w ≡ behind front' (check_items (map view_item rest) env' callees')
one_more_judged w front front' all rest u env env' callees callees' goes here grown e c =
    rw (grown, e, c, judged_behind front (item_checked (view_item u) env callees) (check_items (map view_item rest) (next_item (beyond_item (view_item u) env)) (callees_beyond (view_item u) env callees))) (goes ∙ rw here refl)

nothing_behind : (front : Judged) → behind front nothing_judged ≡ front
nothing_behind front = λ i. record { refusals = append-nil front.refusals i; items = append-nil front.items i }

-- behind the last item
pub all_judged : (w front : Judged) (rest : List Item) (env : Env) (callees : Before) → w ≡ behind front (check_items (map view_item rest) env callees) → rest ≡ [] → front ≡ w
all_judged w front rest env callees goes e = sym (goes ∙ ap (λ l. behind front (check_items (map view_item l) env callees)) e ∙ nothing_behind front)

-- the environment of the item that so many stand before
abbrev pub at_item : ℕ → Env → Env
at_item i env = record env { here = i }

pub answered : {X P : Type 0} (r : Result X Fail) → is_answer r ≡ true → OnAnswer r P → P
answered (Ok x) e h = h
answered (Err Memory) e h = let no : false ≡ true = e in cc
answered (Err (Refused r)) e h = h

-- an item leaves the file's scope alone, and which item it was
table_file : (d : Object) (r : Checked Object) (env : Env) → beyond_table d r (at_file env) ≡ at_file (beyond_table d r (at_file env))
table_file d (Ok v) env = refl
table_file d (Err r) env = by (is_taken d.name (at_file env))
  where
    by : (b : Bool) → (if b then at_file env else with_object d.name (refused_object d (at_file env)) (at_file env)) ≡ at_file (if b then at_file env else with_object d.name (refused_object d (at_file env)) (at_file env))
    by true = refl
    by false = refl

item_file : (u : External) (env : Env) → beyond_item u (at_file env) ≡ at_file (beyond_item u (at_file env))
item_file (Function f) env = refl
item_file (Table d is_static) env = table_file d (check_table d (at_file env)) env

pub beyond_file : (u : External) (i : ℕ) (env : Env) → env ≡ at_file env → beyond_item u (at_item i env) ≡ at_file (beyond_item u (at_item i env))
beyond_file u i env h = subst (λ e. beyond_item u e ≡ at_file (beyond_item u e)) (sym (ap (at_item i) h)) (item_file u (at_item i env))

table_here : (d : Object) (r : Checked Object) (env : Env) → (beyond_table d r env).here ≡ env.here
table_here d (Ok v) env = refl
table_here d (Err r) env = by (is_taken d.name env)
  where
    by : (b : Bool) → (if b then env else with_object d.name (refused_object d env) env).here ≡ env.here
    by true = refl
    by false = refl

item_here : (u : External) (env : Env) → (beyond_item u env).here ≡ env.here
item_here (Function f) env = refl
item_here (Table d is_static) env = table_here d (check_table d env) env

pub beyond_next : (u : External) (i : ℕ) (env : Env) → at_item (i + 1) (beyond_item u (at_item i env)) ≡ next_item (beyond_item u (at_item i env))
beyond_next u i env = ap (λ n. at_item (n + 1) (beyond_item u (at_item i env))) (sym (item_here u (at_item i env)))
