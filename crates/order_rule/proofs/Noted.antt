-- What is found of full expressions in a row.
use Rattle.std.proofs.Common.{◌≡◌, ◌∙◌, Bool, true, false, ◌||◌, List, [], ◌∷◌, Option, Some, None, option_map, Result, Ok, Err, IfOk, Vec, Box, refl, sym, ap, rules}
use Rattle.std.specs.List.{list_any}
use Rattle.std.specs.declared.alloc.Global.{Global}
use Rattle.c_tree.specs.declared.expressions.Expr.{Expr}
use Rattle.c_tree.specs.declared.expressions.ExprKind.{the_lemmas}
use Rattle.c_tree.specs.declared.statements.Stmt.{Stmt, the_lemmas as stmt_lemmas}
use Rattle.c_tree.specs.declared.statements.Stmt.TheVariants as form
use Rattle.c_tree.specs.Tree.{Tree, Node, Statement, Optional, Block, If, For}
use Rattle.c_tree.specs.View.{view, view_kind, view_stmt, view_stmts, view_optional}
use Rattle.scopes.specs.Scopes.{or_else}
use Rattle.address_taken.specs.Taken.{TakenTrees}
use Rattle.order_rule.specs.declared.callees.Effects.{Effects}
use Rattle.order_rule.specs.Callees.{Callees}
use Rattle.order_rule.specs.Memory.{Env, opened}
use Rattle.order_rule.specs.Full.{Full, full, inner, behind, full_statement, full_optional, Findings, nothing, noted, noted_all, is_writing, is_reading, broken_of, first_broken}

or-assoc : (a b c : Bool) → (a || b) || c ≡ a || (b || c)
or-assoc true b c = refl
or-assoc false b c = refl

or_else-assoc : {A : Type 0} (a b c : Option A) → or_else (or_else a b) c ≡ or_else a (or_else b c)
or_else-assoc (Some x) b c = refl
or_else-assoc None b c = refl

or_else-none : {A : Type 0} (a : Option A) → or_else a None ≡ a
or_else-none (Some x) = refl
or_else-none None = refl

or-false : (a : Bool) → a || false ≡ a
or-false true = refl
or-false false = refl

stores_in : (c : Callees) (xs : List Full) (f : Findings) → (noted_all c xs f).effects.stores ≡ f.effects.stores || list_any (is_writing c) xs
stores_in c [] f = sym (or-false f.effects.stores)
stores_in c (x ∷ xs) f = stores_in c xs (noted c x f) ∙ or-assoc f.effects.stores (is_writing c x) (list_any (is_writing c) xs)

reads_in : (c : Callees) (xs : List Full) (f : Findings) → (noted_all c xs f).effects.reads ≡ f.effects.reads || list_any (is_reading c) xs
reads_in c [] f = sym (or-false f.effects.reads)
reads_in c (x ∷ xs) f = reads_in c xs (noted c x f) ∙ or-assoc f.effects.reads (is_reading c x) (list_any (is_reading c) xs)

broken_in : (c : Callees) (xs : List Full) (f : Findings) → (noted_all c xs f).broken ≡ or_else f.broken (first_broken c xs)
broken_in c [] f = sym (or_else-none f.broken)
broken_in c (x ∷ xs) f = broken_in c xs (noted c x f) ∙ or_else-assoc f.broken (broken_of c x) (first_broken c xs)

pub effects_found : (c : Callees) (xs : List Full) → let e : Effects = record { stores = list_any (is_writing c) xs; reads = list_any (is_reading c) xs } in (noted_all c xs nothing).effects ≡ e
effects_found c xs = λ i. record { stores = stores_in c xs nothing i; reads = reads_in c xs nothing i }

pub first_found : (c : Callees) (xs : List Full) → (noted_all c xs nothing).broken ≡ first_broken c xs
first_found c xs = broken_in c xs nothing

pub if_ok : {X E : Type 0} {P Q : X → Type 0} (r : Result X E) → ((x : X) → P x → Q x) → IfOk r P → IfOk r Q
if_ok (Ok x) f h = f x h
if_ok (Err e) f h = h

-- ---- what contracts see of statements and expressions

pub view_node : (e : Expr) → view e ≡ Node e.place e.ty (view_kind e.kind.value)
view_node e = search (rules, the_lemmas)

pub block_seen : (all : Vec Stmt Global) → view_stmt (form.Block all) ≡ Block (view_stmts all.items)
block_seen all = search (rules, stmt_lemmas)

pub if_seen : (c : Expr) (s : Box Stmt Global) (o : Option (Box Stmt Global)) → view_stmt (form.If c s o) ≡ If (view c) (view_stmt s.value) (view_optional o)
if_seen c s None = search (rules, stmt_lemmas)
if_seen c s (Some o) = search (rules, stmt_lemmas)

pub for_seen : (i : Option (Box Stmt Global)) (c n : Option Expr) (s : Box Stmt Global) →
    view_stmt (form.For i c n s) ≡ For (view_optional i) (option_map view c) (option_map view n) (view_stmt s.value)
for_seen None c n s = search (rules, stmt_lemmas)
for_seen (Some i) c n s = search (rules, stmt_lemmas)

-- ---- what is found behind the condition and the first branch of an `if`

pub if_found : (callees : Callees) (c : Tree) (s : Statement) (o : Optional) (ts its bts : TakenTrees) (env env' : Env) (more : List Full) (f f1 f2 : Findings) →
    its ≡ inner ts → bts ≡ behind (inner ts) → f1 ≡ noted callees (full c env) f →
    ((rest : List Full) → noted_all callees (full_statement s its (opened env) rest) f1 ≡ noted_all callees rest f2) → env' ≡ env →
    noted_all callees (full_statement (If c s o) ts env more) f ≡ noted_all callees (full_optional o bts (opened env') more) f2
if_found callees c s o ts its bts env env' more f f1 f2 i b first branch same =
    let rest = full_optional o (behind (inner ts)) (opened env) more in
    ap (noted_all callees (full_statement s (inner ts) (opened env) rest)) (sym first) ∙ ap (λ t. noted_all callees (full_statement s t (opened env) rest) f1) (sym i) ∙ branch rest ∙
    ap (λ t. noted_all callees (full_optional o t (opened env) more) f2) (sym b) ∙ ap (λ e. noted_all callees (full_optional o bts (opened e) more) f2) (sym same)
