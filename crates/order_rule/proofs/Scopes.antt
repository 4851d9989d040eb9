-- Scopes that open and end.
use Rattle.std.proofs.Common.{◌≡◌, ◌∙◌, ℕ, Bool, true, false, List, [], ◌∷◌, ◌++◌, refl, ap, is_some}
use Rattle.c_tree.specs.Tree.{Object, Statement, Statements, Optional, Declare, Absent, Present, NoStatements, Then}
use Rattle.scopes.specs.Scopes.{named}
use Rattle.address_taken.specs.Taken.{TakenTrees}
use Rattle.order_rule.specs.Memory.{Env, Scope, with_object, opened, closed, last_scope, but_last}
use Rattle.order_rule.specs.Full.{flags, behind, first_flag, other_flags, with_objects, beyond, beyond_optional, beyond_all}

last-append : (o : List Scope) (s : Scope) → last_scope (o ++ s ∷ []) ≡ s
last-append [] s = refl
last-append (a ∷ []) s = refl
last-append (a ∷ b ∷ o) s = last-append (b ∷ o) s

but_last-append : (o : List Scope) (s : Scope) → but_last (o ++ s ∷ []) ≡ o
but_last-append [] s = refl
but_last-append (a ∷ []) s = refl
but_last-append (a ∷ b ∷ o) s = ap (λ x. a ∷ x) (but_last-append (b ∷ o) s)

pub ends : (env : Env) (s : Scope) → closed (record (opened env) { innermost = s }) ≡ env
ends env s = rw (last-append env.outer env.innermost, but_last-append env.outer env.innermost) refl

pub closes : (old new : List Scope) (x i : Scope) (outside : List ℕ → Bool) → old ≡ new ++ x ∷ [] →
    let before : Env = record { outer = old; innermost = i; outside = outside } in
    let after : Env = record { outer = new; innermost = x; outside = outside } in
    after ≡ closed before
closes old new x i outside e = rw (e, last-append new x, but_last-append new x) refl

-- a statement declares in the innermost scope alone
abbrev Inner : Env → Env → Type 0
Inner env env' = (s : Scope) × (env' ≡ record env { innermost = s })

object-inner : (x : List ℕ) (taken : Bool) (env : Env) → Inner env (with_object x taken env)
object-inner x taken env = by (is_some (named x env.innermost)) refl
  where
    by : (b : Bool) → is_some (named x env.innermost) ≡ b → Inner env (with_object x taken env)
    by true p = (env.innermost, rw p refl)
    by false p = (env.innermost ++ (x, taken) ∷ [], rw p refl)

then-inner : (env env' env'' : Env) → Inner env env' → Inner env' env'' → Inner env env''
then-inner env env' env'' p q = (q.0, q.1 ∙ ap (λ (e : Env). record e { innermost = q.0 }) p.1)

objects-inner : (all : List Object) (taken : List Bool) (env : Env) → Inner env (with_objects all taken env)
objects-inner [] taken env = (env.innermost, refl)
objects-inner (d ∷ rest) taken env =
    let next = with_object d.name (first_flag taken) env in
    then-inner env next _ (object-inner d.name (first_flag taken) env) (objects-inner rest (other_flags taken) next)

beyond-inner : (s : Statement) (ts : TakenTrees) (env : Env) → Inner env (beyond s ts env)
beyond-inner (Declare all) ts env = objects-inner all (flags ts) env
beyond-inner _ ts env = (env.innermost, refl)

beyond_all-inner : (ss : Statements) (ts : TakenTrees) (env : Env) → Inner env (beyond_all ss ts env)
beyond_all-inner NoStatements ts env = (env.innermost, refl)
beyond_all-inner (Then s rest) ts env = then-inner env (beyond s ts env) _ (beyond-inner s ts env) (beyond_all-inner rest (behind ts) (beyond s ts env))

optional-inner : (o : Optional) (ts : TakenTrees) (env : Env) → Inner env (beyond_optional o ts env)
optional-inner Absent ts env = (env.innermost, refl)
optional-inner (Present s) ts env = beyond-inner s ts env

pub statement-ends : (s : Statement) (ts : TakenTrees) (env : Env) → closed (beyond s ts (opened env)) ≡ env
statement-ends s ts env = let p = beyond-inner s ts (opened env) in ap closed p.1 ∙ ends env p.0

pub statements-end : (ss : Statements) (ts : TakenTrees) (env : Env) → closed (beyond_all ss ts (opened env)) ≡ env
statements-end ss ts env = let p = beyond_all-inner ss ts (opened env) in ap closed p.1 ∙ ends env p.0

pub optional-ends : (o : Optional) (ts : TakenTrees) (env : Env) → closed (beyond_optional o ts (opened env)) ≡ env
optional-ends o ts env = let p = optional-inner o ts (opened env) in ap closed p.1 ∙ ends env p.0
