-- The file's scope stays where scopes open in it.
use Rattle.std.proofs.Common.{◌≡◌, true, List, [], ◌∷◌, ◌++◌, Result, Ok, Err, refl}
use Rattle.c_text.specs.declared.refusals.Fail.{Fail}
use Rattle.c_text.specs.declared.refusals.Fail.TheVariants.{Refused, Memory}
use Rattle.scopes.specs.Scopes.{Scope, Env, opened}
use Rattle.scopes.specs.Kept.{outermost, at_file, has_scopes, is_inside, OnRefusal}

pub outermost-append : (o : List Scope) (s t : Scope) → outermost (o ++ s ∷ []) t ≡ outermost o s
outermost-append [] s t = refl
outermost-append (f ∷ o) s t = refl

-- whatever the scope declares that opened
pub opened_at_file : (env : Env) (s : Scope) → at_file (record (opened env) { innermost = s }) ≡ at_file env
opened_at_file env s = rw (outermost-append env.outer env.innermost s) refl

inner_outermost : (o : List Scope) (s t : Scope) → has_scopes o ≡ true → outermost o s ≡ outermost o t
inner_outermost [] s t h = cc
inner_outermost (f ∷ o) s t h = refl

-- whatever a scope declares that isn't the file's
pub inner_at_file : (env : Env) (s : Scope) → is_inside env ≡ true → at_file (record env { innermost = s }) ≡ at_file env
inner_at_file env s h = rw (inner_outermost env.outer s env.innermost h) refl

appended : (o : List Scope) (s : Scope) → has_scopes (o ++ s ∷ []) ≡ true
appended [] s = refl
appended (f ∷ o) s = refl

pub opened_inside : (env : Env) → is_inside (opened env) ≡ true
opened_inside env = appended env.outer env.innermost

pub on_refusal : {X P : Type 0} (r : Result X Fail) → P → OnRefusal r P
on_refusal (Ok x) h = tt
on_refusal (Err Memory) h = tt
on_refusal (Err (Refused r)) h = h

-- what holds on a refusal leads to what holds then
pub on_refusal_then : {X P Q : Type 0} (r : Result X Fail) → (P → Q) → OnRefusal r P → OnRefusal r Q
on_refusal_then (Ok x) f h = tt
on_refusal_then (Err Memory) f h = tt
on_refusal_then (Err (Refused r)) f h = f h
