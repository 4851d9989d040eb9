-- What every place of a function or table sees of its unit, and that a check which refuses leaves it.
use Rattle.std.specs.Prelude.{Bool, true, false, List, [], ◌∷◌, Result, Ok, Err}
use Rattle.c_text.specs.declared.refusals.Fail.{Fail}
use Rattle.c_text.specs.declared.refusals.Fail.TheVariants.{Refused, Memory}
use Rattle.scopes.specs.Scopes.{Scope, Env}

-- the outermost scope of those around a scope, or that scope itself
abbrev pub outermost : List Scope → Scope → Scope
outermost [] s = s
outermost (file ∷ inner) s = file

-- what is seen where all scopes but the outermost, that of the file, have ended, and so outside functions
abbrev pub at_file : Env → Env
at_file env = record env { outer = []; innermost = outermost env.outer env.innermost; calls_none = false }

-- the innermost scope isn't the file's
abbrev pub has_scopes : List Scope → Bool
has_scopes [] = false
has_scopes (s ∷ inner) = true

abbrev pub is_inside : Env → Bool
is_inside env = has_scopes env.outer

-- where the answer is a refusal, this holds
abbrev pub OnRefusal : {X : Type 0} → Result X Fail → Type 0 → Type 0
OnRefusal (Ok x) P = Unit {0}
OnRefusal (Err Memory) P = Unit {0}
OnRefusal (Err (Refused r)) P = P

-- where the answer isn't want of memory, this holds
abbrev pub OnAnswer : {X : Type 0} → Result X Fail → Type 0 → Type 0
OnAnswer (Ok x) P = P
OnAnswer (Err Memory) P = Unit {0}
OnAnswer (Err (Refused r)) P = P
