-- A function's scope, which opens in the file's and declares the parameters.
use Rattle.std.proofs.Common.{◌≡◌, ◌∙◌, true, List, [], Result, Ok, Err, sym, ap, subst}
use Rattle.c_text.specs.declared.refusals.Fail.{Fail}
use Rattle.c_text.specs.declared.refusals.Fail.TheVariants.{Refused, Memory}
use Rattle.c_tree.specs.Tree.{Object}
use Rattle.scopes.specs.Scopes.{Env, opened}
use Rattle.scopes.specs.Kept.{at_file, is_inside, OnAnswer}
use Rattle.scopes.proofs.Outermost.{opened_at_file, opened_inside}
use Rattle.statement_types.specs.Statements.{with_objects}
use Rattle.statement_types.proofs.FileScope.{objects_inside, objects_at_file}

pub entered_inside : (ps : List Object) (env inner entered : Env) → entered ≡ with_objects ps inner → inner ≡ opened env → is_inside entered ≡ true
entered_inside ps env inner entered e h = subst (λ x. is_inside x ≡ true) (sym (e ∙ ap (with_objects ps) h)) (objects_inside ps (opened env) (opened_inside env))

pub entered_at_file : (ps : List Object) (env inner entered : Env) → entered ≡ with_objects ps inner → inner ≡ opened env → at_file entered ≡ at_file env
entered_at_file ps env inner entered e h = ap at_file (e ∙ ap (with_objects ps) h) ∙ objects_at_file ps (opened env) (opened_inside env) ∙ opened_at_file env []

pub on_answer_then : {X P Q : Type 0} (r : Result X Fail) → (P → Q) → OnAnswer r P → OnAnswer r Q
on_answer_then (Ok x) f h = f h
on_answer_then (Err Memory) f h = tt
on_answer_then (Err (Refused r)) f h = f h
