-- What statements declare inside a file's scope leaves that as it is.
use Rattle.std.proofs.Common.{◌≡◌, ◌∙◌, Bool, true, List, [], ◌∷◌, ◌++◌, refl, sym, ap}
use Rattle.c_tree.specs.Tree.{Object, Statement, Statements, Optional, Declare, Absent, Present, NoStatements, Then}
use Rattle.scopes.specs.Scopes.{Env, with_object}
use Rattle.scopes.specs.Kept.{at_file, is_inside}
use Rattle.scopes.proofs.Outermost.{inner_at_file}
use Rattle.object_types.specs.Objects.{known}
use Rattle.statement_types.specs.Statements.{with_objects, beyond, beyond_optional, beyond_all}

pub objects_inside : (all : List Object) (env : Env) → is_inside env ≡ true → is_inside (with_objects all env) ≡ true
objects_inside [] env h = h
objects_inside (d ∷ rest) env h = objects_inside rest (with_object d.name (known d.constant d.ty) env) h

pub objects_at_file : (all : List Object) (env : Env) → is_inside env ≡ true → at_file (with_objects all env) ≡ at_file env
objects_at_file [] env h = refl
objects_at_file (d ∷ rest) env h =
    objects_at_file rest (with_object d.name (known d.constant d.ty) env) h ∙ inner_at_file env (env.innermost ++ (d.name, known d.constant d.ty) ∷ []) h

beyond_inside : (s : Statement) (env : Env) → is_inside env ≡ true → is_inside (beyond s env) ≡ true
beyond_inside (Declare all) env h = objects_inside all env h
beyond_inside _ env h = h

beyond_at_file : (s : Statement) (env : Env) → is_inside env ≡ true → at_file (beyond s env) ≡ at_file env
beyond_at_file (Declare all) env h = objects_at_file all env h
beyond_at_file _ env h = refl

pub optional_at_file : (o : Optional) (env : Env) → is_inside env ≡ true → at_file (beyond_optional o env) ≡ at_file env
optional_at_file Absent env h = refl
optional_at_file (Present s) env h = beyond_at_file s env h

pub statements_inside : (all : Statements) (env : Env) → is_inside env ≡ true → is_inside (beyond_all all env) ≡ true
statements_inside NoStatements env h = h
statements_inside (Then s rest) env h = statements_inside rest (beyond s env) (beyond_inside s env h)

pub statements_at_file : (all : Statements) (env : Env) → is_inside env ≡ true → at_file (beyond_all all env) ≡ at_file env
statements_at_file NoStatements env h = refl
statements_at_file (Then s rest) env h = statements_at_file rest (beyond s env) (beyond_inside s env h) ∙ beyond_at_file s env h
