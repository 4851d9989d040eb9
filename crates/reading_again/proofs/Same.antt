-- Trees that are the same get the same types.
use Rattle.std.proofs.Common.{◌≡◌, List, [], ◌∷◌, map, Bool, false, Ok, Err, refl, sym, ap, ◌∙◌, subst}
use Rattle.std.specs.Prelude.{Result}
use Rattle.c_text.specs.declared.tokens.Dialect.{Dialect}
use Rattle.c_text.specs.declared.refusals.Refusal.{Refusal}
use Rattle.c_tree.specs.Tree.{Tree, Object, Statement, Statements, Optional, Declare, Run, Block, If, While, DoWhile, For, Break, Continue, Return, Empty, Absent, Present, NoStatements, Then}
use Rattle.c_tree.specs.Tree.{Definition, External, Function, Table}
use Rattle.c_tree.specs.Same.{stripped, stripped_statement, stripped_statements, stripped_optional, stripped_external, Same}
use Rattle.scopes.specs.Scopes.{Env}
use Rattle.expression_types.specs.Check.{check}
use Rattle.object_types.specs.Objects.{check_object}
use Rattle.statement_types.specs.Statements.{Around, check_statement}
use Rattle.vector_types.specs.Functions.{check_function}
use Rattle.vector_types.specs.Units.{check_unit}
use Rattle.reading_again.specs.Rewritten.{statement, statements, optional, definition, unit}
use Rattle.reading_again.specs.Unplaced.{unplaced, unplaced_object, places, DifferInPlaces}
use Rattle.reading_again.specs.Answers.{unplaced_answer, unplaced_unit}
use Rattle.reading_again.specs.Plain.{Plain, PlainObject, PlainStatement, PlainFunction, PlainUnit}
use Rattle.reading_again.specs.Left.{left, left_object, SameUnits}
use Rattle.reading_again.proofs.Plain.{same_plain, same_plain_object, same_plain_statement, same_plain_function, same_plain_unit}
use Rattle.reading_again.proofs.Expressions.{check_alike}
use Rattle.reading_again.proofs.Objects.{object_alike}
use Rattle.reading_again.proofs.Statements.{statement_alike, function_alike}
use Rattle.reading_again.proofs.Units.{unit_alike}

-- What is asked of one tree holds of another of which the same is left, and both get what that gets.
by_left : {A B : Type 0} (P : A → Type 0) (f : A → A) (g : A → B) → ((a : A) → ◌≡◌ {A = Type 0} (P (f a)) (P a)) → ((a : A) → P a → g a ≡ g (f a)) → (a b : A) → P a → f a ≡ f b → g a ≡ g b
by_left P f g same law a b p e = law a p ∙ ap g e ∙ sym (law b (subst (λ t. t) (same b) (subst P e (subst (λ t. t) (sym (same a)) p))))

pub same_expressions : (exact : Bool) (env : Env) (e again : Tree) → Plain e → stripped e ≡ stripped again → unplaced_answer exact unplaced (check e env) ≡ unplaced_answer exact unplaced (check again env)
same_expressions exact env = by_left Plain stripped (λ e. unplaced_answer exact unplaced (check e env)) same_plain (λ e p. check_alike exact e env p)

pub same_objects : (exact : Bool) (env : Env) (d again : Object) → PlainObject d → left_object exact d ≡ left_object exact again → unplaced_answer exact unplaced_object (check_object d env) ≡ unplaced_answer exact unplaced_object (check_object again env)
same_objects exact env = by_left PlainObject (left_object exact) (λ d. unplaced_answer exact unplaced_object (check_object d env)) (same_plain_object exact) (λ d p. object_alike exact d env p)

pub same_statements : (exact : Bool) (c : Around) (s again : Statement) → PlainStatement s → statement (left exact) s ≡ statement (left exact) again → unplaced_answer exact (statement places) (check_statement s c) ≡ unplaced_answer exact (statement places) (check_statement again c)
same_statements exact c = by_left PlainStatement (statement (left exact)) (λ s. unplaced_answer exact (statement places) (check_statement s c)) (same_plain_statement exact) (λ s p. statement_alike exact s c p)

pub same_functions : (exact : Bool) (env : Env) (f again : Definition) → PlainFunction f → definition (left exact) f ≡ definition (left exact) again → unplaced_answer exact (definition places) (check_function f env) ≡ unplaced_answer exact (definition places) (check_function again env)
same_functions exact env = by_left PlainFunction (definition (left exact)) (λ f. unplaced_answer exact (definition places) (check_function f env)) (same_plain_function exact) (λ f p. function_alike exact f env p)

pub same_units : (exact : Bool) (dialect : Dialect) (u again : List External) → PlainUnit u → SameUnits exact u again → unplaced_unit exact (check_unit dialect u) ≡ unplaced_unit exact (check_unit dialect again)
same_units exact dialect = by_left PlainUnit (unit (left exact)) (λ u. unplaced_unit exact (check_unit dialect u)) (same_plain_unit exact) (λ u p. unit_alike exact dialect u p)

-- ---- where the sides of alignments don't count, what is left is what units that are the same have in common

mutual
  same_left : (s : Statement) → statement (left false) s ≡ stripped_statement s
  same_left (Declare all) = refl
  same_left (Run e) = refl
  same_left (Block all) = ap Block (same_left_all all)
  same_left (If c s o) = rw (same_left s, same_left_optional o) refl
  same_left (While c s) = rw (same_left s) refl
  same_left (DoWhile s c) = rw (same_left s) refl
  same_left (For i c n s) = rw (same_left_optional i, same_left s) refl
  same_left (Break p) = refl
  same_left (Continue p) = refl
  same_left (Return p e) = refl
  same_left Empty = refl

  same_left_optional : (o : Optional) → optional (left false) o ≡ stripped_optional o
  same_left_optional Absent = refl
  same_left_optional (Present s) = ap Present (same_left s)

  same_left_all : (all : Statements) → statements (left false) all ≡ stripped_statements all
  same_left_all NoStatements = refl
  same_left_all (Then s rest) = rw (same_left s, same_left_all rest) refl

same_left_unit : (u : List External) → unit (left false) u ≡ map stripped_external u
same_left_unit [] = refl
same_left_unit (Function f ∷ rest) = rw (same_left_all f.body, same_left_unit rest) refl
same_left_unit (Table d is_static ∷ rest) = rw (same_left_unit rest) refl

typed_again : (typed : List External) (x : Result (List External) (List Refusal)) → Ok (unit places typed) ≡ unplaced_unit false x → (v : List External) × (x ≡ Ok v) × DifferInPlaces typed v
typed_again typed (Ok v) e = (v, refl, cc)
typed_again typed (Err list) e = absurd (cc)

-- what is read again has types
pub read_again : (dialect : Dialect) (u again typed : List External) → PlainUnit u → Same u again → check_unit dialect u ≡ Ok typed → (v : List External) × (check_unit dialect again ≡ Ok v) × DifferInPlaces typed v
read_again dialect u again typed plain same e =
    typed_again typed (check_unit dialect again) (ap (unplaced_unit false) (sym e) ∙ same_units false dialect u again plain (same_left_unit u ∙ same ∙ sym (same_left_unit again)))
