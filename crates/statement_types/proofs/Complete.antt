-- What is typed by the rules passes the check.
use Rattle.std.proofs.Common.{◌≡◌, ◌↔◌, true, List, Option, Some, Ok, refl, ap}
use Rattle.c_text.specs.declared.tokens.Place.{Place}
use Rattle.c_tree.specs.declared.types.CType.{CType}
use Rattle.c_tree.specs.declared.types.CType.TheVariants.{Int, Pointer}
use Rattle.c_tree.specs.Tree.{Tree, Object, Statement, Statements, Optional}
use Rattle.c_tree.specs.Nodes.{node_type}
use Rattle.type_rules.specs.Types.{is_scalar, assigned}
use Rattle.type_rules.specs.Rules.{IsScalar, Assigned}
use Rattle.scopes.specs.Scopes.{Env, with_object}
use Rattle.expression_types.specs.Check.{check}
use Rattle.expression_types.specs.Typed.{Typed}
use Rattle.object_types.specs.Objects.{known, check_object}
use Rattle.object_types.specs.Typed.{TypedObject}
use Rattle.statement_types.specs.Statements.{Around, inside, looped, beyond, check_objects, condition, maybe_condition, maybe_expression, returned_value, returned, check_statement, check_optional, check_statements}
use Rattle.statement_types.specs.Typed as t
use Rattle.statement_types.specs.Typed.{TypedObjects, TypedCondition, OptionalCondition, OptionalExpression, Returned, behind_first, TypedStatement, TypedOptional, TypedStatements}

scalar-holds : (u : CType) → IsScalar u → is_scalar u ≡ true
scalar-holds (Int s) h = refl
scalar-holds (Pointer e c) h = refl
scalar-holds _ h = absurd h

module _ (passes : (env : Env) (u v : Tree) → (check u env ≡ Ok v) ↔ Typed env u v) (given : (u : CType) (a v : Tree) → (assigned u a ≡ Some v) ↔ Assigned a u v)
    (declares : (env : Env) (d v : Object) → (check_object d env ≡ Ok v) ↔ TypedObject env d v) where
  pub objects-hold : (env : Env) (all vs : List Object) → TypedObjects env all vs → check_objects all env ≡ Ok vs
  objects-hold env all vs (t.no_object e) = refl
  objects-hold env all vs (t.one_object e d v rest more x y) = rw ((declares e d v).1 x, objects-hold (with_object v.name (known v.constant v.ty) e) rest more y) refl

  condition-holds : (env : Env) (e v : Tree) → TypedCondition env e v → condition e env ≡ Ok v
  condition-holds env e v (t.condition a b x h) = rw ((passes env a b).1 x, scalar-holds (node_type b) h) refl

  maybe_condition-holds : (env : Env) (e v : Option Tree) → OptionalCondition env e v → maybe_condition e env ≡ Ok v
  maybe_condition-holds env e v t.no_condition = refl
  maybe_condition-holds env e v (t.one_condition a b x) = rw (condition-holds env a b x) refl

  maybe_expression-holds : (env : Env) (e v : Option Tree) → OptionalExpression env e v → maybe_expression e env ≡ Ok v
  maybe_expression-holds env e v t.no_expression = refl
  maybe_expression-holds env e v (t.one_expression a b x) = rw ((passes env a b).1 x) refl

  returned-holds : (p : Place) (u : CType) (env : Env) (e v : Option Tree) → Returned env u e v → returned p u e env ≡ Ok v
  returned-holds p u env e v (t.nothing h) = rw h refl
  returned-holds p u env e v (t.value a b w n x y) = rw ((passes env a b).1 x) (ap (returned_value p u) ((given u b w).1 y))

  mutual
    pub statement-holds : (c : Around) (s v : Statement) → TypedStatement c s v → check_statement s c ≡ Ok v
    statement-holds c s v (t.declaration d all vs x) = rw (objects-hold d.env all vs x) refl
    statement-holds c s v (t.expression d e w x) = rw ((passes d.env e w).1 x) refl
    statement-holds c s v (t.block d all vs x) = rw (statements-hold (inside d) all vs x) refl
    statement-holds c s v (t.selection d e w a b o u x y z) = rw (condition-holds d.env e w x, statement-holds (inside d) a b y, optional-holds (inside d) o u z) refl
    statement-holds c s v (t.while_loop d e w a b x y) = rw (condition-holds d.env e w x, statement-holds (looped d) a b y) refl
    statement-holds c s v (t.do_loop d a b e w x y) = rw (statement-holds (looped d) a b x, condition-holds d.env e w y) refl
    statement-holds c s v (t.for_loop d i j e w n m a b x y z r) =
        rw (optional-holds (inside d) i j x, maybe_condition-holds (behind_first j d).env e w y, maybe_expression-holds (behind_first j d).env n m z, statement-holds (looped (behind_first j d)) a b r) refl
    statement-holds c s v (t.break_statement d p h) = rw h refl
    statement-holds c s v (t.continue_statement d p h) = rw h refl
    statement-holds c s v (t.return_statement d p e w x) = rw (returned-holds p d.result d.env e w x) refl
    statement-holds c s v (t.null_statement d) = refl

    pub optional-holds : (c : Around) (s v : Optional) → TypedOptional c s v → check_optional s c ≡ Ok v
    optional-holds c s v (t.absent d) = refl
    optional-holds c s v (t.present d a b x) = rw (statement-holds d a b x) refl

    pub statements-hold : (c : Around) (s v : Statements) → TypedStatements c s v → check_statements s c ≡ Ok v
    statements-hold c s v (t.no_more d) = refl
    statements-hold c s v (t.one_more d a b rest more x y) = rw (statement-holds d a b x, statements-hold (record d { env = beyond b d.env }) rest more y) refl
