-- What it is that a statement is another one with its types set and each conversion a cast (C11 6.8 and the profile).
use Rattle.std.specs.Prelude.{◌≡◌, true, List, [], ◌∷◌, Option, Some, None}
use Rattle.c_text.specs.declared.tokens.Place.{Place}
use Rattle.c_tree.specs.declared.types.CType.{CType}
use Rattle.c_tree.specs.declared.types.CType.TheVariants.{Void}
use Rattle.c_tree.specs.Tree.{Tree, Object, Statement, Statements, Optional, Declare, Run, Block, If, While, DoWhile, For, Break, Continue, Return, Empty, Absent, Present, NoStatements, Then}
use Rattle.c_tree.specs.Nodes.{node_type}
use Rattle.type_rules.specs.Rules.{IsScalar, Assigned}
use Rattle.scopes.specs.Scopes.{Env, with_object}
use Rattle.expression_types.specs.Typed.{Typed}
use Rattle.object_types.specs.Objects.{known}
use Rattle.object_types.specs.Typed.{TypedObject}
use Rattle.statement_types.specs.Statements.{Around, inside, looped, beyond, beyond_optional}

-- objects of one declaration (6.7p1): each stands in the scope with those before it (6.2.1p7)
pub data TypedObjects : Env → List Object → List Object → Type 0 where
  no_object : (env : Env) → TypedObjects env [] []
  one_object : (env : Env) (d v : Object) (rest more : List Object) → TypedObject env d v → TypedObjects (with_object v.name (known v.constant v.ty) env) rest more → TypedObjects env (d ∷ rest) (v ∷ more)

-- a condition is an integer or a pointer (6.8.4.1p1, 6.8.5p2)
pub data TypedCondition (env : Env) : Tree → Tree → Type 0 where
  condition : (e v : Tree) → Typed env e v → IsScalar (node_type v) → TypedCondition env e v

-- the condition and the last expression of a `for` may be left out (6.8.5.3p2)
pub data OptionalCondition (env : Env) : Option Tree → Option Tree → Type 0 where
  no_condition : OptionalCondition env None None
  one_condition : (e v : Tree) → TypedCondition env e v → OptionalCondition env (Some e) (Some v)

pub data OptionalExpression (env : Env) : Option Tree → Option Tree → Type 0 where
  no_expression : OptionalExpression env None None
  one_expression : (e v : Tree) → Typed env e v → OptionalExpression env (Some e) (Some v)

-- A function that gives nothing returns without a value, and any other with one (6.8.6.4p1), which becomes of the function's type as if it
-- were assigned to an object of that type (6.8.6.4p3).
pub data Returned (env : Env) (t : CType) : Option Tree → Option Tree → Type 0 where
  nothing : t ≡ Void → Returned env t None None
  value : (e a v : Tree) → (t ≡ Void → ⊥) → Typed env e a → Assigned a t v → Returned env t (Some e) (Some v)

-- what stands around the parts of a `for` behind its first one: the scope of the loop, with what that declares (6.8.5.3p1)
abbrev pub behind_first : Optional → Around → Around
behind_first i c = record (inside c) { env = beyond_optional i (inside c).env }

mutual
  pub data TypedStatement : Around → Statement → Statement → Type 0 where
    -- declarations (6.7) and expressions (6.8.3)
    declaration : (c : Around) (all vs : List Object) → TypedObjects c.env all vs → TypedStatement c (Declare all) (Declare vs)
    expression : (c : Around) (e v : Tree) → Typed c.env e v → TypedStatement c (Run e) (Run v)
    -- a block is a scope (6.8p3, 6.8.2p1)
    block : (c : Around) (all vs : Statements) → TypedStatements (inside c) all vs → TypedStatement c (Block all) (Block vs)
    -- each part of a selection is a scope (6.8.4p3); the condition, which declares nothing, sees what stands before
    selection : (c : Around) (e v : Tree) (s t : Statement) (o u : Optional) → TypedCondition c.env e v → TypedStatement (inside c) s t → TypedOptional (inside c) o u → TypedStatement c (If e s o) (If v t u)
    -- the body of a loop is a scope (6.8.5p5)
    while_loop : (c : Around) (e v : Tree) (s t : Statement) → TypedCondition c.env e v → TypedStatement (looped c) s t → TypedStatement c (While e s) (While v t)
    do_loop : (c : Around) (s t : Statement) (e v : Tree) → TypedStatement (looped c) s t → TypedCondition c.env e v → TypedStatement c (DoWhile s e) (DoWhile t v)
    -- what the first part of a `for` declares is seen by the whole loop and ends with it (6.8.5p5, 6.8.5.3p1)
    for_loop : (c : Around) (i j : Optional) (e v n m : Option Tree) (s t : Statement) → TypedOptional (inside c) i j → OptionalCondition (behind_first j c).env e v → OptionalExpression (behind_first j c).env n m →
        TypedStatement (looped (behind_first j c)) s t → TypedStatement c (For i e n s) (For j v m t)
    -- `break` and `continue` stand in loops (6.8.6.2p1, 6.8.6.3p1)
    break_statement : (c : Around) (p : Place) → c.in_loop ≡ true → TypedStatement c (Break p) (Break p)
    continue_statement : (c : Around) (p : Place) → c.in_loop ≡ true → TypedStatement c (Continue p) (Continue p)
    -- `return` (6.8.6.4)
    return_statement : (c : Around) (p : Place) (e v : Option Tree) → Returned c.env c.result e v → TypedStatement c (Return p e) (Return p v)
    -- the empty statement (6.8.3p3)
    null_statement : (c : Around) → TypedStatement c Empty Empty

  pub data TypedOptional : Around → Optional → Optional → Type 0 where
    absent : (c : Around) → TypedOptional c Absent Absent
    present : (c : Around) (s t : Statement) → TypedStatement c s t → TypedOptional c (Present s) (Present t)

  -- statements in a row: what one declares is seen by those behind it (6.2.1p4, p7)
  pub data TypedStatements : Around → Statements → Statements → Type 0 where
    no_more : (c : Around) → TypedStatements c NoStatements NoStatements
    one_more : (c : Around) (s t : Statement) (rest more : Statements) → TypedStatement c s t → TypedStatements (record c { env = beyond t c.env }) rest more → TypedStatements c (Then s rest) (Then t more)
