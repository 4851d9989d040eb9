-- The check of statements (C11 6.8): the typed statement, or the first node that fails in the order of the text.
use Rattle.std.specs.Prelude.{ℕ, Bool, true, if◌then◌else◌, List, [], ◌∷◌, Option, Some, None, Ok, codes}
use Rattle.c_text.specs.declared.tokens.Place.{Place}
use Rattle.c_tree.specs.declared.types.CType.{CType}
use Rattle.c_tree.specs.declared.types.CType.TheVariants.{Void}
use Rattle.c_tree.specs.Tree.{Tree, Object, Statement, Statements, Optional, Declare, Run, Block, If, While, DoWhile, For, Break, Continue, Return, Empty, Absent, Present, NoStatements, Then}
use Rattle.c_tree.specs.Nodes.{node_type, node_place}
use Rattle.type_rules.specs.Types.{is_scalar, same_type, assigned}
use Rattle.scopes.specs.Scopes.{Env, with_object, opened}
use Rattle.c_tree.specs.Marks.{mark}
use Rattle.expression_types.specs.Check.{◌>>=◌, Checked, refuse, check}
use Rattle.object_types.specs.Objects.{known, check_object}

-- what stands around a statement: what its place sees, the type that its function gives, and whether it is in a loop
pub record Around : Type 0 where
  pub env : Env
  pub result : CType
  pub in_loop : Bool

-- a scope opens for each block, and for the parts of `if` and of a loop (6.8p3, 6.8.4p3, 6.8.5p5)
abbrev pub inside : Around → Around
inside c = record c { env = opened c.env }

abbrev pub looped : Around → Around
looped c = record c { env = opened c.env; in_loop = true }

-- the scope with these objects, which have their types
abbrev pub with_objects : List Object → Env → Env
with_objects [] env = env
with_objects (d ∷ rest) env = with_objects rest (with_object d.name (known d.constant d.ty) env)

-- declared objects, each in the scope with those before it
abbrev pub check_objects : List Object → Env → Checked (List Object)
check_objects [] env = Ok []
check_objects (d ∷ rest) env = check_object d env >>= λ v. check_objects rest (with_object v.name (known v.constant v.ty) env) >>= λ more. Ok (v ∷ more)

-- a condition is an integer or a pointer (6.8.4.1p1, 6.8.5p2)
abbrev pub scalar : Tree → Checked Tree
scalar v = if is_scalar (node_type v) then Ok v else refuse 11 (node_place v) (mark v)

abbrev pub condition : Tree → Env → Checked Tree
condition e env = check e env >>= λ v. scalar v

abbrev pub maybe_condition : Option Tree → Env → Checked (Option Tree)
maybe_condition None env = Ok None
maybe_condition (Some e) env = condition e env >>= λ v. Ok (Some v)

abbrev pub maybe_expression : Option Tree → Env → Checked (Option Tree)
maybe_expression None env = Ok None
maybe_expression (Some e) env = check e env >>= λ v. Ok (Some v)

-- what is returned: nothing by a function that gives nothing, and else a value that its type may be given (6.8.6.4p1, p3)
abbrev pub returned_value : Place → CType → Option Tree → Checked (Option Tree)
returned_value p t (Some v) = Ok (Some v)
returned_value p t None = refuse 11 p (codes "return")

abbrev pub returned : Place → CType → Option Tree → Env → Checked (Option Tree)
returned p t None env = if same_type t Void then Ok None else refuse 11 p (codes "return")
returned p t (Some e) env = check e env >>= λ v. returned_value p t (assigned t v)

-- `break` and `continue` stand in loops (6.8.6.2p1, 6.8.6.3p1)
abbrev pub in_a_loop : Bool → Place → List ℕ → Statement → Checked Statement
in_a_loop b p word s = if b then Ok s else refuse 11 p word

-- what a statement leaves in scope
abbrev pub beyond : Statement → Env → Env
beyond (Declare all) env = with_objects all env
beyond s env = env

abbrev pub beyond_optional : Optional → Env → Env
beyond_optional (Present s) env = beyond s env
beyond_optional Absent env = env

abbrev pub beyond_all : Statements → Env → Env
beyond_all NoStatements env = env
beyond_all (Then s rest) env = beyond_all rest (beyond s env)

abbrev pub around : Env → CType → Bool → Around
around env t b = record { env = env; result = t; in_loop = b }

abbrev mutual
  pub check_statement : Statement → Around → Checked Statement
  check_statement (Declare all) c = check_objects all c.env >>= λ vs. Ok (Declare vs)
  check_statement (Run e) c = check e c.env >>= λ v. Ok (Run v)
  check_statement (Block all) c = check_statements all (inside c) >>= λ vs. Ok (Block vs)
  check_statement (If e s o) c = condition e c.env >>= λ v. check_statement s (inside c) >>= λ t. check_optional o (inside c) >>= λ u. Ok (If v t u)
  check_statement (While e s) c = condition e c.env >>= λ v. check_statement s (looped c) >>= λ t. Ok (While v t)
  check_statement (DoWhile s e) c = check_statement s (looped c) >>= λ t. condition e c.env >>= λ v. Ok (DoWhile t v)
  check_statement (For i e n s) c =
      check_optional i (inside c) >>= λ j.
      maybe_condition e (beyond_optional j (inside c).env) >>= λ v.
      maybe_expression n (beyond_optional j (inside c).env) >>= λ m.
      check_statement s (looped (record c { env = beyond_optional j (inside c).env })) >>= λ t.
      Ok (For j v m t)
  check_statement (Break p) c = in_a_loop c.in_loop p (codes "break") (Break p)
  check_statement (Continue p) c = in_a_loop c.in_loop p (codes "continue") (Continue p)
  check_statement (Return p e) c = returned p c.result e c.env >>= λ v. Ok (Return p v)
  check_statement Empty c = Ok Empty

  pub check_optional : Optional → Around → Checked Optional
  check_optional Absent c = Ok Absent
  check_optional (Present s) c = check_statement s c >>= λ v. Ok (Present v)

  pub check_statements : Statements → Around → Checked Statements
  check_statements NoStatements c = Ok NoStatements
  check_statements (Then s rest) c = check_statement s c >>= λ v. check_statements rest (record c { env = beyond v c.env }) >>= λ vs. Ok (Then v vs)
