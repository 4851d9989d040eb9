-- The meaning of statements and calls where the truth values of `address_taken` stand beside them: whether an object is a block is read
-- there and not found again. On the truth values of `taken_function` this is the meaning.
use Rattle.std.specs.Prelude.{ℕ, Bool, false, ◌||◌, List, [], ◌∷◌, Option, if◌then◌else◌}
use Rattle.std.specs.Str.{bytes_eq}
use Rattle.c_tree.specs.Tree.{Object, Statement, Statements, Optional, Declare, Run, Block, If, While, DoWhile, For, Break, Continue, Return, Empty, Absent, Present, NoStatements, Then, Definition}
use Rattle.address_taken.specs.Taken.{TakenTrees, Objects, Parts, NoParts, Part, FunctionTaken}
use Rattle.c_memory.specs.declared.value.Value.{Value}
use Rattle.c_memory.specs.MeaningState.{Binding, Does, ◌>>=◌, ◌>>◌, pure, undefined, object_of, then_do, scoped}
use Rattle.c_tree.specs.Types.{is_array}
use Rattle.c_memory.specs.Meaning.{Calls, Next, Broke, Continued, choose, condition, expression, begin_object, initialised, first_value, on_next, loops, loops_after, with_step, Acts, optional_condition, optional_value, returned, result, back_to, spend_for}

-- of statements in a row, the truth values of the first one's declarators
abbrev pub flags_of : TakenTrees → List Bool
flags_of (Part (Objects all) rest) = all
flags_of trees = []

-- what the first one's parts have
abbrev pub parts_of : TakenTrees → TakenTrees
parts_of (Part (Parts all) rest) = all
parts_of trees = NoParts

-- what the statements after the first have
abbrev pub rest_of : TakenTrees → TakenTrees
rest_of NoParts = NoParts
rest_of (Part t rest) = rest

abbrev pub first_flag : List Bool → Bool
first_flag [] = false
first_flag (b ∷ rest) = b

abbrev pub other_flags : List Bool → List Bool
other_flags [] = []
other_flags (b ∷ rest) = rest

abbrev pub declare_one : Object → Bool → Calls → Does (Unit {0})
declare_one d taken c = do
  begin_object d (is_array d.ty || taken)
  initialised d d.init d.list c

abbrev pub declare : List Object → List Bool → Calls → Does (Unit {0})
declare [] flags c = pure tt
declare (d ∷ rest) flags c = do
  declare_one d (first_flag flags) c
  declare rest (other_flags flags) c

-- what the body of a `for` has, after its start
abbrev pub after_start : Optional → TakenTrees → TakenTrees
after_start Absent trees = trees
after_start (Present s) trees = rest_of trees

abbrev mutual
  -- a statement, with its truth values first
  pub act : Statement → TakenTrees → Acts
  act (Declare all) trees c = declare all (flags_of trees) c >> pure Next
  act (Run e) trees c = expression e c >> pure Next
  act (Block all) trees c = scoped (sequence all (parts_of trees) c)
  act (If e s o) trees c = condition (expression e c) >>= (λ v. choose v (scoped (act s (parts_of trees) c)) (optional_body o (rest_of (parts_of trees)) c))
  act (While e s) trees c = λ t. loops t.left (condition (expression e c)) (scoped (act s (parts_of trees) c)) t
  act (DoWhile s e) trees c = λ t. loops_after t.left (condition (expression e c)) (scoped (act s (parts_of trees) c)) t
  act (For i e n s) trees c =
      scoped (optional_act i (parts_of trees) c
      >> (λ t. loops t.left (optional_condition e c) (with_step (scoped (act s (after_start i (parts_of trees)) c)) (optional_value n c)) t))
  act (Break p) trees c = pure Broke
  act (Continue p) trees c = pure Continued
  act (Return p e) trees c = returned e c
  act Empty trees c = pure Next

  pub optional_act : Optional → TakenTrees → Acts
  optional_act Absent trees c = pure Next
  optional_act (Present s) trees c = act s trees c

  -- the body of an `else`
  pub optional_body : Optional → TakenTrees → Acts
  optional_body Absent trees c = pure Next
  optional_body (Present s) trees c = scoped (act s trees c)

  -- statements in a row
  pub sequence : Statements → TakenTrees → Acts
  sequence NoStatements trees c = pure Next
  sequence (Then s rest) trees c = act s trees c >>= (λ f. on_next f (sequence rest (rest_of trees) c))

-- a parameter begins at the call and gets its argument
abbrev pub begin_parameter : Object → Bool → Value → Does (Unit {0})
begin_parameter d taken v = do
  begin_object d taken
  b ← object_of d.name
  first_value b v

abbrev pub begin_parameters : List Object → List Bool → List Value → Does (Unit {0})
begin_parameters [] flags [] = pure tt
begin_parameters (d ∷ ds) flags (v ∷ vs) = begin_parameter d (first_flag flags) v >> begin_parameters ds (other_flags flags) vs
begin_parameters _ flags _ = undefined

-- a function with its truth values
pub record Flagged : Type 0 where
  pub function : Definition
  pub taken : FunctionTaken

-- what a function does where the tables alone are in scope
abbrev pub body_of : Flagged → Calls → List Value → Does (Option Value)
body_of f c args = do
  begin_parameters f.function.params f.taken.params args
  flow ← sequence f.function.body f.taken.body c
  result f.function.result flow

abbrev pub call_of : List Binding → Flagged → Calls → List Value → Does (Option Value)
call_of tables f c args = λ s. then_do (body_of f c args (record s { objects = tables })) (back_to s)

abbrev pub with_function : List Binding → Flagged → Calls → Calls
with_function tables f c name args = if bytes_eq name f.function.name then spend_for name >> call_of tables f c args else c name args

-- the calls, and those of these functions, each of which calls those before it
abbrev pub calls_with : List Binding → Calls → List Flagged → Calls
calls_with tables c [] = c
calls_with tables c (f ∷ rest) = calls_with tables (with_function tables f c) rest

-- the call of a function from outside
abbrev pub outermost : List Binding → Calls → List Flagged → List ℕ → List Value → Does (Option Value)
outermost tables c [] name args = undefined
outermost tables c (f ∷ rest) name args = if bytes_eq name f.function.name then call_of tables f c args else outermost tables (with_function tables f c) rest name args
