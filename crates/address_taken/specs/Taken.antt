-- For each object that a function declares, whether its address is taken by what its scope has (C11 6.2.1p4, p7): truth values in the
-- order of the declarators, in a tree that has a place for each statement.
use Rattle.std.specs.Prelude.{ℕ, Bool, false, ◌||◌, List, [], ◌∷◌, map}
use Rattle.c_tree.specs.Tree.{Object, Statement, Statements, Optional, Declare, Block, If, While, DoWhile, For, Absent, Present, NoStatements, Then, Definition}
use Rattle.address_taken.specs.Addressed.{takes_optional, takes_declared, takes_statement, takes_statements}
use Rattle.address_taken.specs.declared.taken.Taken.{Taken, fold-Taken}
use Rattle.address_taken.specs.declared.taken.Taken.TheOpen.{Taken-F}
use Rattle.address_taken.specs.declared.taken.FunctionTaken.{FunctionTaken as CodeTaken}

-- of a statement: nothing, one truth value for each declarator, or what its parts have; and of statements in a row
mutual
  pub data TakenTree : Type 0 where
    Nothing : TakenTree
    Objects : List Bool → TakenTree
    Parts : TakenTrees → TakenTree

  pub data TakenTrees : Type 0 where
    NoParts : TakenTrees
    Part : TakenTree → TakenTrees → TakenTrees

-- of a function: of its parameters, and of the statements of its body
pub record FunctionTaken : Type 0 where
  pub params : List Bool
  pub body : TakenTrees

-- the address of an object of the name is taken by what follows in its scope
abbrev pub Later : Type 0
Later = List ℕ → Bool

abbrev pub no_more : Later
no_more x = false

-- of declarators, each with those behind it and with what follows the declaration
abbrev pub taken_objects : List Object → Later → List Bool
taken_objects [] later = []
taken_objects (d ∷ rest) later = (takes_optional d.name d.init || (takes_declared d.name rest || later d.name)) ∷ taken_objects rest later

abbrev mutual
  -- of a statement; its declarations know what follows in their scope
  pub taken_statement : Statement → Later → TakenTree
  taken_statement (Declare all) later = Objects (taken_objects all later)
  taken_statement (Block all) later = Parts (taken_statements all)
  taken_statement (If c s o) later = Parts (Part (taken_statement s no_more) (taken_optional o no_more NoParts))
  taken_statement (While c s) later = Parts (Part (taken_statement s no_more) NoParts)
  taken_statement (DoWhile s c) later = Parts (Part (taken_statement s no_more) NoParts)
  taken_statement (For i c n s) later =
      Parts (taken_optional i (λ x. takes_optional x c || (takes_optional x n || takes_statement x s)) (Part (taken_statement s no_more) NoParts))
  taken_statement s later = Nothing

  -- of a statement, where there is one, before what further parts have
  pub taken_optional : Optional → Later → TakenTrees → TakenTrees
  taken_optional Absent later more = more
  taken_optional (Present s) later more = Part (taken_statement s later) more

  -- of statements in a row
  pub taken_statements : Statements → TakenTrees
  taken_statements NoStatements = NoParts
  taken_statements (Then s rest) = Part (taken_statement s (λ x. takes_statements x rest)) (taken_statements rest)

abbrev pub taken_function : Definition → FunctionTaken
taken_function f = record {
  params = map (λ d. takes_statements d.name f.body) f.params;
  body = taken_statements f.body;
}

-- what contracts see of the code's
abbrev pub and_parts : List TakenTree → TakenTrees → TakenTrees
and_parts [] more = more
and_parts (t ∷ rest) more = Part t (and_parts rest more)

abbrev pub taken_step : Taken-F TakenTree → TakenTree
taken_step Taken-F.Nothing = Nothing
taken_step (Taken-F.Objects all) = Objects all.items
taken_step (Taken-F.Parts all) = Parts (and_parts all.items NoParts)

abbrev pub seen : Taken → TakenTree
seen = fold-Taken TakenTree taken_step

abbrev pub seen_all : List Taken → TakenTrees
seen_all all = and_parts (map seen all) NoParts

abbrev pub seen_function : CodeTaken → FunctionTaken
seen_function t = record { params = t.params.items; body = seen_all t.body.items }
