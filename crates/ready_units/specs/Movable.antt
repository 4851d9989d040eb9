-- Which units are moved: those whose objects and values are integers and registers of 128 bits, and whose rows have sequences.
use Rattle.std.specs.Prelude.{◌≡◌, ℕ, Bool, true, false, if◌then◌else◌, List, [], ◌∷◌, Option, Some, None}
use Rattle.c_text.specs.declared.tokens.Place.{Place}
use Rattle.c_text.specs.declared.refusals.Refusal.{Refusal}
use Rattle.lane_core.specs.Table.{params_of}
use Rattle.c_tree.specs.declared.types.CType.{CType}
use Rattle.c_tree.specs.Marks.{short, mark_of}
use Rattle.c_tree.specs.Tree.{Tree, Kind, Trees, Node, Const, Name, Unary, Step, Binary, AndThen, OrElse, Choice, Assign, Comma, Cast, Call, SizeOfType, SizeOfName, NoTrees, More}
use Rattle.c_tree.specs.Tree.{Object, Statement, Statements, Optional, Declare, Run, Block, If, While, DoWhile, For, Return, Absent, Present, NoStatements, Then}
use Rattle.c_tree.specs.Tree.{Definition, External, Function, Table}
use Rattle.scopes.specs.Scopes.{or_else}
use Rattle.intel_table.specs.declared.IntelOp.{IntelOp}
use Rattle.intel_table.specs.Rows.{find_of, signature_of}
use Rattle.seq_core.specs.Terms.{Sequence}
use Rattle.seq_core.specs.Functions.{start}
use Rattle.written_forms.specs.Moved.{Plans, immediate_among}

-- the types of objects that are moved
abbrev pub is_moved_type : CType → Bool
is_moved_type (CType.Int s) = true
is_moved_type CType.M128 = true
is_moved_type t = false

-- what an expression or a function gives: a value of such a type, or none
abbrev pub is_moved_result : CType → Bool
is_moved_result CType.Void = true
is_moved_result t = is_moved_type t

-- the refusal of what isn't moved
abbrev pub unmoved : Place → List ℕ → Refusal
unmoved p d = record { number = 18; place = p; detail = d }

abbrev pub unless : Bool → Refusal → Option Refusal
unless true r = None
unless false r = Some r

-- ---- expressions

-- the row has a sequence
abbrev pub unplanned : Option Sequence → Refusal → Option Refusal
unplanned (Some q) r = None
unplanned None r = Some r

-- the called name is a function's, or a row's that gives a value of a moved type and has a sequence for its immediate
abbrev pub unmoved_name : Plans → Place → CType → List ℕ → Option IntelOp → Trees → Option Refusal
unmoved_name plans p t f None all = None
unmoved_name plans p t f (Some op) all =
    if is_moved_type t then unplanned (plans f (immediate_among (params_of (signature_of op)) all)) (unmoved p (short f)) else Some (unmoved p (short f))

abbrev mutual
  -- the first node that isn't moved: its value isn't of a moved type, it goes through memory, or it calls a row without a sequence; a node
  -- comes before its parts
  pub unmoved_in : Plans → Tree → Option Refusal
  unmoved_in plans (Node p t k) = if is_moved_result t then unmoved_part plans p t k else Some (unmoved p (mark_of k))

  pub unmoved_part : Plans → Place → CType → Kind → Option Refusal
  unmoved_part plans p t (Const n) = None
  unmoved_part plans p t (Name x) = None
  unmoved_part plans p t (Unary o a) = unmoved_in plans a
  unmoved_part plans p t (Step a up before) = unmoved_in plans a
  unmoved_part plans p t (Binary o a b) = or_else (unmoved_in plans a) (unmoved_in plans b)
  unmoved_part plans p t (AndThen a b) = or_else (unmoved_in plans a) (unmoved_in plans b)
  unmoved_part plans p t (OrElse a b) = or_else (unmoved_in plans a) (unmoved_in plans b)
  unmoved_part plans p t (Choice c a b) = or_else (unmoved_in plans c) (or_else (unmoved_in plans a) (unmoved_in plans b))
  unmoved_part plans p t (Assign o a b) = or_else (unmoved_in plans a) (unmoved_in plans b)
  unmoved_part plans p t (Comma all) = unmoved_among plans all
  unmoved_part plans p t (Cast u a written) = unmoved_in plans a
  unmoved_part plans p t (Call f all) = or_else (unmoved_name plans p t f (find_of f) all) (unmoved_among plans all)
  unmoved_part plans p t (SizeOfType u) = None
  unmoved_part plans p t (SizeOfName x) = None
  unmoved_part plans p t k = Some (unmoved p (mark_of k))

  pub unmoved_among : Plans → Trees → Option Refusal
  unmoved_among plans NoTrees = None
  unmoved_among plans (More a rest) = or_else (unmoved_in plans a) (unmoved_among plans rest)

abbrev pub unmoved_option : Plans → Option Tree → Option Refusal
unmoved_option plans None = None
unmoved_option plans (Some e) = unmoved_in plans e

-- ---- objects and statements

-- an object, before its parts
abbrev pub unmoved_object : Plans → Object → Option Refusal
unmoved_object plans d =
    or_else (unless (is_moved_type d.ty) (unmoved d.place (short d.name)))
    (or_else (unmoved_option plans d.length) (or_else (unmoved_option plans d.align) (unmoved_option plans d.init)))

abbrev pub unmoved_objects : Plans → List Object → Option Refusal
unmoved_objects plans [] = None
unmoved_objects plans (d ∷ rest) = or_else (unmoved_object plans d) (unmoved_objects plans rest)

-- what a `for` begins with: a declaration or an expression (C11 6.8.5.3). The grammar gives no other statement there.
abbrev pub unmoved_start : Plans → Optional → Option Refusal
unmoved_start plans Absent = None
unmoved_start plans (Present (Declare all)) = unmoved_objects plans all
unmoved_start plans (Present (Run e)) = unmoved_in plans e
unmoved_start plans (Present s) = Some (unmoved start [])

abbrev mutual
  pub unmoved_statement : Plans → Statement → Option Refusal
  unmoved_statement plans (Declare all) = unmoved_objects plans all
  unmoved_statement plans (Run e) = unmoved_in plans e
  unmoved_statement plans (Block all) = unmoved_statements plans all
  unmoved_statement plans (If e s o) = or_else (unmoved_in plans e) (or_else (unmoved_statement plans s) (unmoved_optional plans o))
  unmoved_statement plans (While e s) = or_else (unmoved_in plans e) (unmoved_statement plans s)
  unmoved_statement plans (DoWhile s e) = or_else (unmoved_statement plans s) (unmoved_in plans e)
  unmoved_statement plans (For i e n s) =
      or_else (unmoved_start plans i) (or_else (unmoved_option plans e) (or_else (unmoved_option plans n) (unmoved_statement plans s)))
  unmoved_statement plans (Return p e) = unmoved_option plans e
  unmoved_statement plans s = None

  pub unmoved_optional : Plans → Optional → Option Refusal
  unmoved_optional plans Absent = None
  unmoved_optional plans (Present s) = unmoved_statement plans s

  pub unmoved_statements : Plans → Statements → Option Refusal
  unmoved_statements plans NoStatements = None
  unmoved_statements plans (Then s rest) = or_else (unmoved_statement plans s) (unmoved_statements plans rest)

-- ---- units

abbrev pub unmoved_parameters : List Object → Option Refusal
unmoved_parameters [] = None
unmoved_parameters (d ∷ rest) = or_else (unless (is_moved_type d.ty) (unmoved d.place (short d.name))) (unmoved_parameters rest)

-- a function, before its parameters and its body
abbrev pub unmoved_function : Plans → Definition → Option Refusal
unmoved_function plans f =
    or_else (unless (is_moved_result f.result) (unmoved f.place (short f.name))) (or_else (unmoved_parameters f.params) (unmoved_statements plans f.body))

abbrev pub unmoved_item : Plans → External → Option Refusal
unmoved_item plans (Function f) = unmoved_function plans f
unmoved_item plans (Table d is_static) = Some (unmoved d.place (short d.name))

-- the first part of a unit that isn't moved, in the order of the text but that each row stands before its operands
abbrev pub first_unmoved : Plans → List External → Option Refusal
first_unmoved plans [] = None
first_unmoved plans (x ∷ rest) = or_else (unmoved_item plans x) (first_unmoved plans rest)

abbrev pub IsMovable : Plans → List External → Type 0
IsMovable plans unit = first_unmoved plans unit ≡ None
