-- The functions of rows that are written, and whole units.
use Rattle.std.specs.Prelude.{ℕ, Bool, false, ◌||◌, List, [], ◌∷◌, ◌++◌, Option, Some, None, if◌then◌else◌}
use Rattle.std.specs.Str.{bytes_eq}
use Rattle.lane_core.specs.Table.{params_of}
use Rattle.c_tree.specs.Tree.{Tree, Kind, Trees, Node, Unary, Step, Binary, AndThen, OrElse, Choice, Assign, Comma, Cast, Call, NoTrees, More}
use Rattle.c_tree.specs.Tree.{Object, Statement, Statements, Optional, Declare, Run, Block, If, While, DoWhile, For, Return, Absent, Present, NoStatements, Then}
use Rattle.c_tree.specs.Tree.{Definition, External, Function, Table}
use Rattle.intel_table.specs.declared.IntelOp.{IntelOp}
use Rattle.intel_table.specs.Rows.{find_of, signature_of, range_of}
use Rattle.seq_core.specs.Terms.{Sequence}
use Rattle.seq_core.specs.InPlace.{stands_in_place}
use Rattle.seq_core.specs.Functions.{start, function_of}
use Rattle.written_forms.specs.Seen.{Sees, sees_nothing, beginning, declared}
use Rattle.written_forms.specs.Moved.{Plans, operands, immediate_among, simple, helper_name}
use Rattle.written_forms.specs.Statements.{sees_behind, sees_optional, sees_parameters, moved_function, moved_object}

-- a row with its immediate, whose call is written as one of a function of this name that is made of this sequence
pub record Use : Type 0 where
  pub row : List ℕ
  pub imm : ℕ
  pub name : List ℕ
  pub plan : Sequence

abbrev pub use_of : List ℕ → ℕ → List ℕ → Sequence → Use
use_of row imm name plan = record { row = row; imm = imm; name = name; plan = plan }

-- ---- which functions are called, in the order in which the calls stand

abbrev pub row_uses : List ℕ → ℕ → List ℕ → Option Sequence → List Bool → List Use
row_uses f imm name None flags = []
row_uses f imm name (Some q) flags = if stands_in_place flags q then [] else use_of f imm name q ∷ []

abbrev pub called_uses : Plans → Sees → List ℕ → Option IntelOp → Trees → List Use
called_uses plans sees f None all = []
called_uses plans sees f (Some op) all =
    let ks = params_of (signature_of op) in
    let imm = immediate_among ks all in
    row_uses f imm (helper_name f (range_of op) imm) (plans f imm) (simple sees (operands ks all))

abbrev mutual
  pub uses : Plans → Sees → Tree → List Use
  uses plans sees (Node p t k) = kind_uses plans sees k

  pub kind_uses : Plans → Sees → Kind → List Use
  kind_uses plans sees (Unary o a) = uses plans sees a
  kind_uses plans sees (Step a up before) = uses plans sees a
  kind_uses plans sees (Binary o a b) = uses plans sees a ++ uses plans sees b
  kind_uses plans sees (AndThen a b) = uses plans sees a ++ uses plans sees b
  kind_uses plans sees (OrElse a b) = uses plans sees a ++ uses plans sees b
  kind_uses plans sees (Choice c a b) = uses plans sees c ++ (uses plans sees a ++ uses plans sees b)
  kind_uses plans sees (Assign o a b) = uses plans sees a ++ uses plans sees b
  kind_uses plans sees (Comma all) = all_uses plans sees all
  kind_uses plans sees (Cast u a written) = uses plans sees a
  kind_uses plans sees (Call f all) = called_uses plans sees f (find_of f) all ++ all_uses plans sees all
  kind_uses plans sees k = []

  pub all_uses : Plans → Sees → Trees → List Use
  all_uses plans sees NoTrees = []
  all_uses plans sees (More a rest) = uses plans sees a ++ all_uses plans sees rest

abbrev pub maybe_uses : Plans → Sees → Option Tree → List Use
maybe_uses plans sees None = []
maybe_uses plans sees (Some e) = uses plans sees e

abbrev pub object_uses : Plans → Sees → List Object → List Use
object_uses plans sees [] = []
object_uses plans sees (d ∷ rest) = maybe_uses plans (beginning d sees) d.init ++ object_uses plans (declared d sees) rest

abbrev mutual
  pub statement_uses : Plans → Sees → Statement → List Use
  statement_uses plans sees (Declare all) = object_uses plans sees all
  statement_uses plans sees (Run e) = uses plans sees e
  statement_uses plans sees (Block all) = statements_uses plans sees all
  statement_uses plans sees (If e s o) = uses plans sees e ++ (statement_uses plans sees s ++ optional_uses plans sees o)
  statement_uses plans sees (While e s) = uses plans sees e ++ statement_uses plans sees s
  statement_uses plans sees (DoWhile s e) = statement_uses plans sees s ++ uses plans sees e
  statement_uses plans sees (For i e n s) =
      optional_uses plans sees i ++ (maybe_uses plans (sees_optional i sees) e ++ (maybe_uses plans (sees_optional i sees) n ++ statement_uses plans (sees_optional i sees) s))
  statement_uses plans sees (Return p e) = maybe_uses plans sees e
  statement_uses plans sees s = []

  pub optional_uses : Plans → Sees → Optional → List Use
  optional_uses plans sees Absent = []
  optional_uses plans sees (Present s) = statement_uses plans sees s

  pub statements_uses : Plans → Sees → Statements → List Use
  statements_uses plans sees NoStatements = []
  statements_uses plans sees (Then s rest) = statement_uses plans sees s ++ statements_uses plans (sees_behind s sees) rest

abbrev pub unit_uses : Plans → List External → List Use
unit_uses plans [] = []
unit_uses plans (Function f ∷ rest) = statements_uses plans (sees_parameters f.params sees_nothing) f.body ++ unit_uses plans rest
unit_uses plans (Table d is_static ∷ rest) = unit_uses plans rest

-- ---- each once

abbrev pub has_name : List ℕ → List Use → Bool
has_name x [] = false
has_name x (u ∷ us) = bytes_eq x u.name || has_name x us

abbrev pub with_uses : List Use → List Use → List Use
with_uses first [] = first
with_uses first (u ∷ us) = with_uses (if has_name u.name first then first else first ++ u ∷ []) us

abbrev pub helpers : Plans → List External → List Use
helpers plans unit = with_uses [] (unit_uses plans unit)

-- ---- units

abbrev pub helper_function : Use → Definition
helper_function u = function_of start u.name u.plan

abbrev pub moved_items : Plans → List External → List External
moved_items plans [] = []
moved_items plans (Function f ∷ rest) = Function (moved_function plans sees_nothing f) ∷ moved_items plans rest
moved_items plans (Table d is_static ∷ rest) = Table (moved_object plans sees_nothing d) is_static ∷ moved_items plans rest

abbrev pub with_helpers : List Use → List External → List External
with_helpers [] items = items
with_helpers (u ∷ us) items = Function (helper_function u) ∷ with_helpers us items

abbrev pub moved_unit : Plans → List External → List External
moved_unit plans unit = with_helpers (helpers plans unit) (moved_items plans unit)
