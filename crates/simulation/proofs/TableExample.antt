-- A function that reads a table, over itself: `static const int t[2] = {1, 2}; int g(int i) { return t[i]; }`
use Rattle.std.proofs.Common.{ℕ, ◌+◌, List, [], ◌∷◌, true, false, Some, None, refl, arith}
use Rattle.std.specs.Prelude.{codes, pos}
use Rattle.c_text.specs.declared.tokens.Place.{Place}
use Rattle.lane_core.specs.declared.number.IntType.TheVariants as int
use Rattle.lane_core.specs.declared.number.BinOp.TheVariants as op
use Rattle.lane_core.specs.declared.vector.Pointee.TheVariants as target
use Rattle.scalar_core.specs.Numbers.{num_of}
use Rattle.c_tree.specs.declared.types.CType.{CType}
use Rattle.c_tree.specs.Tree.{Tree, Node, Const, Name, Cast, Index, More, NoTrees, Object, Statements, Return, NoStatements, Then, Definition, External}
use Rattle.c_tree.specs.Tree.{Function, Table}
use Rattle.c_memory.specs.declared.memory.Pointer.TheVariants.{At}
use Rattle.address_taken.specs.Addressed.{takes_statements}
use Rattle.c_memory.specs.Matching.{written_type}
use Rattle.c_memory.specs.Written.{NoItems, AndFunction, AndTable, DoesTheSame}
use Rattle.c_memory.specs.Meaning.{Calls, expression, its_value, sequence, with_function, table_objects}
use Rattle.simulation.specs.Alike.{Given, Flows, Objects, Sim}
use Rattle.simulation.specs.Carried.{Fixed, InMemory, Carried, Shared, Marks, Unmarked, Scope, Within, inner}
use Rattle.simulation.specs.ExpressionLaws.{name_sim, array_sim, valued_sim, cast_sim, index_sim}
use Rattle.simulation.specs.StatementLaws.{return_sim, no_statements_sim, then_statement_sim}
use Rattle.simulation.specs.FunctionLaws.{parameters_sim, call_of_alike, body_of_sim}
use Rattle.simulation.specs.MemoryLaw.{MemoryLaw, TurnsLaw}
use Rattle.simulation.specs.Runs.{NoFunctions, AndBoth, numbered}
use Rattle.simulation.specs.TableLaws.{AreShort, tables_good}
use Rattle.simulation.specs.UnitLaws.{tables_alike}
use Rattle.simulation.specs.WrittenValues.{IsNear, WrittenValues}
use Rattle.simulation.specs.WrittenLaws.{written_moves, written_points, written_pointer_converts}
use Rattle.simulation.specs.WrittenMemory.{written_loads}
use Rattle.simulation.specs.WrittenRuns.{written_runs_match}

abbrev p : Place
p = record { line = 1; col = 1 }

abbrev t : List ℕ
t = codes "t"

abbrev i : List ℕ
i = codes "i"

abbrev number : CType
number = CType.Int int.Int

abbrev numbers : CType
numbers = CType.Array (target.Int int.Int) 2 true

abbrev pointer : CType
pointer = CType.Pointer (target.Int int.Int) true

abbrev constant : ℕ → Tree
constant n = Node p number (Const (num_of int.Int (pos n)))

abbrev table_name : Tree
table_name = Node p numbers (Name t)

abbrev base : Tree
base = Node p pointer (Cast pointer table_name false)

abbrev index : Tree
index = Node p number (Name i)

abbrev element : Tree
element = Node p number (Index base index)

abbrev body : Statements
body = Then (Return p (Some element)) NoStatements

abbrev parameter : Object
parameter = record { place = p; name = i; ty = number; length = None; constant = false; align = None; align_first = false; init = None; list = None }

abbrev table : Object
table = record {
  place = p;
  name = t;
  ty = numbers;
  length = None;
  constant = false;
  align = None;
  align_first = false;
  init = None;
  list = Some (More (constant 1) (More (constant 2) NoTrees));
}

abbrev g : Definition
g = record { place = p; name = codes "g"; result = number; params = parameter ∷ []; is_static = false; is_inline = false; body = body }

abbrev unit : List External
unit = Table table true ∷ Function g ∷ []

abbrev tables : List Carried
tables = Shared InMemory t numbers numbers ∷ []

abbrev scope : List Carried
scope = Shared Fixed i number number ∷ tables

near_zero : (k : ℕ) → IsNear (At k 0)
near_zero k = omega arith

module _ (law : MemoryLaw) (n : ℕ) (c d : Calls) (marks : Marks) where
  abbrev here : Objects
  here = Scope WrittenValues scope marks

  base_sim : Sim n (Given WrittenValues pointer) here here (expression base c) (expression base d)
  base_sim = cast_sim n WrittenValues c d here here p p pointer pointer pointer pointer pointer table_name table_name false false (λ e. cc) (λ e. cc)
      (array_sim n WrittenValues scope marks p p numbers numbers pointer c d t numbers numbers refl refl refl (λ k. (near_zero k, refl)))
      (written_pointer_converts n (target.Int int.Int) (target.Int int.Int) (target.Int int.Int) true true true)

  index_value_sim : Sim n (WrittenValues number) here here (its_value (expression index c)) (its_value (expression index d))
  index_value_sim =
      valued_sim n WrittenValues c d here here index index (name_sim n WrittenValues scope marks p p number number c d Fixed i number number refl refl refl
      tt)

  element_sim : Sim n (Given WrittenValues number) here here (expression element c) (expression element d)
  element_sim =
      index_sim n WrittenValues c d here here here p p pointer number number base index base index
      (valued_sim n WrittenValues c d here here base base base_sim) index_value_sim
      (written_moves n op.Add (target.Int int.Int) (target.Int int.Int) true true true int.Int int.Int refl) (written_points n (target.Int int.Int) true)
      (written_loads n law int.Int)

  body_statements_sim : Sim n (Flows WrittenValues number) here (Within WrittenValues scope marks) (sequence body c) (sequence body d)
  body_statements_sim = then_statement_sim n WrittenValues number c d scope marks (Return p (Some element)) (Return p (Some element)) NoStatements NoStatements
      (return_sim n WrittenValues number c d here here p p element element (λ y. takes_statements y NoStatements) (λ y. takes_statements y NoStatements)
      (valued_sim n WrittenValues c d here here element element element_sim)) (no_statements_sim n WrittenValues number c d scope marks)

-- its table has 8 bytes
short : AreShort unit
short = (omega arith, tt)

-- it does what it does
itself : MemoryLaw → TurnsLaw → (rows others : Calls) → DoesTheSame rows others written_type unit unit
itself law turns rows others =
    let match = AndTable table table true (Function g ∷ []) (Function g ∷ []) (record { name = refl; ty = refl; block = refl })
    (AndFunction g g [] [] (record { name = refl; is_static = refl; is_inline = refl; result = refl; types = refl }) NoItems) in
    written_runs_match law turns rows others unit unit match (tables_good unit short) (λ m.
    let n = m + 1 in
    let marks = inner Unmarked (numbered m) in
    AndBoth rows others g g [] [] refl
    (call_of_alike n WrittenValues (table_objects m unit) (table_objects m unit) g g rows others (Scope WrittenValues tables (numbered m))
    (Within WrittenValues scope marks)
    (tables_alike WrittenValues written_type m unit unit match) (λ vs ws a.
    body_of_sim n WrittenValues (table_objects m unit) (table_objects m unit) g g rows others (Scope WrittenValues tables (numbered m))
    (Scope WrittenValues scope marks) (Within WrittenValues scope marks) vs ws
    (λ e. e) (parameters_sim n WrittenValues body body tables (numbered m) (parameter ∷ []) (parameter ∷ []) vs ws (refl, refl, refl, tt) a)
    (body_statements_sim law n rows others marks)))
    (NoFunctions (with_function (table_objects m unit) g rows) (with_function (table_objects m unit) g others)))
