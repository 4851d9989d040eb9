-- A function with a loop, over itself: how the laws are put together. `int f(int x) { while (x) x = x - 1; return x; }`
use Rattle.std.proofs.Common.{◌≡◌, ℕ, ◌+◌, List, [], ◌∷◌, false, Some, None, refl}
use Rattle.std.specs.Prelude.{codes, pos}
use Rattle.c_text.specs.declared.tokens.Place.{Place}
use Rattle.lane_core.specs.declared.number.IntType.TheVariants as int
use Rattle.lane_core.specs.declared.number.BinOp.TheVariants as op
use Rattle.scalar_core.specs.Numbers.{num_of}
use Rattle.c_tree.specs.declared.types.CType.{CType}
use Rattle.c_tree.specs.Tree.{Tree, Node, Const, Name, Binary, Assign, Object, Statements, Run, While, Return, NoStatements, Then, Definition, Function}
use Rattle.address_taken.specs.Addressed.{takes_statements}
use Rattle.c_memory.specs.Matching.{written_type}
use Rattle.c_memory.specs.Written.{NoItems, AndFunction, DoesTheSame}
use Rattle.c_memory.specs.Meaning.{Calls, expression, its_value, act, sequence, no_more, with_function}
use Rattle.simulation.specs.Alike.{Given, Flows, Objects, Sim}
use Rattle.simulation.specs.Carried.{Fixed, Carried, Shared, Marks, Unmarked, Scope, Within, inner}
use Rattle.simulation.specs.Steps.{weaker}
use Rattle.simulation.specs.ScopeLaws.{within_none}
use Rattle.simulation.specs.ExpressionLaws.{name_sim, named_target_sim, set_named_sim, valued_sim, tested_sim, constant_sim, binary_sim, assign_sim}
use Rattle.simulation.specs.ExpressionLaws.{assigned_sim}
use Rattle.simulation.specs.StatementLaws.{run_sim, return_sim, while_statement_sim, no_statements_sim, then_statement_sim}
use Rattle.simulation.specs.FunctionLaws.{parameters_sim, call_of_alike, body_of_sim}
use Rattle.simulation.specs.MemoryLaw.{MemoryLaw, TurnsLaw}
use Rattle.simulation.specs.Runs.{NoFunctions, AndBoth, numbered}
use Rattle.simulation.specs.WrittenValues.{WrittenValues}
use Rattle.simulation.specs.WrittenLaws.{written_constant, written_tests, written_operates}
use Rattle.simulation.specs.WrittenRuns.{written_runs_match}

abbrev p : Place
p = record { line = 1; col = 1 }

abbrev x : List ℕ
x = codes "x"

abbrev number : CType
number = CType.Int int.Int

abbrev x_value : Tree
x_value = Node p number (Name x)

abbrev one : Tree
one = Node p number (Const (num_of int.Int (pos 1)))

abbrev less : Tree
less = Node p number (Binary op.Sub x_value one)

abbrev down : Tree
down = Node p number (Assign None x_value less)

abbrev body : Statements
body = Then (While x_value (Run down)) (Then (Return p (Some x_value)) NoStatements)

abbrev parameter : Object
parameter = record { place = p; name = x; ty = number; length = None; constant = false; align = None; align_first = false; init = None; list = None }

abbrev f : Definition
f = record { place = p; name = codes "f"; result = number; params = parameter ∷ []; is_static = false; is_inline = false; body = body }

abbrev scope : List Carried
scope = Shared Fixed x number number ∷ []

one_type : (num_of int.Int (pos 1)).ty ≡ int.Int
unfolding num_of
one_type = refl

module _ (turns : TurnsLaw) (n : ℕ) (c d : Calls) (marks : Marks) where
  abbrev here : Objects
  here = Scope WrittenValues scope marks

  x_sim : Sim n (Given WrittenValues number) here here (expression x_value c) (expression x_value d)
  x_sim = name_sim n WrittenValues scope marks p p number number c d Fixed x number number refl refl refl tt

  value_sim : Sim n (WrittenValues number) here here (its_value (expression x_value c)) (its_value (expression x_value d))
  value_sim = valued_sim n WrittenValues c d here here x_value x_value x_sim

  less_sim : Sim n (Given WrittenValues number) here here (expression less c) (expression less d)
  less_sim = binary_sim n WrittenValues c d here here here p p number number op.Sub op.Sub x_value one x_value one value_sim
      (valued_sim n WrittenValues c d here here one one (constant_sim n WrittenValues c d here p p number number (num_of int.Int (pos 1))
      (num_of int.Int (pos 1)) (written_constant int.Int int.Int (num_of int.Int (pos 1)) one_type refl)))
      (written_operates n op.Sub int.Int int.Int int.Int int.Int int.Int)

  down_sim : Sim n (Given WrittenValues number) here here (expression down c) (expression down d)
  down_sim = assign_sim n WrittenValues c d here here here here p p number number number None None x_value less x_value less
      (named_target_sim n WrittenValues scope marks p p number number c d Fixed x number number refl tt)
      (valued_sim n WrittenValues c d here here less less less_sim)
      (λ y z u v named h. assigned_sim n WrittenValues c d here here number number number number number y z u v h
      (set_named_sim n WrittenValues scope marks Fixed x number number y z u v refl tt named h))

  down_statement_sim : (r : CType) → Sim n (Flows WrittenValues r) here (Within WrittenValues scope marks) (act (Run down) no_more c) (act (Run down) no_more d)
  down_statement_sim r =
      weaker n here here (Within WrittenValues scope marks) (act (Run down) no_more c) (act (Run down) no_more d) (within_none WrittenValues scope marks)
      (run_sim n WrittenValues r c d here here down down no_more no_more down_sim)

  body_statements_sim : Sim n (Flows WrittenValues number) here (Within WrittenValues scope marks) (sequence body c) (sequence body d)
  body_statements_sim =
      let rest = Then (Return p (Some x_value)) NoStatements in
      then_statement_sim n WrittenValues number c d scope marks (While x_value (Run down)) (While x_value (Run down)) rest rest
      (while_statement_sim n WrittenValues number c d scope marks turns x_value x_value (Run down) (Run down) (λ y. takes_statements y rest)
      (λ y. takes_statements y rest)
      (tested_sim n WrittenValues c d here here x_value x_value value_sim (written_tests n int.Int)) (down_statement_sim number))
      (then_statement_sim n WrittenValues number c d scope marks (Return p (Some x_value)) (Return p (Some x_value)) NoStatements NoStatements
      (return_sim n WrittenValues number c d here here p p x_value x_value (λ y. takes_statements y NoStatements)
      (λ y. takes_statements y NoStatements) value_sim) (no_statements_sim n WrittenValues number c d scope marks))

-- it does what it does, for any rows on both sides
itself : MemoryLaw → TurnsLaw → (rows others : Calls) → DoesTheSame rows others written_type (Function f ∷ []) (Function f ∷ [])
itself law turns rows others =
    written_runs_match law turns rows others (Function f ∷ []) (Function f ∷ [])
    (AndFunction f f [] [] (record { name = refl; is_static = refl; is_inline = refl; result = refl; types = refl }) NoItems) tt (λ m.
    let n = m + 0 in
    AndBoth rows others f f [] [] refl
    (call_of_alike n WrittenValues [] [] f f rows others (Scope WrittenValues [] (numbered m)) (Within WrittenValues scope (inner Unmarked (numbered m))) tt
    (λ vs ws a.
    body_of_sim n WrittenValues [] [] f f rows others (Scope WrittenValues [] (numbered m)) (Scope WrittenValues scope (inner Unmarked (numbered m)))
    (Within WrittenValues scope (inner Unmarked (numbered m))) vs ws (λ e. e)
    (parameters_sim n WrittenValues body body [] (numbered m) (parameter ∷ []) (parameter ∷ []) vs ws (refl, refl, refl, tt) a)
    (body_statements_sim turns n rows others (inner Unmarked (numbered m)))))
    (NoFunctions (with_function [] f rows) (with_function [] f others)))
