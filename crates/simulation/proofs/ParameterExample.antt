-- A function with a vector and a number among its parameters in memory, and what is written for it: how the laws of such parameters apply.
--     int f(__m128i x, int k, int n) { &x; &n; return k; }
--     int f(uint8x16_t mg_in_x, int k, int mg_in_n) { _Alignas(16) uint8_t x[16]; vst1q_u8(x, mg_in_x); int n = mg_in_n; &x; &n; return k; }
use Rattle.std.proofs.Common.{◌≡◌, ℕ, ◌+◌, ◌≤◌, List, [], ◌∷◌, true, false, None, Some, refl, sym, subst, arith}
use Rattle.std.specs.Prelude.{codes, pos}
use Rattle.c_text.specs.declared.tokens.Place.{Place}
use Rattle.lane_core.specs.declared.number.IntType.TheVariants as int
use Rattle.lane_core.specs.declared.vector.NeonLane.TheVariants.{U8}
use Rattle.lane_core.specs.declared.vector.Pointee.TheVariants as target
use Rattle.scalar_core.specs.Numbers.{num_of}
use Rattle.scalar_core.specs.TwosComplement.{wrapped, value_of_bits, bits_of}
use Rattle.c_tree.specs.declared.types.CType.{CType}
use Rattle.c_tree.specs.Tree.{Tree, Node, Const, Name, Address, Call, NoTrees, More, Object, Statements, Declare, Run, Return, NoStatements, Then, Definition, Function}
use Rattle.address_taken.specs.Addressed.{takes_statements}
use Rattle.c_memory.specs.declared.memory.Pointer.TheVariants.{At}
use Rattle.c_memory.specs.declared.value.Value.{Value}
use Rattle.c_memory.specs.Matching.{written_type}
use Rattle.c_memory.specs.Written.{NoItems, AndFunction, DoesTheSame}
use Rattle.c_memory.specs.Meaning.{Calls, its_value, expression, sequence, with_function}
use Rattle.simulation.specs.Alike.{Flows, Given, Covers, Objects, Sim}
use Rattle.simulation.specs.Carried.{Fixed, InMemory, Carried, Shared, Added, Marks, Scope, Within}
use Rattle.simulation.specs.Steps.{weaker}
use Rattle.simulation.specs.ObjectLaws.{first_block}
use Rattle.simulation.specs.ExpressionLaws.{name_sim, block_target_sim, valued_sim, address_sim}
use Rattle.simulation.specs.StatementLaws.{run_sim, return_sim, no_statements_sim, then_statement_sim}
use Rattle.simulation.specs.MemoryLaw.{MemoryLaw, TurnsLaw}
use Rattle.simulation.specs.Runs.{NoFunctions, AndBoth, numbered}
use Rattle.simulation.specs.WrittenValues.{IsNear, WrittenValues}
use Rattle.simulation.specs.WrittenMemory.{written_first_bytes}
use Rattle.simulation.specs.WrittenRuns.{written_runs_match}
use Rattle.simulation.specs.OrderLaws.{AreSteady}
use Rattle.simulation.specs.HeadLaws.{Headed, NoHeads, ApartHead, SetHead, StoreHead, headed_call}
use Rattle.simulation.specs.WrittenHeads.{WritesRegister, vector_fills}

abbrev p : Place
p = record { line = 1; col = 1 }

abbrev number : CType
number = CType.Int int.Int

abbrev register : CType
register = CType.Neon U8 true

abbrev bytes : CType
bytes = CType.Array (target.Int int.UChar) 16 false

abbrev pointer : CType
pointer = CType.Pointer (target.Int int.Int) false

abbrev object : List ℕ → CType → Object
object x t = record { place = p; name = x; ty = t; length = None; constant = false; align = None; align_first = false; init = None; list = None }

abbrev x_name : List ℕ
x_name = codes "x"

abbrev k_name : List ℕ
k_name = codes "k"

abbrev n_name : List ℕ
n_name = codes "n"

abbrev other_x : List ℕ
other_x = codes "mg_in_x"

abbrev other_n : List ℕ
other_n = codes "mg_in_n"

abbrev store : List ℕ
store = codes "vst1q_u8"

abbrev at_x : Tree
at_x = Node p pointer (Address (Node p CType.M128 (Name x_name)))

abbrev at_n : Tree
at_n = Node p pointer (Address (Node p number (Name n_name)))

abbrev k_value : Tree
k_value = Node p number (Name k_name)

abbrev body : Statements
body = Then (Run at_x) (Then (Run at_n) (Then (Return p (Some k_value)) NoStatements))

abbrev x_array : Object
x_array = record (object x_name bytes) { align = Some (Node p number (Const (num_of int.Int (pos 16)))); align_first = true }

abbrev n_object : Object
n_object = record (object n_name number) { init = Some (Node p number (Name other_n)) }

abbrev filling : Tree
filling = Node p CType.Void (Call store (More (Node p bytes (Name x_name)) (More (Node p register (Name other_x)) NoTrees)))

abbrev whole : Statements
whole = Then (Declare (x_array ∷ [])) (Then (Run filling) (Then (Declare (n_object ∷ [])) body))

abbrev parameters : List Object
parameters = object x_name CType.M128 ∷ object k_name number ∷ object n_name number ∷ []

abbrev others : List Object
others = object other_x register ∷ object k_name number ∷ object other_n number ∷ []

abbrev locals : List Object
locals = x_array ∷ object k_name number ∷ n_object ∷ []

abbrev f : Definition
f = record { place = p; name = codes "f"; result = number; params = parameters; is_static = false; is_inline = false; body = body }

abbrev g : Definition
g = record { place = p; name = codes "f"; result = number; params = others; is_static = false; is_inline = false; body = whole }

near_zero : (k : ℕ) → IsNear (At k 0)
near_zero k = omega arith

sixteen : (first_block x_array).align ≡ 16
unfolding num_of wrapped value_of_bits bits_of
sixteen = refl

covers_x : Covers false (first_block (object x_name CType.M128)) (first_block x_array)
covers_x = record { bytes = refl; alive = refl; align = subst (λ k. 16 ≤ k) (sym sixteen) (omega arith); writable = λ u. u; are_bytes = tt; size = omega arith; kept = λ u. absurd (cc) }

covers_n : Covers false (first_block (object n_name number)) (first_block n_object)
covers_n = record { bytes = refl; alive = refl; align = omega arith; writable = λ u. u; are_bytes = tt; size = omega arith; kept = λ u. absurd (cc) }

module _ (n : ℕ) (c d : Calls) (stores : WritesRegister d store 1 16 Value.R16) where
  heads : Headed n WrittenValues body d parameters others locals whole body
  heads =
      StoreHead (object x_name CType.M128) (object other_x register) x_array (object k_name number ∷ object n_name number ∷ []) (object k_name number ∷ object other_n number ∷ [])
      (object k_name number ∷ n_object ∷ []) (Then (Declare (n_object ∷ [])) body) body p p p CType.Void bytes register store 1
      (record { same = refl; takes = refl; inside = refl; covers = covers_x; other = refl; plain = refl })
      (record { init = refl; list = refl; constant = refl; array = refl; aligned = subst (λ k. 1 ≤ k) (sym sixteen) (omega arith); divides = refl; fills = vector_fills d store 1 x_array refl stores })
      (ApartHead (object k_name number) (object k_name number) (object n_name number ∷ []) (object other_n number ∷ []) (n_object ∷ []) (Then (Declare (n_object ∷ [])) body) body refl
      (SetHead (object n_name number) (object other_n number) n_object [] [] [] body body p number
      (record { same = refl; takes = refl; inside = refl; covers = covers_n; other = refl; plain = refl })
      (record { init = refl; bytes = written_first_bytes n int.Int }) (NoHeads body)))

  abbrev scope : List Carried
  scope = Shared InMemory n_name number number ∷ Shared InMemory x_name CType.M128 bytes ∷ Added other_n number ∷ Shared Fixed k_name number number ∷ Added other_x register ∷ []

  module _ (all : Marks) where
    abbrev here : Objects
    here = Scope WrittenValues scope all

    at_x_sim : Sim n (Given WrittenValues pointer) here here (expression at_x c) (expression at_x d)
    at_x_sim = address_sim n WrittenValues c d here here p p pointer pointer pointer (Node p CType.M128 (Name x_name)) (Node p CType.M128 (Name x_name))
        (block_target_sim n WrittenValues scope all p p CType.M128 CType.M128 pointer c d x_name CType.M128 bytes refl (λ k. (near_zero k, refl)))

    at_n_sim : Sim n (Given WrittenValues pointer) here here (expression at_n c) (expression at_n d)
    at_n_sim = address_sim n WrittenValues c d here here p p pointer pointer pointer (Node p number (Name n_name)) (Node p number (Name n_name))
        (block_target_sim n WrittenValues scope all p p number number pointer c d n_name number number refl (λ k. (near_zero k, refl)))

    k_sim : Sim n (WrittenValues number) here here (its_value (expression k_value c)) (its_value (expression k_value d))
    k_sim = valued_sim n WrittenValues c d here here k_value k_value (name_sim n WrittenValues scope all p p number number c d Fixed k_name number number refl refl refl tt)

    abbrev behind : Statements
    behind = Then (Return p (Some k_value)) NoStatements

    body_sim : Sim n (Flows WrittenValues number) here (Within WrittenValues scope all) (sequence body c) (sequence body d)
    body_sim =
        then_statement_sim n WrittenValues number c d scope all (Run at_x) (Run at_x) (Then (Run at_n) behind) (Then (Run at_n) behind)
        (run_sim n WrittenValues number c d here here at_x at_x (λ y. takes_statements y (Then (Run at_n) behind)) (λ y. takes_statements y (Then (Run at_n) behind)) at_x_sim)
        (then_statement_sim n WrittenValues number c d scope all (Run at_n) (Run at_n) behind behind
        (run_sim n WrittenValues number c d here here at_n at_n (λ y. takes_statements y behind) (λ y. takes_statements y behind) at_n_sim)
        (then_statement_sim n WrittenValues number c d scope all (Return p (Some k_value)) (Return p (Some k_value)) NoStatements NoStatements
        (return_sim n WrittenValues number c d here here p p k_value k_value (λ y. takes_statements y NoStatements) (λ y. takes_statements y NoStatements) k_sim)
        (no_statements_sim n WrittenValues number c d scope all)))

-- the written function does what the source's does
does_the_same : MemoryLaw → TurnsLaw → (rows other_rows : Calls) → AreSteady rows → WritesRegister other_rows store 1 16 Value.R16 → DoesTheSame rows other_rows written_type (Function f ∷ []) (Function g ∷ [])
does_the_same law turns rows other_rows steady stores =
    written_runs_match law turns rows other_rows (Function f ∷ []) (Function g ∷ [])
    (AndFunction f g [] [] (record { name = refl; is_static = refl; is_inline = refl; result = refl; types = refl }) NoItems) tt (λ m.
    let n = m + 0 in
    let anything : Objects = λ bs cs. Unit {0} in
    AndBoth rows other_rows f g [] [] refl
    (headed_call n WrittenValues [] [] f g rows other_rows [] (numbered m) anything locals body (heads n rows other_rows stores) tt steady
    (refl, (refl, (refl, tt))) ((refl, (λ e. absurd (cc)), ((refl, (λ e. refl), ((refl, (λ e. absurd (cc)), tt)))))) (refl, (refl, (refl, tt)))
    (((λ e. refl), ((λ e. refl), tt)), (((λ e. refl), tt), (tt, tt))) (λ e. e)
    (λ vs ws all a kept. weaker n (Scope WrittenValues (scope n rows other_rows stores) all) (Within WrittenValues (scope n rows other_rows stores) all) anything (sequence body rows)
    (sequence body other_rows) (λ bs cs h. tt) (body_sim n rows other_rows stores all)))
    (NoFunctions (with_function [] f rows) (with_function [] g other_rows)))
