-- Small units and what they mean, by computing the definition.
use Rattle.std.proofs.Common.{◌≡◌, ℕ, zero, suc, List, [], ◌∷◌, ◌++◌, replicate, Option, Some, None, Bool, true, false, refl, codes, pos, negsuc, ℤ}
use Rattle.c_text.specs.declared.tokens.Place.{Place}
use Rattle.lane_core.specs.declared.number.IntType.TheVariants as int
use Rattle.lane_core.specs.declared.number.BinOp.{BinOp}
use Rattle.lane_core.specs.declared.number.BinOp.TheVariants as op
use Rattle.lane_core.specs.declared.vector.Pointee.{Pointee}
use Rattle.lane_core.specs.declared.vector.NeonLane.TheVariants.{U8}
use Rattle.lane_core.specs.declared.table.Access.{Access}
use Rattle.lane_core.specs.declared.table.Arg.{Arg}
use Rattle.lane_core.specs.declared.table.ImmRange.TheVariants.{NoImmediate}
use Rattle.lane_core.specs.declared.table.Sig.{Sig}
use Rattle.lane_core.specs.declared.table.ParamKind.TheVariants as kind
use Rattle.lane_core.specs.Table.{signature}
use Rattle.std.specs.Str.{bytes_eq}
use Rattle.scalar_core.specs.Ranks.{promoted, common_of}
use Rattle.scalar_core.specs.TwosComplement.{wrapped, bits_of, value_of_bits}
use Rattle.scalar_core.specs.Numbers.{num_of, converted}
use Rattle.scalar_core.specs.Operators as operators
use Rattle.c_tree.specs.declared.types.CType.{CType}
use Rattle.c_tree.specs.Tree.{Tree, Kind, Node, Const, Name, Step, Binary, Assign, Cast, Index, Deref, Address, Call, Half, NoTrees, More}
use Rattle.c_tree.specs.Tree.{Object, Statement, Statements, Declare, Run, Block, While, DoWhile, For, Break, Return, Empty, Present, NoStatements, Then}
use Rattle.c_tree.specs.Tree.{Definition, External, Function, Table}
use Rattle.c_memory.specs.declared.blocks.Block.{Block as MemoryBlock}
use Rattle.c_memory.specs.declared.memory.Pointer.{Pointer}
use Rattle.c_memory.specs.declared.value.Value.{Value}
use Rattle.c_memory.specs.Memory.{ended}
use Rattle.c_memory.specs.MeaningValues.{operate}
use Rattle.c_memory.specs.Outcomes.{Outcome, Done, Turns, Undefined}
use Rattle.c_memory.specs.MeaningState as state
use Rattle.c_memory.specs.MeaningState.{State, undefined}
use Rattle.c_memory.specs.MeaningRows.{RowTable, rows_of, call_of_row}
use Rattle.c_memory.specs.Meaning.{Calls, means}

abbrev nowhere : Place
nowhere = record { line = 0; col = 0 }

abbrev of_int : Kind → Tree
of_int k = Node nowhere (CType.Int int.Int) k

abbrev number : ℤ → Tree
number z = of_int (Const (num_of int.Int z))

abbrev named : List ℕ → Tree
named x = of_int (Name x)

abbrev object : List ℕ → CType → Option Tree → Object
object x t e = record { place = nowhere; name = x; ty = t; length = None; constant = false; align = None; align_first = false; init = e; list = None }

abbrev function : List Object → Statements → List External
function params body =
    Function (record { place = nowhere; name = codes "f"; result = CType.Int int.Int; params = params; is_static = false; is_inline = false; body = body }) ∷ []

abbrev rows : Calls
rows name values = undefined

abbrev run : List External → List Value → List MemoryBlock → ℕ → Outcome
run unit args memory turns = means rows unit (codes "f") args memory turns

abbrev an_int : ℤ → Value
an_int z = Value.Int (num_of int.Int z)

-- int f(int x) { return x + 1; }
abbrev successor : List External
successor = function (object (codes "x") (CType.Int int.Int) None ∷ []) (Then (Return nowhere (Some (of_int (Binary op.Add (named (codes "x")) (number (pos 1)))))) NoStatements)

one_more : run successor (an_int (pos 41) ∷ []) [] 0 ≡ Done (Some (an_int (pos 42))) []
unfolding num_of wrapped bits_of value_of_bits promoted common_of converted operators.arithmetic operators.operate operators.binary_of
one_more = refl

-- int f(int x) { int s; return s; } reads a variable that isn't set
unset : run (function (object (codes "x") (CType.Int int.Int) None ∷ [])
    (Then (Declare (object (codes "s") (CType.Int int.Int) None ∷ [])) (Then (Return nowhere (Some (named (codes "s")))) NoStatements)))
    (an_int (pos 1) ∷ []) [] 0 ≡ Undefined
unset = refl

-- int f(void) { int s = 0; for (int i = 0; i < 2; i++) s += 3; return s; }
abbrev threes : List External
threes = function [] (
    Then (Declare (object (codes "s") (CType.Int int.Int) (Some (number (pos 0))) ∷ [])) (
    Then (For (Present (Declare (object (codes "i") (CType.Int int.Int) (Some (number (pos 0))) ∷ [])))
    (Some (of_int (Binary op.Lt (named (codes "i")) (number (pos 2)))))
    (Some (of_int (Step (named (codes "i")) true false)))
    (Run (of_int (Assign (Some op.Add) (named (codes "s")) (number (pos 3)))))) (
    Then (Return nowhere (Some (named (codes "s")))) NoStatements)))

two_turns : run threes [] [] 2 ≡ Done (Some (an_int (pos 6))) []
unfolding num_of wrapped bits_of value_of_bits promoted common_of converted operators.arithmetic operators.operate operators.binary_of operators.truth
two_turns = refl

one_turn : run threes [] [] 1 ≡ Turns
unfolding num_of wrapped bits_of value_of_bits promoted common_of converted operators.arithmetic operators.operate operators.binary_of operators.truth
one_turn = refl

abbrev int_pointer : Kind → Tree
int_pointer k = Node nowhere (CType.Pointer (Pointee.Int int.Int) false) k

-- int f(int x) { int *p = &x; *p = 7; return x; } has a block for x, which has ended, after the one that was given
abbrev given_block : MemoryBlock
given_block = record { bytes = Some 1 ∷ []; align = 1; writable = false; alive = true }

addressed : run (function (object (codes "x") (CType.Int int.Int) None ∷ []) (
    Then (Declare (object (codes "p") (CType.Pointer (Pointee.Int int.Int) false) (Some (int_pointer (Address (named (codes "x"))))) ∷ [])) (
    Then (Run (of_int (Assign None (of_int (Deref (int_pointer (Name (codes "p"))))) (number (pos 7))))) (
    Then (Return nowhere (Some (named (codes "x")))) NoStatements))))
    (an_int (pos 1) ∷ []) (given_block ∷ []) 0
    ≡ Done (Some (an_int (pos 7))) (given_block ∷ record { bytes = []; align = 4; writable = true; alive = false } ∷ [])
unfolding num_of wrapped bits_of value_of_bits
addressed = refl

-- int f(const int *p) { return p[1]; } on a block of seven bytes, and of eight
abbrev second : List External
second = function (object (codes "p") (CType.Pointer (Pointee.Int int.Int) true) None ∷ [])
    (Then (Return nowhere (Some (of_int (Index (Node nowhere (CType.Pointer (Pointee.Int int.Int) true) (Name (codes "p"))) (number (pos 1)))))) NoStatements)

abbrev eight : List (Option ℕ)
eight = Some 1 ∷ Some 2 ∷ Some 3 ∷ Some 4 ∷ Some 5 ∷ Some 0 ∷ Some 0 ∷ Some 128 ∷ []

inside : run second (Value.At (Pointer.At 0 0) ∷ []) (record given_block { bytes = eight; align = 4 } ∷ []) 0
    ≡ Done (Some (an_int (negsuc 2147483642))) (record given_block { bytes = eight; align = 4 } ∷ [])
unfolding num_of wrapped bits_of value_of_bits
inside = refl

past : run second (Value.At (Pointer.At 0 4) ∷ []) (record given_block { bytes = eight; align = 4 } ∷ []) 0 ≡ Undefined
unfolding num_of wrapped bits_of value_of_bits
past = refl

not_aligned : run second (Value.At (Pointer.At 0 0) ∷ []) (record given_block { bytes = eight; align = 2 } ∷ []) 0 ≡ Undefined
unfolding num_of wrapped bits_of value_of_bits
not_aligned = refl

abbrev numbered : List Definition → List External
numbered [] = []
numbered (f ∷ fs) = Function f ∷ numbered fs

abbrev defined_as : List ℕ → CType → Statements → Definition
defined_as name t body = record { place = nowhere; name = name; result = t; params = []; is_static = false; is_inline = false; body = body }

abbrev calling : List ℕ → List External
calling name = numbered (
    defined_as name (CType.Int int.Int) (Then (Return nowhere (Some (number (pos 3)))) NoStatements)
    ∷ defined_as (codes "f") (CType.Int int.Int) (Then (Return nowhere (Some (of_int (Call name NoTrees)))) NoStatements) ∷ [])

-- a call of a function spends a turn, and that of one whose name begins with `mg_` none; the call of `f` itself spends none
call_spends : run (calling (codes "g")) [] [] 0 ≡ Turns
call_spends = refl

call_with_a_turn : run (calling (codes "g")) [] [] 1 ≡ Done (Some (an_int (pos 3))) []
call_with_a_turn = refl

helper_spends_none : run (calling (codes "mg_g")) [] [] 0 ≡ Done (Some (an_int (pos 3))) []
helper_spends_none = refl

-- int f(void) { }
no_return : run (function [] NoStatements) [] [] 0 ≡ Undefined
no_return = refl

-- int f(void) { do ; while (0); return 1; } enters its body once
abbrev once : List External
once = function [] (Then (DoWhile Empty (number (pos 0))) (Then (Return nowhere (Some (number (pos 1)))) NoStatements))

no_turn_for_do : run once [] [] 0 ≡ Turns
no_turn_for_do = refl

a_turn_for_do : run once [] [] 1 ≡ Done (Some (an_int (pos 1))) []
unfolding num_of wrapped bits_of value_of_bits
a_turn_for_do = refl

-- int f(void) { while (1) while (1) break; } : `break` leaves the inner loop alone, so that the outer one wants a turn more
break_leaves_one : run (function [] (Then (While (number (pos 1)) (While (number (pos 1)) (Break nowhere))) NoStatements)) [] [] 5 ≡ Turns
unfolding num_of wrapped bits_of value_of_bits
break_leaves_one = refl

-- int f(void) { int x = 1; { int x = 2; int *p = &x; } return x; } : the outer x is no block
shadowed : run (function [] (
    Then (Declare (object (codes "x") (CType.Int int.Int) (Some (number (pos 1))) ∷ [])) (
    Then (Block (
    Then (Declare (object (codes "x") (CType.Int int.Int) (Some (number (pos 2))) ∷ [])) (
    Then (Declare (object (codes "p") (CType.Pointer (Pointee.Int int.Int) false) (Some (int_pointer (Address (named (codes "x"))))) ∷ [])) NoStatements))) (
    Then (Return nowhere (Some (named (codes "x")))) NoStatements)))) [] [] 0
    ≡ Done (Some (an_int (pos 1))) (record { bytes = []; align = 4; writable = true; alive = false } ∷ [])
unfolding num_of wrapped bits_of value_of_bits
shadowed = refl

-- const unsigned char t[3] = {1, 2}; int f(void) { return t[1]; } with the block of t after the one that was given
abbrev bytes_table : Object
bytes_table = record {
  place = nowhere;
  name = codes "t";
  ty = CType.Array (Pointee.Int int.UChar) 3 true;
  length = None;
  constant = true;
  align = None;
  align_first = false;
  init = None;
  list = Some (More (number (pos 1)) (More (number (pos 2)) NoTrees));
}

abbrev byte_pointer : Kind → Tree
byte_pointer k = Node nowhere (CType.Pointer (Pointee.Int int.UChar) true) k

table_after : run (Table bytes_table true ∷ function [] (Then (Return nowhere (Some (of_int (Cast (CType.Int int.Int)
    (Node nowhere (CType.Int int.UChar) (Index (byte_pointer (Cast (CType.Pointer (Pointee.Int int.UChar) true) (Node nowhere (CType.Array (Pointee.Int int.UChar) 3 true) (Name (codes "t"))) false)) (number (pos 1)))) false)))) NoStatements))
    [] (given_block ∷ []) 0
    ≡ Done (Some (an_int (pos 2))) (given_block ∷ record { bytes = Some 1 ∷ Some 2 ∷ Some 0 ∷ []; align = 1; writable = false; alive = true } ∷ [])
unfolding num_of wrapped bits_of value_of_bits converted
table_after = refl

-- a row that reads two bytes at offsets 0 and 1 from its pointer, the second first, and one that writes them
abbrev two_bytes : Bool → ℕ → Option Access
two_bytes write zero = Some (record { offset = pos 1; size = 1; align = 1; write = write; at = 0 })
two_bytes write (suc zero) = Some (record { offset = pos 0; size = 1; align = 1; write = write; at = 1 })
two_bytes write (suc (suc k)) = None

abbrev row_signature : Bool → Sig
row_signature true = signature kind.Nothing (kind.PointerTo (Pointee.Int int.UChar) false ∷ kind.Lane U8 false ∷ [])
row_signature false = signature (kind.Lane U8 false) (kind.PointerTo (Pointee.Int int.UChar) true ∷ [])

abbrev last_register : List Arg → Arg
last_register (Arg.Nothing ∷ a ∷ []) = a
last_register _ = Arg.Nothing

abbrev small_table : RowTable Bool
small_table = rows_of (λ name. Some (bytes_eq name (codes "write"))) row_signature (λ write. NoImmediate) (λ write. 2) (λ write args imm k. two_bytes write k) (λ write args imm. last_register args)

abbrev two : MemoryBlock
two = record { bytes = Some 5 ∷ Some 6 ∷ []; align = 1; writable = true; alive = true }

abbrev begin : List MemoryBlock → State
begin memory = record { objects = []; memory = memory; left = 0 }

row_reads : call_of_row small_table (codes "read") (Value.At (Pointer.At 0 0) ∷ []) (begin (two ∷ []))
    ≡ state.Done (Some (Value.R8 (6 ∷ 5 ∷ 0 ∷ 0 ∷ 0 ∷ 0 ∷ 0 ∷ 0 ∷ []))) (begin (two ∷ []))
row_reads = refl

row_writes : call_of_row small_table (codes "write") (Value.At (Pointer.At 0 0) ∷ Value.R8 (7 ∷ 8 ∷ 9 ∷ 0 ∷ 0 ∷ 0 ∷ 0 ∷ 0 ∷ []) ∷ []) (begin (two ∷ []))
    ≡ state.Done None (begin (record two { bytes = Some 8 ∷ Some 7 ∷ [] } ∷ []))
row_writes = refl

row_past_the_end : call_of_row small_table (codes "read") (Value.At (Pointer.At 0 1) ∷ []) (begin (two ∷ [])) ≡ state.Undefined
row_past_the_end = refl

-- an integer isn't a pointer, and a second value has no parameter
row_of_an_integer : call_of_row small_table (codes "read") (an_int (pos 0) ∷ []) (begin (two ∷ [])) ≡ state.Undefined
row_of_an_integer = refl

row_of_two_values : call_of_row small_table (codes "read") (Value.At (Pointer.At 0 0) ∷ an_int (pos 0) ∷ []) (begin (two ∷ [])) ≡ state.Undefined
row_of_two_values = refl

-- int f(const _Bool *p) { return *p; } on the byte 2
bool_of_two : run (function (object (codes "p") (CType.Pointer (Pointee.Int int.Boolean) true) None ∷ [])
    (Then (Return nowhere (Some (of_int (Cast (CType.Int int.Int) (Node nowhere (CType.Int int.Boolean) (Deref (Node nowhere (CType.Pointer (Pointee.Int int.Boolean) true) (Name (codes "p"))))) false)))) NoStatements))
    (Value.At (Pointer.At 0 0) ∷ []) (record given_block { bytes = Some 2 ∷ [] } ∷ []) 0 ≡ Undefined
bool_of_two = refl

-- int f(const unsigned char *p, const unsigned char *q) { return p OP q; }
abbrev of_pointers : BinOp → List External
of_pointers o = function (object (codes "p") (CType.Pointer (Pointee.Int int.UChar) true) None ∷ object (codes "q") (CType.Pointer (Pointee.Int int.UChar) true) None ∷ [])
    (Then (Return nowhere (Some (of_int (Binary o (byte_pointer (Name (codes "p"))) (byte_pointer (Name (codes "q"))))))) NoStatements)

abbrev on_pointers : BinOp → Pointer → Pointer → Outcome
on_pointers o p q = run (of_pointers o) (Value.At p ∷ Value.At q ∷ []) (two ∷ two ∷ ended two ∷ []) 0

abbrev on_pointers_gives : BinOp → Pointer → Pointer → Option Value → Type 0
on_pointers_gives o p q v = on_pointers o p q ≡ Done v (two ∷ two ∷ ended two ∷ [])

difference_in_a_block : on_pointers_gives op.Sub (Pointer.At 1 0) (Pointer.At 1 2) (Some (Value.Int (num_of int.Long (negsuc 1))))
difference_in_a_block = refl

difference_of_blocks : on_pointers op.Sub (Pointer.At 0 0) (Pointer.At 1 0) ≡ Undefined
difference_of_blocks = refl

order_of_blocks : on_pointers op.Lt (Pointer.At 0 0) (Pointer.At 1 0) ≡ Undefined
order_of_blocks = refl

blocks_are_unequal : on_pointers_gives op.Eq (Pointer.At 0 2) (Pointer.At 1 0) (Some (an_int (pos 0)))
unfolding num_of operators.truth
blocks_are_unequal = refl

ended_is_not_compared : on_pointers op.Eq (Pointer.At 2 0) Pointer.Null ≡ Undefined
ended_is_not_compared = refl

-- the pointer 2 bytes behind the second of two is none
sum_past_the_end : operate (two ∷ []) op.Add (CType.Pointer (Pointee.Int int.UChar) true) (CType.Int int.Int) (Value.At (Pointer.At 0 1)) (an_int (pos 2)) ≡ None
unfolding num_of wrapped bits_of value_of_bits
sum_past_the_end = refl

sum_to_the_end : operate (two ∷ []) op.Add (CType.Pointer (Pointee.Int int.UChar) true) (CType.Int int.Int) (Value.At (Pointer.At 0 1)) (an_int (pos 1)) ≡ Some (Value.At (Pointer.At 0 2))
unfolding num_of wrapped bits_of value_of_bits
sum_to_the_end = refl

sum_on_null : operate [] op.Add (CType.Pointer (Pointee.Int int.UChar) true) (CType.Int int.Int) (Value.At Pointer.Null) (an_int (pos 0)) ≡ None
sum_on_null = refl

-- uint8x16x2_t f(uint8x16_t a, uint8x16_t b) { uint8x16x2_t r; r.val[1] = b; r.val[0] = a; return r; }, and without the second assignment
abbrev vector : Kind → Tree
vector k = Node nowhere (CType.Neon U8 true) k

abbrev pair : Kind → Tree
pair k = Node nowhere CType.Pair k

abbrev half_set : ℕ → List ℕ → Statement
half_set k x = Run (vector (Assign None (vector (Half (pair (Name (codes "r"))) k)) (vector (Name x))))

abbrev returned_pair : Statements
returned_pair = Then (Return nowhere (Some (pair (Name (codes "r"))))) NoStatements

abbrev of_halves : Statements → Outcome
of_halves body = run (function (object (codes "a") (CType.Neon U8 true) None ∷ object (codes "b") (CType.Neon U8 true) None ∷ [])
    (Then (Declare (object (codes "r") CType.Pair None ∷ [])) (Then (half_set 1 (codes "b")) body)))
    (Value.R16 (replicate 16 1) ∷ Value.R16 (replicate 16 2) ∷ []) [] 0

both_halves : of_halves (Then (half_set 0 (codes "a")) returned_pair) ≡ Done (Some (Value.R32 (replicate 16 1 ++ replicate 16 2))) []
both_halves = refl

one_half : of_halves returned_pair ≡ Undefined
one_half = refl

the_half_that_is_set : of_halves (Then (Return nowhere (Some (vector (Half (pair (Name (codes "r"))) 1)))) NoStatements) ≡ Done (Some (Value.R16 (replicate 16 2))) []
the_half_that_is_set = refl
