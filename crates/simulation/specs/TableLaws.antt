-- Laws of the blocks of tables: what is set in them is bytes.
use Rattle.std.proofs.Common.{ℕ, zero, suc, ◌-◌, ◌<◌, ◌^◌, List, [], ◌∷◌, ◌++◌, map, length, replicate, Option, Some, None, arith}
use Rattle.std.specs.Prelude.{option_map}
use Rattle.std.specs.Option.{option_and_then, unwrap_or}
use Rattle.lane_core.specs.declared.number.IntType.{IntType}
use Rattle.lane_core.specs.declared.number.Num.{Num}
use Rattle.lane_core.specs.declared.vector.Pointee.{Pointee}
use Rattle.scalar_core.specs.Numbers.{converted}
use Rattle.const_imm.specs.Constant.{value_of}
use Rattle.const_imm.specs.Sizes.{size_of}
use Rattle.c_tree.specs.declared.types.CType.{CType}
use Rattle.c_tree.specs.Tree.{Tree, Trees, NoTrees, More, Object, External, Function, Table}
use Rattle.c_memory.specs.declared.value.Value.{Value}
use Rattle.c_memory.specs.Values.{AreBytes}
use Rattle.c_memory.specs.MeaningObjects.{integer_bytes, encoded, and_bytes, constants_bytes, array_bytes, unset_bytes}
use Rattle.c_memory.specs.MeaningValues.{converted_value}
use Rattle.c_memory.specs.Meaning.{constant_bytes, table_block, table_blocks}
use Rattle.simulation.specs.Runs.{AreGood, SetBytes}
use Rattle.simulation.specs.WrittenMemory.{integer_set_bytes}

-- the bytes, if there are any
abbrev AreSetBytes : Option (List ℕ) → Type 0
AreSetBytes None = Unit {0}
AreSetBytes (Some bytes) = SetBytes bytes

zeros_are_bytes : (n : ℕ) → SetBytes (replicate n 0)
zeros_are_bytes zero = tt
zeros_are_bytes (suc n) = (omega arith, zeros_are_bytes n)

joined_bytes : (xs ys : List ℕ) → SetBytes xs → SetBytes ys → SetBytes (xs ++ ys)
joined_bytes [] ys h k = k
joined_bytes (x ∷ xs) ys h k = (h.0, joined_bytes xs ys h.1 k)

and_are_bytes : (t : IntType) (n : Option Num) (rest : Option (List ℕ)) → AreSetBytes rest → AreSetBytes (and_bytes t n rest)
and_are_bytes t None rest h = tt
and_are_bytes t (Some a) None h = tt
and_are_bytes t (Some a) (Some bytes) h = joined_bytes (integer_bytes t (converted t a)) bytes (integer_set_bytes t (converted t a)) h

constants_are_bytes : (t : IntType) (all : Trees) → AreSetBytes (constants_bytes t all)
constants_are_bytes t NoTrees = tt
constants_are_bytes t (More e rest) = and_are_bytes t (value_of e) (constants_bytes t rest) (constants_are_bytes t rest)

filled_up : (n : ℕ) (o : Option (List ℕ)) → AreSetBytes o → AreSetBytes (option_map (λ bytes. bytes ++ replicate (n - length bytes) 0) o)
filled_up n None h = tt
filled_up n (Some bytes) h = joined_bytes bytes (replicate (n - length bytes) 0) h (zeros_are_bytes (n - length bytes))

array_are_bytes : (t : CType) (all : Trees) → AreSetBytes (array_bytes t all)
array_are_bytes (CType.Array (Pointee.Int t) n k) all =
    filled_up (unwrap_or (size_of (CType.Array (Pointee.Int t) n k)) 0) (constants_bytes t all) (constants_are_bytes t all)
array_are_bytes (CType.Array Pointee.M128 n k) all = tt
array_are_bytes (CType.Array Pointee.M256 n k) all = tt
array_are_bytes (CType.Array Pointee.Void n k) all = tt
array_are_bytes (CType.Int t) all = tt
array_are_bytes CType.M128 all = tt
array_are_bytes CType.M256 all = tt
array_are_bytes (CType.Neon l w) all = tt
array_are_bytes CType.Pair all = tt
array_are_bytes (CType.Pointer e k) all = tt
array_are_bytes CType.Void all = tt

null_has_none : (e : Pointee) (k : _) (o : Option Value) → AreSetBytes (option_and_then (encoded (CType.Pointer e k)) o)
null_has_none e k None = tt
null_has_none e k (Some v) = tt

one_is_bytes : (t : CType) (a : Num) → AreSetBytes (option_and_then (encoded t) (converted_value t (Value.Int a)))
one_is_bytes (CType.Int t) a = integer_set_bytes t (converted t a)
one_is_bytes (CType.Pointer e k) a = null_has_none e k (converted_value (CType.Pointer e k) (Value.Int a))
one_is_bytes CType.M128 a = tt
one_is_bytes CType.M256 a = tt
one_is_bytes (CType.Neon l w) a = tt
one_is_bytes CType.Pair a = tt
one_is_bytes CType.Void a = tt
one_is_bytes (CType.Array e n k) a = tt

value_is_bytes : (t : CType) (n : Option Num) → AreSetBytes (option_and_then (λ n. option_and_then (encoded t) (converted_value t (Value.Int n))) n)
value_is_bytes t None = tt
value_is_bytes t (Some a) = one_is_bytes t a

initial_are_bytes : (d : Object) (e : Option Tree) (all : Option Trees) → AreSetBytes (constant_bytes d e all)
initial_are_bytes d (Some e) all = value_is_bytes d.ty (value_of e)
initial_are_bytes d None (Some all) = array_are_bytes d.ty all
initial_are_bytes d None None = tt

unset_are_bytes : (n : ℕ) → AreBytes (replicate n None)
unset_are_bytes zero = tt
unset_are_bytes (suc n) = unset_are_bytes n

block_bytes : (t : CType) (o : Option (List ℕ)) → AreSetBytes o → AreBytes (unwrap_or (option_map (λ bytes. map Some bytes) o) (unset_bytes t))
block_bytes t None h = unset_are_bytes (unwrap_or (size_of t) 0)
block_bytes t (Some bytes) h = h

-- each table has fewer than 2 ^ 63 bytes
abbrev pub AreShort : List External → Type 0
AreShort [] = Unit {0}
AreShort (Function f ∷ rest) = AreShort rest
AreShort (Table d is_static ∷ rest) = (length (table_block d).bytes < 2 ^ 63) × AreShort rest

-- so the tables of a unit are blocks that a run may begin with
pub tables_good : (unit : List External) → AreShort unit → AreGood (table_blocks unit)
tables_good [] h = tt
tables_good (Function f ∷ rest) h = tables_good rest h
tables_good (Table d is_static ∷ rest) h = (block_bytes d.ty (constant_bytes d d.init d.list) (initial_are_bytes d d.init d.list), h.0, tables_good rest h.1)
