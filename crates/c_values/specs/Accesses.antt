-- The accesses of a row one after another, as the code makes them.
use Rattle.std.specs.Prelude.{ℕ, pos, List, [], ◌∷◌, length, Option, Some, None, option_map, if◌then◌else◌}
use Rattle.std.specs.Option.{option_and_then}
use Rattle.lane_core.specs.declared.table.Access.{Access}
use Rattle.lane_core.specs.declared.table.Arg.{Arg}
use Rattle.lane_core.specs.declared.table.ImmRange.{ImmRange}
use Rattle.lane_core.specs.declared.table.ParamKind.{ParamKind}
use Rattle.lane_core.specs.declared.table.ParamKind.TheVariants as kind
use Rattle.lane_core.specs.Table.{IsArg}
use Rattle.scalar_core.specs.Numbers.{num_of}
use Rattle.c_memory.specs.declared.blocks.Block.{Block}
use Rattle.c_memory.specs.declared.memory.Pointer.{Pointer}
use Rattle.c_memory.specs.declared.value.Value.{Value}
use Rattle.c_memory.specs.MeaningRows.{is_in_range, put, read_one, write_one}

-- the register with the bytes that an access reads
abbrev pub read_into : List Block → Pointer → Access → List ℕ → Option (List ℕ)
read_into memory p a r = option_map (put r a.at) (read_one (length r) memory p a)

abbrev pub read_next : List Block → Pointer → Access → List ℕ → Option (List ℕ)
read_next memory p a r = if a.write then Some r else read_into memory p a r

-- the register after those of the accesses that read
abbrev pub reads_in : List Block → Pointer → List Access → List ℕ → Option (List ℕ)
reads_in memory p [] r = Some r
reads_in memory p (a ∷ rest) r = option_and_then (reads_in memory p rest) (read_next memory p a r)

abbrev pub write_next : Pointer → List ℕ → Access → List Block → Option (List Block)
write_next p r a memory = if a.write then write_one p r a memory else Some memory

-- the memory after those of the accesses that write
abbrev pub writes_in : Pointer → List ℕ → List Access → List Block → Option (List Block)
writes_in p r [] memory = Some memory
writes_in p r (a ∷ rest) memory = option_and_then (writes_in p r rest) (write_next p r a memory)

-- a value, where the kind is that of a result, and an integer in its type
abbrev pub unless_nothing : ParamKind → Value → Option Value
unless_nothing kind.Nothing v = None
unless_nothing k v = Some v

abbrev pub integer_given : ParamKind → ℕ → Option Value
integer_given (kind.Scalar t) n = Some (Value.Int (num_of t (pos n)))
integer_given k n = None

-- what their type says of arguments
abbrev pub AreArgs : List Arg → Type 0
AreArgs [] = Unit {0}
AreArgs (a ∷ rest) = IsArg a × AreArgs rest

-- the number, where it is one that the immediate may have
abbrev pub in_range : ImmRange → ℕ → Option ℕ
in_range range n = if is_in_range range n then Some n else None
