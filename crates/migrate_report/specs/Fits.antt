-- Which arguments and which memory the items give a function of a unit.
use Rattle.std.specs.Prelude.{◌≡◌, ℕ, List, [], ◌∷◌, length, map, filter, replicate, Bool, true, false, nat_le, if◌then◌else◌, Option, Some, None, option_map, slice_get, ℤ, Result, Ok, Err, Vec}
use Rattle.std.specs.declared.alloc.Global.{Global}
use Rattle.std.specs.Result.{result_ok}
use Rattle.hex.specs.Hex.{decode_of, decode_sized}
use Rattle.scalar_core.specs.TwosComplement.{holds}
use Rattle.scalar_core.specs.Numbers.{num_of}
use Rattle.lane_core.specs.declared.number.IntType.{IntType}
use Rattle.c_tree.specs.declared.types.CType.{CType}
use Rattle.c_tree.specs.Tree.{Definition, External}
use Rattle.c_memory.specs.declared.blocks.Block.{Block as MemoryBlock}
use Rattle.c_memory.specs.declared.memory.Memory.{Memory}
use Rattle.c_memory.specs.declared.memory.Pointer.TheVariants as pointer
use Rattle.c_memory.specs.declared.value.Value.{Value}
use Rattle.c_memory.specs.declared.value.Value.TheVariants as value
use Rattle.c_memory.specs.Functions.{types_of, function_named}
use Rattle.migrate_report.specs.declared.fits.FitFail.{FitFail}
use Rattle.migrate_report.specs.declared.fits.FitFail.TheVariants as fail
use Rattle.migrate_report.specs.Items.{Item, Block, Space, Integer, Vector, At, Null, joined, single, items_of}

-- ---- the memory

abbrev pub block_with : ℕ → Bool → List (Option ℕ) → MemoryBlock
block_with align writable bytes = record { bytes = bytes; align = align; writable = writable; alive = true }

-- the bytes that hex digits say
abbrev pub bytes_of : List ℕ → Option (List ℕ)
bytes_of hex = result_ok (decode_of hex)

abbrev pub set_block : ℕ → Bool → List ℕ → MemoryBlock
set_block align writable bytes = block_with align writable (map Some bytes)

-- the block that an item gives, if it gives one: that of `block` has its bytes set, that of `space` has none set
abbrev pub block_given : Item → Option (List MemoryBlock)
block_given (Block align writable hex) = option_map (λ bytes. set_block align writable bytes ∷ []) (bytes_of hex)
block_given (Space align count) = Some (block_with align true (replicate count None) ∷ [])
block_given item = Some []

-- the blocks of the items, in order
abbrev pub blocks_of : List Item → Option (List MemoryBlock)
blocks_of [] = Some []
blocks_of (item ∷ rest) = joined (block_given item) (blocks_of rest)

-- ---- the arguments

abbrev pub reaches : ℕ → Option MemoryBlock → Bool
reaches offset None = false
reaches offset (Some b) = nat_le offset (length b.bytes)

-- a pointer into a block of the memory, or right behind its last byte
abbrev pub pointer_at : List MemoryBlock → ℕ → ℕ → Option Value
pointer_at memory block offset = if reaches offset (slice_get memory block) then Some (value.At (pointer.At block offset)) else None

-- an integer of the type, where it is in the type's range
abbrev pub number_in_range : IntType → ℤ → Option Value
number_in_range t z = if holds t z then Some (value.Int (num_of t z)) else None

abbrev pub integer_of_type : CType → ℤ → Option Value
integer_of_type (CType.Int t) z = number_in_range t z
integer_of_type t z = None

abbrev pub vector8 : List ℕ → Option Value
vector8 hex = option_map value.R8 (result_ok (decode_sized hex 8))

abbrev pub vector16 : List ℕ → Option Value
vector16 hex = option_map value.R16 (result_ok (decode_sized hex 16))

abbrev pub vector32 : List ℕ → Option Value
vector32 hex = option_map value.R32 (result_ok (decode_sized hex 32))

-- a vector of the type, where it has the type's size
abbrev pub vector_of_type : CType → List ℕ → Option Value
vector_of_type CType.M128 hex = vector16 hex
vector_of_type CType.M256 hex = vector32 hex
vector_of_type (CType.Neon lanes true) hex = vector16 hex
vector_of_type (CType.Neon lanes false) hex = vector8 hex
vector_of_type CType.Pair hex = vector32 hex
vector_of_type t hex = None

-- a pointer, where the type is one of a pointer; what it points to doesn't count
abbrev pub pointer_of_type : CType → Option Value → Option Value
pointer_of_type (CType.Pointer e constant) v = v
pointer_of_type t v = None

-- the argument that an item gives a parameter of this type, if it fits
abbrev pub argument : List MemoryBlock → CType → Item → Option Value
argument memory t (Integer z) = integer_of_type t z
argument memory t (Vector hex) = vector_of_type t hex
argument memory t (At block offset) = pointer_of_type t (pointer_at memory block offset)
argument memory t Null = pointer_of_type t (Some (value.At pointer.Null))
argument memory t item = None

-- the item gives an argument and no block
abbrev pub gives_argument : Item → Bool
gives_argument (Block align writable hex) = false
gives_argument (Space align count) = false
gives_argument item = true

-- one argument for each type, in order
abbrev pub arguments : List MemoryBlock → List CType → List Item → Option (List Value)
arguments memory [] [] = Some []
arguments memory [] (item ∷ rest) = None
arguments memory (t ∷ ts) [] = None
arguments memory (t ∷ ts) (item ∷ rest) = joined (single (argument memory t item)) (arguments memory ts rest)

-- ---- the whole

-- what the words give: there is no function of the name; the words don't fit its parameters; or the arguments, and the memory's blocks
pub data Fitting : Type 0 where
  NoFunction : Fitting
  DontFit : Fitting
  Fit : List Value → List MemoryBlock → Fitting

abbrev pub fitted : List MemoryBlock → Option (List Value) → Fitting
fitted memory None = DontFit
fitted memory (Some args) = Fit args memory

abbrev pub fit_memory : List CType → List Item → Option (List MemoryBlock) → Fitting
fit_memory types items None = DontFit
fit_memory types items (Some memory) = fitted memory (arguments memory types (filter gives_argument items))

abbrev pub fit_items : List CType → Option (List Item) → Fitting
fit_items types None = DontFit
fit_items types (Some items) = fit_memory types items (blocks_of items)

abbrev pub fit_function : Option Definition → List (List ℕ) → Fitting
fit_function None words = NoFunction
fit_function (Some f) words = fit_items (types_of f.params) (items_of words)

abbrev pub fitting : List External → List ℕ → List (List ℕ) → Fitting
fitting unit name words = fit_function (function_named name unit) words

-- a call answers what the words give; memory may run out in place of that
abbrev pub Answers : Fitting → Result (Vec Value Global × Memory) FitFail → Type 0
Answers due (Ok p) = due ≡ Fit p.0.items p.1.blocks
Answers due (Err fail.NoFunction) = due ≡ NoFunction
Answers due (Err fail.DontFit) = due ≡ DontFit
Answers due (Err fail.Memory) = Unit {0}
