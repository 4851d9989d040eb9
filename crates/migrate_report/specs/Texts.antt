-- The text that says how a run ended.
use Rattle.std.specs.Prelude.{ℕ, ◌+◌, ◌-◌, List, [], ◌∷◌, ◌++◌, take, nat_lt, if◌then◌else◌, codes, decimal, Option, Some, None, slice_get}
use Rattle.std.specs.Fmt.{signed_decimal}
use Rattle.hex.specs.Hex.{encode_lower}
use Rattle.c_tree.specs.Tree.{Object, External, Function, Table}
use Rattle.c_memory.specs.declared.blocks.Block.{Block}
use Rattle.c_memory.specs.declared.memory.Pointer.{Pointer}
use Rattle.c_memory.specs.declared.memory.Pointer.TheVariants.{Null, At}
use Rattle.c_memory.specs.declared.value.Value.{Value}
use Rattle.c_memory.specs.declared.value.Value.TheVariants as value
use Rattle.c_memory.specs.Outcomes.{Outcome, Done, Turns, Undefined}

-- the tables of a unit, in order
abbrev pub tables : List External → List Object
tables [] = []
tables (Function f ∷ rest) = tables rest
tables (Table d is_static ∷ rest) = d ∷ tables rest

-- a pointer into a table names it; every other one has the number of its block
abbrev pub place_text : Option Object → ℕ → ℕ → List ℕ
place_text (Some d) block offset = codes "table " ++ (d.name ++ (codes " " ++ decimal offset))
place_text None block offset = codes "at " ++ (decimal block ++ (codes " " ++ decimal offset))

-- the table whose block has this number: the tables' blocks stand behind those of the items
abbrev pub table_at : List External → ℕ → ℕ → Option Object
table_at unit blocks block = if nat_lt block blocks then None else slice_get (tables unit) (block - blocks)

abbrev pub pointer_text : List External → ℕ → Pointer → List ℕ
pointer_text unit blocks Null = codes "null"
pointer_text unit blocks (At block offset) = place_text (table_at unit blocks block) block offset

abbrev pub vector_text : List ℕ → List ℕ
vector_text bytes = codes "vec " ++ encode_lower bytes

-- what a function returned, with `none` for a function without a value
abbrev pub value_text : List External → ℕ → Option Value → List ℕ
value_text unit blocks None = codes "none"
value_text unit blocks (Some (value.Int n)) = codes "int " ++ signed_decimal n.value
value_text unit blocks (Some (value.R8 r)) = vector_text r
value_text unit blocks (Some (value.R16 r)) = vector_text r
value_text unit blocks (Some (value.R32 r)) = vector_text r
value_text unit blocks (Some (value.At p)) = pointer_text unit blocks p

-- a byte as two digits, or `--` where it isn't set
abbrev pub byte_text : Option ℕ → List ℕ
byte_text None = codes "--"
byte_text (Some b) = encode_lower (b ∷ [])

abbrev pub bytes_text : List (Option ℕ) → List ℕ
bytes_text [] = []
bytes_text (b ∷ rest) = byte_text b ++ bytes_text rest

-- a space and the bytes, where there are any
abbrev pub spaced_text : List (Option ℕ) → List ℕ
spaced_text [] = []
spaced_text (b ∷ rest) = codes " " ++ bytes_text (b ∷ rest)

-- the line of a block with this number
abbrev pub block_text : ℕ → Block → List ℕ
block_text n b = codes "block " ++ (decimal n ++ (spaced_text b.bytes ++ codes "\n"))

-- a line for each block; the first has the number n
abbrev pub blocks_text : ℕ → List Block → List ℕ
blocks_text n [] = []
blocks_text n (b ∷ rest) = block_text n b ++ blocks_text (n + 1) rest

-- the value, and the blocks of the items, which are the first of the memory
abbrev pub done_text : List External → ℕ → Option Value → List Block → List ℕ
done_text unit blocks v memory = codes "value " ++ (value_text unit blocks v ++ (codes "\n" ++ blocks_text 0 (take blocks memory)))

-- the text for a unit, where so many blocks of the memory are those of the items
abbrev pub run_text : List External → ℕ → Outcome → List ℕ
run_text unit blocks (Done v memory) = done_text unit blocks v memory
run_text unit blocks Turns = codes "turns\n"
run_text unit blocks Undefined = codes "undefined\n"
