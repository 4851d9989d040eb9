-- Places in blocks, as the code finds them: it asks for a block's length first, since no block has as many bytes as a number may say.
use Rattle.std.specs.Prelude.{ℕ, ◌==◌, Bool, false, not, ◌&&◌, ◌||◌, List, Option, Some, None, option_map, length, if◌then◌else◌, ℤ, pos, ◌+ℤ◌, int_le, int_div, int_rem, nat_lt, nat_le, unsigned_abs}
use Rattle.std.specs.Ordering.{int_eq}
use Rattle.lane_core.specs.declared.number.BinOp.{BinOp}
use Rattle.lane_core.specs.declared.number.BinOp.TheVariants as op
use Rattle.lane_core.specs.declared.number.UnOp.{UnOp}
use Rattle.scalar_core.specs.Operators.{unary_of}
use Rattle.c_memory.specs.declared.blocks.Block.{Block}
use Rattle.c_memory.specs.declared.memory.Pointer.{Pointer}
use Rattle.c_memory.specs.declared.memory.Pointer.TheVariants.{At}
use Rattle.c_memory.specs.declared.value.Value.{Value}
use Rattle.c_memory.specs.MeaningValues.{in_one_block}

-- the number of bytes of a block that is there and lives
abbrev pub live_length : Option Block → Option ℕ
live_length None = None
live_length (Some b) = if b.alive then Some (length b.bytes) else None

-- the place at a distance from an offset in a block of n bytes, or directly behind them
abbrev pub moved_within : ℕ → ℕ → ℕ → ℤ → Option Pointer
moved_within n block offset distance =
    let place = pos offset +ℤ distance in
    if int_le (pos 0) place && int_le place (pos n) then Some (At block (unsigned_abs place)) else None

-- the offsets of two pointers into one block that lives
abbrev pub offsets : List Block → Pointer → Pointer → Option (ℕ × ℕ)
offsets memory p q = in_one_block memory (λ x y. Some (x, y)) p q

-- so many bytes in things of a size, where it is a whole number
abbrev pub whole_number : ℤ → ℕ → Option ℤ
whole_number bytes size = if size == 0 || not (int_eq (int_rem bytes (pos size)) (pos 0)) then None else Some (int_div bytes (pos size))

-- the order of offsets that an operator asks for
abbrev pub order_of : BinOp → ℕ → ℕ → Bool
order_of op.Lt x y = nat_lt x y
order_of op.Gt x y = nat_lt y x
order_of op.Le x y = nat_le x y
order_of op.Ge x y = nat_le y x
order_of _ x y = false

-- what an operator before an integer gives, and none before another value
abbrev pub unary_value : UnOp → Value → Option Value
unary_value o (Value.Int n) = option_map Value.Int (unary_of o n)
unary_value o v = None
