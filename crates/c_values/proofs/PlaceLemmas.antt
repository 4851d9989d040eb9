-- Places in blocks by the blocks' lengths.
use Rattle.std.proofs.Common.{◌≡◌, ℕ, List, refl, arith}
use Rattle.std.specs.Prelude.{ℤ, pos, negsuc, ◌+ℤ◌, Bool, true, false, not, ◌&&◌, ◌==◌, slice_get, if◌then◌else◌, Option, Some, None, length, int_le, nat_lt, unsigned_abs}
use Rattle.std.specs.Option.{option_and_then}
use Rattle.std.proofs.lemmas.Int.{ints}
use Rattle.c_memory.specs.declared.blocks.Block.{Block}
use Rattle.c_memory.specs.declared.memory.Pointer.{Pointer}
use Rattle.c_memory.specs.declared.memory.Pointer.TheVariants.{Null, At}
use Rattle.c_memory.specs.MeaningValues.{is_alive, at_distance, in_block, in_one_block}
use Rattle.c_values.specs.Places.{live_length, moved_within, offsets}

placed : (alive : Bool) (n block : ℕ) (place : ℤ) →
    option_and_then (λ k. if alive && not (nat_lt n k) then Some (At block k) else None) (if int_le (pos 0) place then Some (unsigned_abs place) else None)
    ≡ option_and_then (λ m. if int_le (pos 0) place && int_le place (pos m) then Some (At block (unsigned_abs place)) else None) (if alive then Some n else None)
placed true n block (pos k) =
    let low : int_le (pos 0) (pos k) ≡ true = grind (arith, ints) in
    let high : int_le (pos k) (pos n) ≡ not (nat_lt n k) = grind (arith, ints) in
    rw (low, high) refl
placed true n block (negsuc k) = refl
placed false n block (pos k) =
    let low : int_le (pos 0) (pos k) ≡ true = grind (arith, ints) in
    rw low refl
placed false n block (negsuc k) = refl

-- a place in a block is found by the block's length
pub moved_by_length : (found : Option Block) (block offset : ℕ) (distance : ℤ) →
    option_and_then (in_block found block) (at_distance offset distance) ≡ option_and_then (λ n. moved_within n block offset distance) (live_length found)
moved_by_length (Some b) block offset distance = placed b.alive (length b.bytes) block (pos offset +ℤ distance)
moved_by_length None block offset distance = nowhere (at_distance offset distance)
  where
    nowhere : (o : Option ℕ) → option_and_then (in_block None block) o ≡ None
    nowhere (Some k) = refl
    nowhere None = refl

-- a function of the offsets of two pointers into one block
pub by_offsets : {A : Type 0} (memory : List Block) (f : ℕ → ℕ → Option A) (p q : Pointer) → in_one_block memory f p q ≡ option_and_then (λ (both : ℕ × ℕ). f both.0 both.1) (offsets memory p q)
by_offsets memory f Null q = refl
by_offsets memory f (At block x) Null = refl
by_offsets memory f (At block x) (At other y) = chosen (block == other && is_alive (slice_get memory block))
  where
    chosen : (b : Bool) → (if b then f x y else None) ≡ option_and_then (λ (both : ℕ × ℕ). f both.0 both.1) (if b then Some (x, y) else None)
    chosen true = refl
    chosen false = refl
