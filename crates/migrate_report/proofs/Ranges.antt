-- The values of the integer types, and numbers that are in no type's range.
use Rattle.std.proofs.Common.{◌≡◌, ℕ, ◌-◌, ◌<◌, ◌^◌, Bool, true, false, Option, Some, None, List, [], ◌∷◌, zero, suc, length, option_map, refl, arith}
use Rattle.std.specs.Prelude.{ℤ, pos, negsuc, ◌≤ℤ◌, neg_ℤ, unsigned_abs, int_le, nat_le, if◌then◌else◌, slice_get}
use Rattle.std.proofs.lemmas.Bool.{and_parts}
use Rattle.std.proofs.lemmas.Bool.Decides.{nat_tests}
use Rattle.std.proofs.lemmas.Int.{ints}
use Rattle.lane_core.specs.declared.number.IntType.{IntType}
use Rattle.lane_core.specs.declared.number.IntType.TheVariants.{Boolean, Char, SChar, UChar, Short, UShort, Int, UInt, Long, ULong, LLong, ULLong}
use Rattle.lane_core.specs.IntRange.{InRange, least, greatest}
use Rattle.scalar_core.specs.TwosComplement.{holds}
use Rattle.c_memory.specs.declared.blocks.Block.{Block as MemoryBlock}
use Rattle.c_memory.specs.declared.memory.Pointer.TheVariants as pointer
use Rattle.c_memory.specs.declared.value.Value.TheVariants as value
use Rattle.migrate_report.specs.Reading.{at_most}
use Rattle.migrate_report.specs.Fits.{number_in_range, reaches, pointer_at}
use Rattle.migrate_report.specs.Given.{signed_up_to, offset_in}

within : (low high : ℕ) (z : ℤ) → negsuc low ≤ℤ z → z ≤ℤ pos high → low < 2 ^ 63 → high < 2 ^ 64 → unsigned_abs z < 2 ^ 64
within low high (pos n) l h small large = omega (arith, ints)
within low high (negsuc n) l h small large = omega (arith, ints)

natural : (high : ℕ) (z : ℤ) → pos 0 ≤ℤ z → z ≤ℤ pos high → high < 2 ^ 64 → unsigned_abs z < 2 ^ 64
natural high (pos n) l h large = omega (arith, ints)
natural high (negsuc n) l h large = absurd (omega (arith, ints))

pub abs_bound : (t : IntType) (z : ℤ) → InRange t z → unsigned_abs z < 2 ^ 64
abs_bound Boolean z h = natural 1 z h.0 h.1 (omega arith)
abs_bound UChar z h = natural (2 ^ 8 - 1) z h.0 h.1 (omega arith)
abs_bound UShort z h = natural (2 ^ 16 - 1) z h.0 h.1 (omega arith)
abs_bound UInt z h = natural (2 ^ 32 - 1) z h.0 h.1 (omega arith)
abs_bound ULong z h = natural (2 ^ 64 - 1) z h.0 h.1 (omega arith)
abs_bound ULLong z h = natural (2 ^ 64 - 1) z h.0 h.1 (omega arith)
abs_bound Char z h = within (2 ^ 7 - 1) (2 ^ 7 - 1) z h.0 h.1 (omega arith) (omega arith)
abs_bound SChar z h = within (2 ^ 7 - 1) (2 ^ 7 - 1) z h.0 h.1 (omega arith) (omega arith)
abs_bound Short z h = within (2 ^ 15 - 1) (2 ^ 15 - 1) z h.0 h.1 (omega arith) (omega arith)
abs_bound Int z h = within (2 ^ 31 - 1) (2 ^ 31 - 1) z h.0 h.1 (omega arith) (omega arith)
abs_bound Long z h = within (2 ^ 63 - 1) (2 ^ 63 - 1) z h.0 h.1 (omega arith) (omega arith)
abs_bound LLong z h = within (2 ^ 63 - 1) (2 ^ 63 - 1) z h.0 h.1 (omega arith) (omega arith)

le_holds : (a b : ℤ) → int_le a b ≡ true → a ≤ℤ b
le_holds a b h = grind (arith, ints)

-- what the test says
pub in_range : (t : IntType) (z : ℤ) → holds t z ≡ true → InRange t z
in_range t z h = let parts = and_parts (int_le (least t) z) (int_le z (greatest t)) h in (le_holds (least t) z parts.0, le_holds z (greatest t) parts.1)

not_true : (b : Bool) → (b ≡ true → ⊥) → b ≡ false
not_true true h = absurd (h refl)
not_true false h = refl

-- a magnitude of 2 ^ 64 or more is outside each range
pub beyond : (t : IntType) (z : ℤ) → 2 ^ 64 - 1 < unsigned_abs z → holds t z ≡ false
beyond t z h = not_true (holds t z) (λ yes. let b = abs_bound t z (in_range t z yes) in absurd (omega (arith, b)))

abbrev signed : Bool → ℕ → ℤ
signed negative n = if negative then neg_ℤ (pos n) else pos n

up_to : (most n m : ℕ) → at_most most n ≡ Some m → n ≡ m
up_to most n m h = by_test (nat_le n most) h
  where
    by_test : (b : Bool) → (if b then Some n else None) ≡ Some m → n ≡ m
    by_test true g = cc
    by_test false g = cc

not_up_to : (most n : ℕ) → at_most most n ≡ None → most < n
not_up_to most n h = grind (arith, nat_tests)

-- an integer whose digits say no number that is too great
pub kept : (negative : Bool) (n : ℕ) (z : ℤ) → signed_up_to negative n ≡ Some z → z ≡ (if negative then neg_ℤ (pos n) else pos n)
kept negative n z h = by_number (at_most (2 ^ 64 - 1) n) refl h
  where
    by_number : (o : Option ℕ) → at_most (2 ^ 64 - 1) n ≡ o → option_map (λ m. if negative then neg_ℤ (pos m) else pos m) o ≡ Some z → z ≡ (if negative then neg_ℤ (pos n) else pos n)
    by_number None e g = cc
    by_number (Some m) e g = let same : n ≡ m = up_to (2 ^ 64 - 1) n m e in cc

magnitude : (negative : Bool) (n : ℕ) → unsigned_abs (signed negative n) ≡ n
magnitude true zero = refl
magnitude true (suc n) = refl
magnitude false n = refl

-- an integer whose digits say a number that is too great for every type
pub gone : (t : IntType) (negative : Bool) (n : ℕ) → signed_up_to negative n ≡ None → number_in_range t (if negative then neg_ℤ (pos n) else pos n) ≡ None
gone t negative n h = by_number (at_most (2 ^ 64 - 1) n) refl h
  where
    by_number : (o : Option ℕ) → at_most (2 ^ 64 - 1) n ≡ o → option_map (λ m. if negative then neg_ℤ (pos m) else pos m) o ≡ None → number_in_range t (signed negative n) ≡ None
    by_number None e g =
        let great : 2 ^ 64 - 1 < n = not_up_to (2 ^ 64 - 1) n e in
        rw (beyond t (signed negative n) (rw (magnitude negative n) great)) refl
    by_number (Some m) e g = cc

past_end : {A : Type 0} (xs : List A) (k : ℕ) → length xs < k → slice_get xs k ≡ None
past_end [] k h = refl
past_end (x ∷ xs) zero h = absurd (omega arith)
past_end (x ∷ xs) (suc k) h = past_end xs k (omega arith)

-- a block's number that is too great
pub unplaced : (memory : List MemoryBlock) (block offset : ℕ) → at_most (length memory) block ≡ None → pointer_at memory block offset ≡ None
unplaced memory block offset h = rw (past_end memory block (not_up_to (length memory) block h)) refl

-- a block's number that may be one
pub placed : (memory : List MemoryBlock) (block offset known : ℕ) → at_most (length memory) block ≡ Some known
    → pointer_at memory block offset ≡ option_map (λ o. value.At (pointer.At known o)) (offset_in (slice_get memory known) offset)
placed memory block offset known h = let same : block ≡ known = up_to (length memory) block known h in rw same (by_block (slice_get memory known))
  where
    by_test : (b : Bool) → (if b then Some (value.At (pointer.At known offset)) else None) ≡ option_map (λ o. value.At (pointer.At known o)) (if b then Some offset else None)
    by_test true = refl
    by_test false = refl

    by_block : (o : Option MemoryBlock) → (if reaches offset o then Some (value.At (pointer.At known offset)) else None) ≡ option_map (λ o. value.At (pointer.At known o)) (offset_in o offset)
    by_block None = refl
    by_block (Some b) = by_test (nat_le offset (length b.bytes))
