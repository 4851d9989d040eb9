-- Bytes of numbers and bytes read.
use Rattle.std.proofs.Common.{◌≡◌, ℕ, zero, suc, ◌+◌, ◌*◌, ◌/◌, ◌≤◌, List, [], ◌∷◌, ◌++◌, length, take, drop, Option, Some, None, Bool, true, false, if◌then◌else◌, refl, sym, ap, ◌∙◌, subst, arith, zero-mul, append-nil}
use Rattle.std.specs.Prelude.{option_map, slice_get, nat_le}
use Rattle.std.proofs.lemmas.Bool.{and_parts}
use Rattle.std.proofs.lemmas.List.{length-take, length-drop, length-append}
use Rattle.std.proofs.lemmas.Option.{same_Some}
use Rattle.std.proofs.Math.Seq.{take-append_seam}
use Rattle.lane_core.specs.Register.{IsWidth, value, digits, lane}
use Rattle.lane_core.specs.Kernels.{put_of}
use Rattle.c_memory.specs.declared.blocks.Block.{Block}
use Rattle.c_memory.specs.declared.memory.Pointer.{Pointer}
use Rattle.c_memory.specs.declared.memory.Pointer.TheVariants.{Null, At}
use Rattle.c_memory.specs.Memory.{reaches, set_bytes, read_in, bytes_read}
use Rattle.c_memory.specs.Defined.{Leaves}

length-digits : (w v : ℕ) → length (digits w v) ≡ w
length-digits zero v = refl
length-digits (suc w) v = ap suc (length-digits w (v / 256))

take-front : (n : ℕ) (a b : List ℕ) → length a ≡ n → take n (a ++ b) ≡ a
take-front n a b e = rw (← e) (take-append_seam a b)

-- the front of a lane that was put in is the number's bytes
pub low_digits : (w v : ℕ) (zeros all out : List ℕ) → all ≡ put_of w zeros 0 v → out ≡ take w all → out ≡ digits w v
unfolding put_of
low_digits w v zeros all out e f = f ∙ ap (take w) e ∙ rw zero-mul (take-front w (digits w v) (drop (0 + w) zeros) (length-digits w v))

-- a read gives as many bytes as it asks for
one_more : (x n : ℕ) (o : Option (List ℕ)) (bytes : List ℕ) → ((r : List ℕ) → o ≡ Some r → length r ≡ n) → option_map (λ r. x ∷ r) o ≡ Some bytes → length bytes ≡ suc n
one_more x n None bytes h e = absurd (cc)
one_more x n (Some r) bytes h e = ap length (sym (same_Some (x ∷ r) bytes e)) ∙ ap suc (h r refl)

set_long : (all : List (Option ℕ)) (bytes : List ℕ) → set_bytes all ≡ Some bytes → length bytes ≡ length all
set_long [] bytes e = ap length (sym (same_Some [] bytes e))
set_long (None ∷ rest) bytes e = absurd (cc)
set_long (Some x ∷ rest) bytes e = one_more x (length rest) (set_bytes rest) bytes (set_long rest) e

there_long : (b : Block) (offset align size : ℕ) (r : Bool) (bytes : List ℕ) → reaches b offset align size ≡ r
    → (if r then set_bytes (take size (drop offset b.bytes)) else None) ≡ Some bytes → length bytes ≡ size
there_long b offset align size true bytes e f =
    let p = and_parts b.alive _ e in
    let q = and_parts (nat_le (offset + size) (length b.bytes)) _ p.1 in
    let inside : offset + size ≤ length b.bytes = grind (arith, q.0) in
    set_long (take size (drop offset b.bytes)) bytes f ∙ rw (length-take, length-drop) (omega (arith, inside))
there_long b offset align size false bytes e f = absurd (cc)

in_long : (found : Option Block) (offset align size : ℕ) (bytes : List ℕ) → read_in found offset align size ≡ Some bytes → length bytes ≡ size
in_long None offset align size bytes e = absurd (cc)
in_long (Some b) offset align size bytes e = there_long b offset align size (reaches b offset align size) bytes refl e

pub read_long : (memory : List Block) (at : Pointer) (align size : ℕ) (bytes : List ℕ) → bytes_read memory at align size ≡ Some bytes → length bytes ≡ size
read_long memory Null align size bytes e = absurd (cc)
read_long memory (At block offset) align size bytes e = in_long (slice_get memory block) offset align size bytes e

-- the number of the bytes read is a lane's
number_due : (w r : ℕ) (due : Option (List ℕ)) (old new rest : List ℕ) (answer : Option (Unit {0})) (u : Unit {0}) → ((bytes : List ℕ) → due ≡ Some bytes → length bytes ≡ w)
    → Leaves due old answer new → answer ≡ Some u → r ≡ lane w (new ++ rest) 0 → Some r ≡ option_map value due
unfolding lane
number_due w r None old new rest answer u long h e f = absurd (let k = h.0 in cc)
number_due w r (Some bytes) old new rest answer u long h e f =
    ap Some (f ∙ ap (λ (all : List ℕ). value (take w (drop (0 * w) (all ++ rest)))) h.1 ∙ rw zero-mul (ap value (take-front w bytes rest (long bytes refl))))

width_small : (w : ℕ) → IsWidth w → w ≤ 8
width_small w h = grind arith

pub number_read : (memory : List Block) (at : Pointer) (w r : ℕ) (zeros new : List ℕ) (answer : Option (Unit {0})) (u : Unit {0}) → IsWidth w → length zeros ≡ 8
    → Leaves (bytes_read memory at w (length (take w zeros))) (take w zeros) answer new → answer ≡ Some u → r ≡ lane w (new ++ drop w zeros) 0
    → Some r ≡ option_map value (bytes_read memory at w w)
number_read memory at w r zeros new answer u width eight h e f =
    let small : w ≤ 8 = width_small w width in
    let size : length (take w zeros) ≡ w = rw (length-take) (omega arith) in
    let P : ℕ → Type 0 = λ n. Leaves (bytes_read memory at w n) (take w zeros) answer new in
    number_due w r (bytes_read memory at w w) (take w zeros) new (drop w zeros) answer u (read_long memory at w w) (subst P size h) e f

-- two lists in one
pub joined : (n : ℕ) (a b zeros : List ℕ) → length a ≡ n → length zeros ≡ n → take n (a ++ zeros) ++ (b ++ drop n (drop n (a ++ zeros))) ≡ a ++ b
joined n a b zeros e f =
    let low : take n (a ++ zeros) ≡ a = take-front n a zeros e in
    let high : drop n (drop n (a ++ zeros)) ≡ [] = nothing (drop n (drop n (a ++ zeros))) (rw (length-drop, length-drop, length-append) (omega arith)) in
    rw (low, high, append-nil) refl
  where
    nothing : (l : List ℕ) → length l ≡ 0 → l ≡ []
    nothing [] g = refl
    nothing (x ∷ l) g = absurd (omega arith)
