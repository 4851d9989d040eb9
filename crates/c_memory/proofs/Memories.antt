-- What a memory is sure to give: bytes, and offsets that are numbers of `long`.
use Rattle.std.proofs.Common.{◌≡◌, ℕ, zero, suc, ◌+◌, ◌<◌, ◌≤◌, ◌^◌, List, [], ◌∷◌, length, take, drop, get_or, Option, Some, None, Bool, true, false, refl, ap, arith, slice_get, subst}
use Rattle.std.specs.Prelude.{option_map, if◌then◌else◌, pos}
use Rattle.std.proofs.lemmas.Int.{ints}
use Rattle.std.proofs.lemmas.List.{length-take-le, length-drop}
use Rattle.lane_core.specs.declared.number.IntType.TheVariants as int
use Rattle.lane_core.specs.IntRange.{InRange}
use Rattle.lane_core.specs.Register.{Bytes, IsRegister}
use Rattle.c_memory.specs.declared.blocks.Block.{Block}
use Rattle.c_memory.specs.declared.memory.Pointer.{Pointer}
use Rattle.c_memory.specs.declared.memory.Pointer.TheVariants.{Null, At}
use Rattle.c_memory.specs.Memory.{reaches, set_bytes, read_in, bytes_read}
use Rattle.c_memory.specs.Values.{AreBytes, IsBlock, IsMemory, PointsInto}
use Rattle.c_memory.proofs.Definedness.{reaches_words}

taken_bytes : (n : ℕ) (all : List (Option ℕ)) → AreBytes all → AreBytes (take n all)
taken_bytes zero all h = tt
taken_bytes (suc n) [] h = tt
taken_bytes (suc n) (None ∷ rest) h = taken_bytes n rest h
taken_bytes (suc n) (Some byte ∷ rest) h = (h.0, taken_bytes n rest h.1)

dropped_bytes : (n : ℕ) (all : List (Option ℕ)) → AreBytes all → AreBytes (drop n all)
dropped_bytes zero all h = h
dropped_bytes (suc n) [] h = tt
dropped_bytes (suc n) (None ∷ rest) h = dropped_bytes n rest h
dropped_bytes (suc n) (Some byte ∷ rest) h = dropped_bytes n rest h.1

no_bytes : Bytes []
no_bytes = record { below = λ i. omega arith }

more_bytes : (byte : ℕ) (rest : List ℕ) → byte < 256 → Bytes rest → Bytes (byte ∷ rest)
more_bytes byte rest h k = record { below = λ i. at i }
  where
    at : (i : ℕ) → get_or (byte ∷ rest) i 0 < 256
    at zero = h
    at (suc i) = k.below i

one_more : (byte : ℕ) (n : ℕ) (o : Option (List ℕ)) (bytes : List ℕ) → byte < 256 → ((rest : List ℕ) → o ≡ Some rest → IsRegister n rest) → option_map (λ bs. byte ∷ bs) o ≡ Some bytes → IsRegister (suc n) bytes
one_more byte n None bytes h k e = absurd (cc)
one_more byte n (Some rest) bytes h k e =
    let r = k rest refl in
    let same : byte ∷ rest ≡ bytes = cc in
    subst (IsRegister (suc n)) same (record { size = ap suc r.size; bytes = more_bytes byte rest h r.bytes })

set_are_bytes : (all : List (Option ℕ)) (bytes : List ℕ) → AreBytes all → set_bytes all ≡ Some bytes → IsRegister (length all) bytes
set_are_bytes [] bytes h e = let none : [] ≡ bytes = cc in subst (IsRegister 0) none (record { size = refl; bytes = no_bytes })
set_are_bytes (None ∷ rest) bytes h e = absurd (cc)
set_are_bytes (Some byte ∷ rest) bytes h e = one_more byte (length rest) (set_bytes rest) bytes h.0 (λ bs f. set_are_bytes rest bs h.1 f) e

read_bytes : (b : Block) (offset align size : ℕ) (bytes : List ℕ) (v : Bool) → IsBlock b → reaches b offset align size ≡ v → (if v then set_bytes (take size (drop offset b.bytes)) else None) ≡ Some bytes → IsRegister size bytes
read_bytes b offset align size bytes false good r e = absurd (cc)
read_bytes b offset align size bytes true good r e =
    let inside = (reaches_words b offset align size r).inside in
    let long : length (take size (drop offset b.bytes)) ≡ size = length-take-le size (drop offset b.bytes) (rw length-drop (omega (arith, inside))) in
    subst (λ n. IsRegister n bytes) long
    (set_are_bytes (take size (drop offset b.bytes)) bytes (taken_bytes size (drop offset b.bytes) (dropped_bytes offset b.bytes good.bytes)) e)

read_block : (o : Option Block) (offset align size : ℕ) (bytes : List ℕ) → ((b : Block) → o ≡ Some b → IsBlock b) → read_in o offset align size ≡ Some bytes → IsRegister size bytes
read_block None offset align size bytes good e = absurd (cc)
read_block (Some b) offset align size bytes good e = read_bytes b offset align size bytes (reaches b offset align size) (good b refl) refl e

pub read_is_bytes : (memory : List Block) (at : Pointer) (align size : ℕ) (bytes : List ℕ) → IsMemory memory → bytes_read memory at align size ≡ Some bytes → IsRegister size bytes
read_is_bytes memory Null align size bytes h e = absurd (cc)
read_is_bytes memory (At block offset) align size bytes h e = read_block (slice_get memory block) offset align size bytes (h block) e

pub offset_is_long : (memory : List Block) (block offset : ℕ) → IsMemory memory → PointsInto memory (At block offset) → InRange int.Long (pos offset)
offset_is_long memory block offset h p =
    let size = (h block p.0 p.1).size in
    (omega (arith, ints), omega (arith, ints, size, p.2))
