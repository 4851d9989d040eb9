-- Laws of what is read: bytes, as many as were asked for.
use Rattle.std.proofs.Common.{◌≡◌, ℕ, zero, suc, ◌<◌, List, [], ◌∷◌, map, length, take, drop, get_or, Bool, true, false, Option, Some, None, refl, ap, subst, arith}
use Rattle.std.proofs.Common.{slice_get}
use Rattle.std.specs.Prelude.{option_map, if◌then◌else◌}
use Rattle.std.proofs.lemmas.List.{length-take, length-drop}
use Rattle.lane_core.specs.Register.{Bytes, IsRegister}
use Rattle.c_memory.specs.declared.blocks.Block.{Block}
use Rattle.c_memory.specs.declared.memory.Pointer.{Pointer}
use Rattle.c_memory.specs.declared.memory.Pointer.TheVariants.{Null, At}
use Rattle.c_memory.specs.Memory.{reaches, set_bytes, read_in, bytes_read}
use Rattle.c_memory.specs.Values.{AreBytes}
use Rattle.simulation.specs.Alike.{Covers, Blocks}
use Rattle.simulation.specs.BlockLaws.{Paired, get_alike, inside_of, are_bytes_taken, are_bytes_dropped}

more_bytes : (byte : ℕ) (rest : List ℕ) → byte < 256 → Bytes rest → Bytes (byte ∷ rest)
more_bytes byte rest h k = record { below = λ i. at i }
  where
    at : (i : ℕ) → get_or (byte ∷ rest) i 0 < 256
    at zero = h
    at (suc i) = k.below i

one_more : (byte n : ℕ) (o : Option (List ℕ)) (r : List ℕ) → byte < 256 → ((rest : List ℕ) → o ≡ Some rest → IsRegister n rest)
    → option_map (λ bytes. byte ∷ bytes) o ≡ Some r → IsRegister (suc n) r
one_more byte n None r h k e = absurd (cc)
one_more byte n (Some rest) r h k e =
    let g = k rest refl in
    let same : byte ∷ rest ≡ r = cc in
    subst (IsRegister (suc n)) same (record { size = ap suc g.size; bytes = more_bytes byte rest h g.bytes })

set_register : (xs : List (Option ℕ)) (r : List ℕ) → AreBytes xs → set_bytes xs ≡ Some r → IsRegister (length xs) r
set_register [] r h e =
    let none : [] ≡ r = cc in
    subst (IsRegister 0) none (record { size = refl; bytes = record { below = λ i. omega arith } })
set_register (None ∷ xs) r h e = absurd (cc)
set_register (Some byte ∷ xs) r h e = one_more byte (length xs) (set_bytes xs) r h.0 (λ rest f. set_register xs rest h.1 f) e

in_register : (b c : Block) (x : Bool) (offset align size : ℕ) (r : List ℕ) (v : Bool) → Covers x b c → reaches b offset align size ≡ v
    → (if v then set_bytes (take size (drop offset b.bytes)) else None) ≡ Some r → IsRegister size r
in_register b c x offset align size r false g u e = absurd (cc)
in_register b c x offset align size r true g u e =
    let inside = inside_of b offset align size u in
    let long : length (take size (drop offset b.bytes)) ≡ size = rw (length-take, length-drop) (omega (arith, inside)) in
    subst (λ k. IsRegister k r) long
    (set_register (take size (drop offset b.bytes)) r (are_bytes_taken size (drop offset b.bytes) (are_bytes_dropped offset b.bytes g.are_bytes)) e)

pub read_register : (n : ℕ) (m w : List Block) (p : Pointer) (align size : ℕ) (r : List ℕ) → Blocks n m w → bytes_read m p align size ≡ Some r
    → IsRegister size r
read_register n m w Null align size r h e = absurd (cc)
read_register n m w (At k offset) align size r h e = at (slice_get m k) (slice_get w k) (get_alike n m w k h) e
  where
    at : (o q : Option Block) → Paired o q → read_in o offset align size ≡ Some r → IsRegister size r
    at None None g e = absurd (cc)
    at (Some b) (Some c) g e = in_register b c g.0 offset align size r (reaches b offset align size) g.1 refl e
    at None (Some c) g e = absurd g
    at (Some b) None g e = absurd g

-- a register's bytes, where they are set in a block
pub set_register_bytes : (r : List ℕ) → Bytes r → AreBytes (map Some r)
set_register_bytes [] h = tt
set_register_bytes (x ∷ r) h = (h.below 0, set_register_bytes r (record { below = λ i. h.below (suc i) }))
