-- Memories of which one covers the other are read and written alike, and turns are counted alike.
use Rattle.std.proofs.Common.{◌≡◌, ℕ, zero, suc, ◌+◌, ◌≤◌, ◌%◌, ◌==◌, List, [], ◌∷◌, ◌++◌, map, take, drop, length, Bool, true, false, ◌&&◌, Option, Some, None}
use Rattle.std.proofs.Common.{refl, sym, ap, ◌∙◌, subst, arith, nat_le, slice_get, slice_set, if◌then◌else◌}
use Rattle.std.specs.Prelude.{option_map}
use Rattle.std.proofs.lemmas.Bool.{and_parts}
use Rattle.std.proofs.lemmas.Option.{same_Some}
use Rattle.c_memory.specs.declared.blocks.Block.{Block}
use Rattle.c_memory.specs.declared.memory.Pointer.{Pointer}
use Rattle.c_memory.specs.declared.memory.Pointer.TheVariants.{Null, At}
use Rattle.c_memory.specs.Matching.{kept}
use Rattle.c_memory.specs.Memory.{reaches, set_bytes, read_in, bytes_read, overwritten, written_in, after_write}
use Rattle.c_memory.specs.Values.{AreBytes}
use Rattle.simulation.specs.Alike.{Options, Covers, Blocks}
use Rattle.simulation.specs.BlockLaws.{Paired, get_alike, set_alike, Finer, le_true, true_le, are_bytes_taken, are_bytes_dropped, are_bytes_joined, picked}
use Rattle.simulation.specs.BlockLaws.{inside_of, same_length}
use Rattle.simulation.specs.MemoryLaw.{MemoryLaw, TurnsLaw}
use Rattle.simulation.specs.Runs.{AreGood}

pub reaches_alike : (b c : Block) (e : Bool) (o a' a size : ℕ) → Finer a' a → Covers e b c → reaches b o a size ≡ true → reaches c o a' size ≡ true
reaches_alike b c e o a' a size f h r =
    let p = and_parts b.alive _ r in
    let q = and_parts (nat_le (o + size) (length b.bytes)) _ p.1 in
    let u = and_parts (nat_le a b.align) _ q.1 in
    let alive : c.alive ≡ true = sym h.alive ∙ p.0 in
    let inside : nat_le (o + size) (length c.bytes) ≡ true = subst (λ (z : List (Option ℕ)). nat_le (o + size) (length z) ≡ true) h.bytes q.0 in
    let fits : nat_le a' c.align ≡ true = (let x = le_true a b.align u.0 in let y = f.least in let z = h.align in true_le a' c.align (omega arith)) in
    let place : (o % a' == 0) ≡ true = f.multiple o u.1 in
    rw (alive, inside, fits, place) refl

-- what is read is the same
pub read_alike : (n : ℕ) (m w : List Block) (p : Pointer) (a' a size : ℕ) → Finer a' a → Blocks n m w
    → Options ◌≡◌ (bytes_read m p a size) (bytes_read w p a' size)
read_alike n m w Null a' a size f h = tt
read_alike n m w (At k o) a' a size f h = at (slice_get m k) (slice_get w k) (get_alike n m w k h)
  where
    same : (x : Option (List ℕ)) → Options ◌≡◌ x x
    same None = tt
    same (Some x) = refl

    there : (b c : Block) (e : Bool) → Covers e b c → (r : Bool) → reaches b o a size ≡ r
        → Options ◌≡◌ (if r then set_bytes (take size (drop o b.bytes)) else None) (read_in (Some c) o a' size)
    there b c e g false r = tt
    there b c e g true r = rw (reaches_alike b c e o a' a size f g r, ← g.bytes) (same _)

    at : (x y : Option Block) → Paired x y → Options ◌≡◌ (read_in x o a size) (read_in y o a' size)
    at None None g = tt
    at (Some b) (Some c) g = there b c g.0 g.1 (reaches b o a size) refl
    at None (Some c) g = absurd g
    at (Some b) None g = absurd g

-- the bytes are written alike
pub write_alike : (n : ℕ) (m w : List Block) (p : Pointer) (a' a : ℕ) (bytes : List ℕ) → Finer a' a → AreBytes (map Some bytes) → Blocks n m w
    → Options (Blocks n) (after_write m p a bytes) (after_write w p a' bytes)
write_alike n m w Null a' a bytes f are h = tt
write_alike n m w (At k o) a' a bytes f are h = at (slice_get m k) (slice_get w k) refl refl (get_alike n m w k h)
  where
    later : (b c : Block) (e : Bool) → o + length bytes ≤ length b.bytes → Covers e b c
        → Covers e (record b { bytes = overwritten b.bytes o bytes }) (record c { bytes = overwritten c.bytes o bytes })
    later b c e inside g = record {
      bytes = ap (λ xs. overwritten xs o bytes) g.bytes;
      alive = g.alive;
      align = g.align;
      writable = g.writable;
      are_bytes = are_bytes_joined (take o b.bytes) (map Some bytes ++ drop (o + length bytes) b.bytes) (are_bytes_taken o b.bytes g.are_bytes)
          (are_bytes_joined (map Some bytes) (drop (o + length bytes) b.bytes) are (are_bytes_dropped (o + length bytes) b.bytes g.are_bytes));
      size = rw (same_length b.bytes o bytes inside) g.size;
      kept = g.kept;
    }

    set : (b c : Block) → o + length bytes ≤ length b.bytes → slice_get m k ≡ Some b → slice_get w k ≡ Some c
        → Blocks n (slice_set m k (record b { bytes = overwritten b.bytes o bytes })) (slice_set w k (record c { bytes = overwritten c.bytes o bytes }))
    set b c inside u v = set_alike n m w k _ _ h (λ x y e i j g.
        let first : b ≡ x = same_Some b x (sym u ∙ i) in
        let second : c ≡ y = same_Some c y (sym v ∙ j) in
        later b c e inside (subst (λ z. Covers e b z) (sym second) (subst (λ z. Covers e z y) (sym first) g)))

    there : (b c : Block) (e : Bool) → Covers e b c → slice_get m k ≡ Some b → slice_get w k ≡ Some c → (v r : Bool) → b.writable ≡ v
        → reaches b o a (length bytes) ≡ r
        → Options (Blocks n) (option_map (λ z. slice_set m k z) (if v && r then Some (record b { bytes = overwritten b.bytes o bytes }) else None))
        (option_map (λ z. slice_set w k z) (written_in (Some c) o a' bytes))
    there b c e g i j true true u r =
        subst (λ (z : Option Block). Options (Blocks n) (Some (slice_set m k (record b { bytes = overwritten b.bytes o bytes })))
        (option_map (λ y. slice_set w k y) z))
        (sym (picked c.writable (reaches c o a' (length bytes)) (record c { bytes = overwritten c.bytes o bytes }) (g.writable u)
        (reaches_alike b c e o a' a (length bytes) f g r))) (set b c (inside_of b o a (length bytes) r) i j)
    there b c e g i j true false u r = tt
    there b c e g i j false r u s = tt

    at : (x y : Option Block) → slice_get m k ≡ x → slice_get w k ≡ y → Paired x y
        → Options (Blocks n) (option_map (λ z. slice_set m k z) (written_in x o a bytes)) (option_map (λ z. slice_set w k z) (written_in y o a' bytes))
    at None None i j g = tt
    at (Some b) (Some c) i j g = there b c g.0 g.1 i j b.writable (reaches b o a (length bytes)) refl refl
    at None (Some c) i j g = absurd g
    at (Some b) None i j g = absurd g

pub kept_alike : (n : ℕ) (m w : List Block) → Blocks n m w → map kept (take n m) ≡ map kept (take n w)
kept_alike zero m w h = refl
kept_alike (suc n) [] [] h = refl
kept_alike (suc n) (b ∷ m) (c ∷ w) h =
    let one : kept b ≡ kept c = rw (h.0.bytes, (h.0.kept refl).0, (h.0.kept refl).1) refl in
    let rest = kept_alike n m w h.1 in
    cc
kept_alike (suc n) [] (c ∷ w) h = absurd h
kept_alike (suc n) (b ∷ m) [] h = absurd h

pub good_alike : (m : List Block) → AreGood m → Blocks (length m) m m
good_alike [] h = tt
good_alike (b ∷ m) h = (
  record { bytes = refl; alive = refl; align = omega arith; writable = λ z. z; are_bytes = h.0; size = h.1; kept = λ z. (refl, refl) },
  good_alike m h.2,
)

pub memory_law : MemoryLaw
memory_law = record {
  reads = read_alike;
  writes = write_alike;
  kept = kept_alike;
  itself = good_alike;
}

pub turns_law : TurnsLaw
turns_law = record { equal = λ m k e. e; same = λ m. refl }
