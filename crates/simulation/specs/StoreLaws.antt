-- Laws of a block that the first unit fills with its first value, and the second by a store, as for a vector in memory and an array of bytes.
use Rattle.std.proofs.Common.{◌≡◌, ℕ, zero, suc, ◌+◌, ◌≤◌, ◌%◌, ◌==◌, List, [], ◌∷◌, map, drop, length, Bool, true, Option, Some, refl, sym, ap, ◌∙◌, subst}
use Rattle.std.proofs.Common.{arith, nat_le, slice_get, slice_set}
use Rattle.std.specs.Prelude.{option_map}
use Rattle.std.proofs.lemmas.Option.{same_Some}
use Rattle.std.proofs.lemmas.List.{length-map, append-nil}
use Rattle.c_memory.specs.declared.blocks.Block.{Block}
use Rattle.c_memory.specs.declared.memory.Pointer.TheVariants.{At}
use Rattle.c_memory.specs.Memory.{reaches, after_write, overwritten}
use Rattle.c_memory.specs.MeaningState.{State, to_memory}
use Rattle.c_memory.specs.Meaning.{filled, fill}
use Rattle.simulation.specs.Alike.{Covers, is_first, one_less, Blocks, Stayed, Objects, Alike, After, Ends}
use Rattle.simulation.specs.BlockLaws.{write_stays, picked}
use Rattle.simulation.specs.ObjectLaws.{AreFirst}

drop_all : (xs : List (Option ℕ)) (k : ℕ) → length xs ≡ k → drop k xs ≡ []
drop_all [] zero e = refl
drop_all [] (suc k) e = refl
drop_all (x ∷ xs) zero e = absurd (omega (arith, e))
drop_all (x ∷ xs) (suc k) e = drop_all xs k (omega (arith, e))

-- all bytes of a block are written
whole : (xs : List (Option ℕ)) (bytes : List ℕ) → length xs ≡ length bytes → overwritten xs 0 bytes ≡ map Some bytes
whole xs bytes e = rw (drop_all xs (0 + length bytes) (omega (arith, e))) (append-nil (map Some bytes))

covers_written : (x : Bool) (b c : Block) (bytes : List ℕ) → Covers x b c → length c.bytes ≡ length bytes → AreFirst bytes
    → Covers x (record b { bytes = map Some bytes }) (record c { bytes = overwritten c.bytes 0 bytes })
covers_written x b c bytes h e first = record {
  bytes = sym (whole c.bytes bytes e);
  alive = h.alive;
  align = h.align;
  writable = h.writable;
  are_bytes = first.bytes;
  size = rw (length-map) first.size;
  kept = h.kept;
}

written_alike : (n : ℕ) (m w : List Block) (k : ℕ) (bytes : List ℕ) (c : Block) → Blocks n m w → slice_get w k ≡ Some c → length c.bytes ≡ length bytes
    → AreFirst bytes
    → Blocks n (filled k bytes m) (slice_set w k (record c { bytes = overwritten c.bytes 0 bytes }))
written_alike n [] [] k bytes c h e long first = h
written_alike n (b ∷ m) (x ∷ w) zero bytes c h e long first =
    let same : x ≡ c = same_Some x c e in
    (covers_written (is_first n) b c bytes (subst (λ z. Covers (is_first n) b z) same h.0) long first, h.1)
written_alike n (b ∷ m) (x ∷ w) (suc k) bytes c h e long first = (h.0, written_alike (one_less n) m w k bytes c h.1 e long first)
written_alike n [] (x ∷ w) k bytes c h e long first = absurd h
written_alike n (b ∷ m) [] k bytes c h e long first = absurd h

-- a block of the second that may be written, whole, with an alignment that its begin has
pub record MayFill (c : Block) (align : ℕ) (bytes : List ℕ) : Type 0 where
  pub alive : c.alive ≡ true
  pub writable : c.writable ≡ true
  pub size : length c.bytes ≡ length bytes
  pub aligned : align ≤ c.align
  pub divides : (0 % align == 0) ≡ true

pub store_fills : (w : List Block) (k align : ℕ) (c : Block) (bytes : List ℕ) → slice_get w k ≡ Some c → MayFill c align bytes
    → after_write w (At k 0) align bytes ≡ Some (slice_set w k (record c { bytes = overwritten c.bytes 0 bytes }))
store_fills w k align c bytes e may =
    let size = may.size in
    let fits = may.aligned in
    let inside : nat_le (0 + length bytes) (length c.bytes) ≡ true = grind (arith, size) in
    let aligned : nat_le align c.align ≡ true = grind (arith, fits) in
    let reach : reaches c 0 align (length bytes) ≡ true = rw (may.alive, inside, aligned, may.divides) refl in
    rw e (ap (option_map (λ b. slice_set w k b)) (picked c.writable (reaches c 0 align (length bytes))
    (record c { bytes = overwritten c.bytes 0 bytes }) may.writable reach))

-- the first fills the block, and the second writes the same bytes
pub fill_store_ends : (n : ℕ) (E : Objects) (k align : ℕ) (bytes : List ℕ) (u y : State) (c : Block) → Alike n E u y → slice_get y.memory k ≡ Some c
    → MayFill c align bytes → AreFirst bytes
    → Ends ◌≡◌ (After n E y) (fill k bytes u) (to_memory (λ memory. after_write memory (At k 0) align bytes) y)
fill_store_ends n E k align bytes u y c a e may first =
    let is = store_fills y.memory k align c bytes e may in
    rw is (
      refl,
      record {
        alike = record { objects = a.objects; memory = written_alike n u.memory y.memory k bytes c a.memory e may.size first; left = a.left };
        stays = write_stays y.memory (slice_set y.memory k (record c { bytes = overwritten c.bytes 0 bytes })) (At k 0) align bytes is;
      },
    )

-- what a block that stayed may be filled with, where it began as one that may be written
pub may_fill : (b c : Block) (align : ℕ) (bytes : List ℕ) → Stayed b c → b.writable ≡ true → length b.bytes ≡ length bytes → align ≤ b.align
    → (0 % align == 0) ≡ true → MayFill c align bytes
may_fill b c align bytes h writable long aligned divides =
    record {
      alive = h.alive;
      writable = h.writable ∙ writable;
      size = h.size ∙ long;
      aligned = subst (λ z. align ≤ z)
          (sym h.align) aligned;
      divides = divides;
    }
