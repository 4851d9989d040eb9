-- A write, a block that begins and blocks that end continue a memory.
use Rattle.std.proofs.Common.{◌≡◌, ℕ, zero, suc, ◌+◌, ◌≤◌, List, [], ◌∷◌, ◌++◌, length, map, take, drop, Option, Some, None, Bool, true, false, ◌&&◌, if◌then◌else◌, refl, sym, ap, ◌∙◌, arith, slice_get, slice_set, subst}
use Rattle.std.specs.Prelude.{option_map}
use Rattle.std.proofs.lemmas.Bool.{and_parts}
use Rattle.std.proofs.lemmas.List.{length-append, length-map, length-take-le, length-drop}
use Rattle.std.proofs.lemmas.Option.{same_Some}
use Rattle.c_memory.specs.declared.blocks.Block.{Block}
use Rattle.c_memory.specs.declared.memory.Pointer.{Pointer}
use Rattle.c_memory.specs.declared.memory.Pointer.TheVariants.{Null, At}
use Rattle.c_memory.specs.Memory.{reaches, overwritten, written_in, after_write, ended, ended_from}
use Rattle.c_memory.specs.Blocks.{IsLater, IsContinued}
use Rattle.c_memory.proofs.Definedness.{reaches_words}

later_same : (b : Block) → IsLater b b
later_same b = record { align = refl; writable = refl; lived = λ h. h; size = λ h. refl }

later_ended : (b : Block) → IsLater b (ended b)
later_ended b = record { align = refl; writable = refl; lived = λ h. absurd (cc); size = λ h. absurd (cc) }

overwritten_long : (all : List (Option ℕ)) (offset : ℕ) (bytes : List ℕ) → offset + length bytes ≤ length all → length (overwritten all offset bytes) ≡ length all
overwritten_long all offset bytes h =
    let front : length (take offset all) ≡ offset = length-take-le offset all (omega (arith, h)) in
    rw (length-append, length-append, front, length-map, length-drop) (omega (arith, h))

later_written : (b new : Block) (offset align : ℕ) (bytes : List ℕ) (w r : Bool) → reaches b offset align (length bytes) ≡ r
    → (if w && r then Some (record b { bytes = overwritten b.bytes offset bytes }) else None) ≡ Some new → IsLater b new
later_written b new offset align bytes true true e f =
    let inside = (reaches_words b offset align (length bytes) e).inside in
    subst (λ c. IsLater b c) (same_Some (record b { bytes = overwritten b.bytes offset bytes }) new f)
    (record { align = refl; writable = refl; lived = λ h. h; size = λ h. overwritten_long b.bytes offset bytes inside })
later_written b new offset align bytes true false e f = absurd (cc)
later_written b new offset align bytes false r e f = absurd (cc)

-- one block has become another
set_there : (m : List Block) (i k : ℕ) (b new c : Block) → slice_get m i ≡ Some b → IsLater b new → slice_get m k ≡ Some c
    → (d : Block) × (slice_get (slice_set m i new) k ≡ Some d) × IsLater c d
set_there [] i k b new c e l f = absurd (cc)
set_there (x ∷ xs) zero zero b new c e l f = (new, refl, subst (λ y. IsLater y new) (same_Some b c (sym e ∙ f)) l)
set_there (x ∷ xs) zero (suc k) b new c e l f = (c, f, later_same c)
set_there (x ∷ xs) (suc i) zero b new c e l f = (c, f, later_same c)
set_there (x ∷ xs) (suc i) (suc k) b new c e l f = set_there xs i k b new c e l f

written_there : (m : List Block) (block offset align : ℕ) (bytes : List ℕ) (found new : Option Block) (after : List Block) → slice_get m block ≡ found
    → written_in found offset align bytes ≡ new → option_map (λ b. slice_set m block b) new ≡ Some after → IsContinued m after
written_there m block offset align bytes None None after e f g = absurd (cc)
written_there m block offset align bytes None (Some new) after e f g = absurd (cc)
written_there m block offset align bytes (Some b) None after e f g = absurd (cc)
written_there m block offset align bytes (Some b) (Some new) after e f g =
    subst (λ n. IsContinued m n) (same_Some (slice_set m block new) after g)
    (λ k c h. set_there m block k b new c e (later_written b new offset align bytes b.writable (reaches b offset align (length bytes)) refl f) h)

pub write_continues : (m : List Block) (at : Pointer) (align : ℕ) (bytes : List ℕ) (after : List Block) → after_write m at align bytes ≡ Some after → IsContinued m after
write_continues m Null align bytes after e = absurd (cc)
write_continues m (At block offset) align bytes after e =
    written_there m block offset align bytes (slice_get m block) (written_in (slice_get m block) offset align bytes) after refl refl e

end_there : (m : List Block) (s k : ℕ) (c : Block) → slice_get m k ≡ Some c → (d : Block) × (slice_get (ended_from s m) k ≡ Some d) × IsLater c d
end_there [] s k c f = absurd (cc)
end_there (x ∷ xs) zero zero c f = (ended x, refl, subst (λ y. IsLater y (ended x)) (same_Some x c f) (later_ended x))
end_there (x ∷ xs) zero (suc k) c f = end_there xs zero k c f
end_there (x ∷ xs) (suc s) zero c f = (c, f, later_same c)
end_there (x ∷ xs) (suc s) (suc k) c f = end_there xs s k c f

pub end_continues : (m : List Block) (s : ℕ) → IsContinued m (ended_from s m)
end_continues m s = λ k c f. end_there m s k c f

begin_there : (m more : List Block) (k : ℕ) (c : Block) → slice_get m k ≡ Some c → slice_get (m ++ more) k ≡ Some c
begin_there [] more k c f = absurd (cc)
begin_there (x ∷ xs) more zero c f = f
begin_there (x ∷ xs) more (suc k) c f = begin_there xs more k c f

pub begin_continues : (m more : List Block) → IsContinued m (m ++ more)
begin_continues m more = λ k c f. (c, begin_there m more k c f, later_same c)
