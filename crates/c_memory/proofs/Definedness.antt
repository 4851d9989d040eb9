-- What `bytes_read` and `after_write` give is defined exactly where the rule says.
use Rattle.std.proofs.Common.{◌≡◌, ℕ, zero, suc, ◌+◌, ◌<◌, ◌≤◌, ◌%◌, ◌==◌, List, [], ◌∷◌, length, take, drop, get_or, Option, Some, None, Bool, true, false, ◌&&◌, nat_le, refl, sym, ap, ◌∙◌, arith, slice_get, slice_set, zero-add, subst}
use Rattle.std.specs.Prelude.{IsSome, IsTrue, ◌↔◌, option_map, if◌then◌else◌}
use Rattle.std.proofs.lemmas.List.{set-get_or, length-take, length-drop}
use Rattle.std.proofs.lemmas.Bool.{and_parts}
use Rattle.std.proofs.lemmas.Option.{same_Some, slice_get_read}
use Rattle.c_memory.specs.declared.blocks.Block.{Block}
use Rattle.c_memory.specs.declared.memory.Pointer.{Pointer}
use Rattle.c_memory.specs.declared.memory.Pointer.TheVariants.{Null, At}
use Rattle.c_memory.specs.Memory.{reaches, set_bytes, read_in, bytes_read, overwritten, written_in, after_write}
use Rattle.c_memory.specs.Defined.{Reaches, IsDefinedRead, IsDefinedWrite, Leaves}

-- one block of a memory is left as the block is
leaves_at : (due : Option Block) (blocks : List Block) (i : ℕ) (old : Block) (answer : Option (Unit {0})) (new : Block)
    → old ≡ get_or blocks i old → Leaves due old answer new → Leaves (option_map (λ b. slice_set blocks i b) due) blocks answer (slice_set blocks i new)
leaves_at (Some b) blocks i old answer new e h = (h.0, ap (λ b. slice_set blocks i b) h.1)
leaves_at None blocks i old answer new e h = (h.0, ap (λ b. slice_set blocks i b) (h.1 ∙ e) ∙ set-get_or blocks i old)

pub block_left : (blocks : List Block) (i offset align : ℕ) (bytes : List ℕ) (old : Block) (answer : Option (Unit {0})) (new : Block)
    → i < length blocks → old ≡ get_or blocks i old → Leaves (written_in (Some old) offset align bytes) old answer new
    → Leaves (after_write blocks (At i offset) align bytes) blocks answer (slice_set blocks i new)
block_left blocks i offset align bytes old answer new h e l =
    rw (slice_get_read blocks (length blocks) i old refl h e) (leaves_at (written_in (Some old) offset align bytes) blocks i old answer new e l)

-- a call answers exactly where something is due
pub answers_due : {A : Type 0} (due : Option A) (old : A) (answer : Option (Unit {0})) (new : A) → Leaves due old answer new → IsSome answer ↔ IsSome due
answers_due (Some a) old answer new h = rw h.0 ((λ _. refl), (λ _. refl))
answers_due None old answer new h = rw h.0 ((λ x. x), (λ x. x))

-- the test and the words agree
pub reaches_words : (b : Block) (offset align size : ℕ) → reaches b offset align size ≡ true → Reaches b offset align size
reaches_words b offset align size h =
    let p = and_parts b.alive _ h in
    let q = and_parts (nat_le (offset + size) (length b.bytes)) _ p.1 in
    let r = and_parts (nat_le align b.align) _ q.1 in
    record { lives = p.0; inside = grind (arith, q.0); aligned_block = grind (arith, r.0); aligned_offset = grind (arith, r.1) }

pub words_reach : (b : Block) (offset align size : ℕ) → Reaches b offset align size → reaches b offset align size ≡ true
words_reach b offset align size h =
    let inside : nat_le (offset + size) (length b.bytes) ≡ true = grind (arith, h.inside) in
    let block : nat_le align b.align ≡ true = grind (arith, h.aligned_block) in
    let place : (offset % align == 0) ≡ true = grind (arith, h.aligned_offset) in
    rw (inside, block, place, h.lives) refl

-- the bytes of a part are there exactly where each of them is set
first_set : (x : ℕ) (o : Option (List ℕ)) (read : List ℕ) (at : Option (Option ℕ)) → option_map (λ bytes. x ∷ bytes) o ≡ Some read
    → ((bytes : List ℕ) → o ≡ Some bytes → (byte : ℕ) × (at ≡ Some (Some byte))) → (byte : ℕ) × (at ≡ Some (Some byte))
first_set x (Some bytes) read at e h = h bytes refl
first_set x None read at e h = absurd (cc)

each_set : (bytes : List (Option ℕ)) (read : List ℕ) → set_bytes bytes ≡ Some read → (k : ℕ) → k < length bytes → (byte : ℕ) × (slice_get bytes k ≡ Some (Some byte))
each_set [] read e k h = absurd (omega arith)
each_set (None ∷ rest) read e k h = absurd (cc)
each_set (Some x ∷ rest) read e zero h = (x, refl)
each_set (Some x ∷ rest) read e (suc k) h = first_set x (set_bytes rest) read (slice_get rest k) e (λ bytes f. each_set rest bytes f k (omega (arith, h)))

all_set : (bytes : List (Option ℕ)) → ((k : ℕ) → k < length bytes → (byte : ℕ) × (slice_get bytes k ≡ Some (Some byte))) → (read : List ℕ) × (set_bytes bytes ≡ Some read)
all_set [] h = ([], refl)
all_set (None ∷ rest) h = absurd (let e = (h 0 (omega arith)).1 in cc)
all_set (Some x ∷ rest) h =
    let r = all_set rest (λ k l. h (suc k) (omega arith)) in
    (x ∷ r.0, rw r.1 refl)

-- a byte of a part is one of the whole
in_front : (bytes : List (Option ℕ)) (size k : ℕ) → k < size → slice_get (take size bytes) k ≡ slice_get bytes k
in_front bytes zero k h = absurd (omega (arith, h))
in_front [] (suc size) k h = refl
in_front (x ∷ rest) (suc size) zero h = refl
in_front (x ∷ rest) (suc size) (suc k) h = in_front rest size k (omega (arith, h))

in_rest : (bytes : List (Option ℕ)) (offset k : ℕ) → slice_get (drop offset bytes) k ≡ slice_get bytes (offset + k)
in_rest bytes zero k = rw (zero-add k) refl
in_rest [] (suc offset) k = refl
in_rest (x ∷ rest) (suc offset) k = let e : suc offset + k ≡ suc (offset + k) = omega arith in rw e (in_rest rest offset k)

in_part : (bytes : List (Option ℕ)) (offset size k : ℕ) → k < size → slice_get (take size (drop offset bytes)) k ≡ slice_get bytes (offset + k)
in_part bytes offset size k h = in_front (drop offset bytes) size k h ∙ in_rest bytes offset k

part_long : (bytes : List (Option ℕ)) (offset size : ℕ) → offset + size ≤ length bytes → length (take size (drop offset bytes)) ≡ size
part_long bytes offset size h = rw (length-take, length-drop) (omega (arith, h))

abbrev EachSet : List (Option ℕ) → ℕ → ℕ → Type 0
EachSet bytes offset size = (k : ℕ) → k < size → (byte : ℕ) × (slice_get bytes (offset + k) ≡ Some (Some byte))

part_set : (bytes : List (Option ℕ)) (offset size : ℕ) → offset + size ≤ length bytes
    → IsSome (set_bytes (take size (drop offset bytes))) ↔ EachSet bytes offset size
part_set bytes offset size inside = (to _ refl, from)
  where
    part : List (Option ℕ)
    part = take size (drop offset bytes)

    to : (o : Option (List ℕ)) → set_bytes part ≡ o → IsSome o → EachSet bytes offset size
    to None e h = absurd (cc)
    to (Some read) e h = λ k l.
        let r = each_set part read e k (rw (part_long bytes offset size inside) l) in
        (r.0, sym (in_part bytes offset size k l) ∙ r.1)

    from : EachSet bytes offset size → IsSome (set_bytes part)
    from h =
        let r = all_set part (λ k l.
        let below : k < size = rw (part_long bytes offset size inside) at l in
        let s = h k below in
        (s.0, in_part bytes offset size k below ∙ s.1)) in
        rw r.1 refl

-- in a block
read_there : (b : Block) (offset align size : ℕ) (r : Bool) → reaches b offset align size ≡ r
    → IsSome (if r then set_bytes (take size (drop offset b.bytes)) else None) ↔ (Reaches b offset align size × EachSet b.bytes offset size)
read_there b offset align size true e =
    let place = reaches_words b offset align size e in
    let both = part_set b.bytes offset size place.inside in
    ((λ h. (place, both.0 h)), (λ h. both.1 h.1))
read_there b offset align size false e =
    ((λ h. absurd (cc)), (λ h. let t = words_reach b offset align size h.0 in absurd (cc)))

-- a read is defined exactly where it gives bytes
read_at : (memory : List Block) (block offset align size : ℕ) (found : Option Block) → slice_get memory block ≡ found
    → IsSome (read_in found offset align size) ↔ IsDefinedRead memory (At block offset) align size
read_at memory block offset align size None e =
    ((λ h. absurd (cc)), (λ h. let s = h.1 in absurd (cc)))
read_at memory block offset align size (Some b) e =
    let both = read_there b offset align size (reaches b offset align size) refl in
    ((λ h. let r = both.0 h in (b, e, r.0, r.1)), back)
  where
    back : IsDefinedRead memory (At block offset) align size → IsSome (read_in (Some b) offset align size)
    back h =
        let same : h.0 ≡ b = same_Some h.0 b (sym h.1 ∙ e) in
        (read_there b offset align size (reaches b offset align size) refl).1 (subst (λ c. Reaches c offset align size × EachSet c.bytes offset size) same (h.2, h.3))

pub read_defined : (memory : List Block) (at : Pointer) (align size : ℕ) → IsSome (bytes_read memory at align size) ↔ IsDefinedRead memory at align size
read_defined memory Null align size = ((λ h. absurd (cc)), (λ h. absurd h))
read_defined memory (At block offset) align size = read_at memory block offset align size (slice_get memory block) refl

write_there : (memory : List Block) (b : Block) (block offset align : ℕ) (bytes : List ℕ) (w r : Bool) → b.writable ≡ w → reaches b offset align (length bytes) ≡ r
    → IsSome (option_map (λ c. slice_set memory block c) (if w && r then Some (record b { bytes = overwritten b.bytes offset bytes }) else None))
    ↔ (Reaches b offset align (length bytes) × IsTrue b.writable)
write_there memory b block offset align bytes true true e f = ((λ h. (reaches_words b offset align (length bytes) f, e)), (λ h. refl))
write_there memory b block offset align bytes true false e f =
    ((λ h. absurd (cc)), (λ h. let t = words_reach b offset align (length bytes) h.0 in absurd (cc)))
write_there memory b block offset align bytes false r e f = ((λ h. absurd (cc)), (λ h. let t = h.1 in absurd (cc)))

write_at : (memory : List Block) (block offset align : ℕ) (bytes : List ℕ) (found : Option Block) → slice_get memory block ≡ found
    → IsSome (option_map (λ c. slice_set memory block c) (written_in found offset align bytes)) ↔ IsDefinedWrite memory (At block offset) align (length bytes)
write_at memory block offset align bytes None e =
    ((λ h. absurd (cc)), (λ h. let s = h.1 in absurd (cc)))
write_at memory block offset align bytes (Some b) e =
    let both = write_there memory b block offset align bytes b.writable (reaches b offset align (length bytes)) refl refl in (
      (λ h. let r = both.0 h in (b, e, r.0, r.1)),
      (λ h. let same : h.0 ≡ b = same_Some h.0 b (sym h.1 ∙ e) in
          both.1 (subst (λ c. Reaches c offset align (length bytes) × IsTrue c.writable) same (h.2, h.3))),
    )

-- a write is defined exactly where it leaves a memory
pub write_defined : (memory : List Block) (at : Pointer) (align : ℕ) (bytes : List ℕ) → IsSome (after_write memory at align bytes) ↔ IsDefinedWrite memory at align (length bytes)
write_defined memory Null align bytes = ((λ h. absurd (cc)), (λ h. absurd h))
write_defined memory (At block offset) align bytes = write_at memory block offset align bytes (slice_get memory block) refl

both_ways : {A B C : Type 0} → A ↔ B → B ↔ C → A ↔ C
both_ways f g = ((λ a. g.0 (f.0 a)), (λ c. f.1 (g.1 c)))

-- what `read` and `write` answer is an answer exactly where the access is defined
pub read_answers : (memory : List Block) (block offset align : ℕ) (old : List ℕ) (answer : Option (Unit {0})) (new : List ℕ)
    → Leaves (read_in (slice_get memory block) offset align (length old)) old answer new → IsSome answer ↔ IsDefinedRead memory (At block offset) align (length old)
read_answers memory block offset align old answer new h =
    both_ways (answers_due (bytes_read memory (At block offset) align (length old)) old answer new h) (read_defined memory (At block offset) align (length old))

pub write_answers : (memory : List Block) (block offset align : ℕ) (bytes : List ℕ) (answer : Option (Unit {0})) (new : List Block)
    → Leaves (after_write memory (At block offset) align bytes) memory answer new → IsSome answer ↔ IsDefinedWrite memory (At block offset) align (length bytes)
write_answers memory block offset align bytes answer new h =
    both_ways (answers_due (after_write memory (At block offset) align bytes) memory answer new h) (write_defined memory (At block offset) align bytes)
