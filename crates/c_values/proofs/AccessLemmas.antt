-- The accesses of a row one after another.
use Rattle.std.proofs.Common.{◌≡◌, ℕ, ◌+◌, ◌-◌, ◌≤◌, ◌<◌, List, [], ◌∷◌, ◌++◌, length, take, drop, filter, Option, Some, None, Bool, true, false, not, if◌then◌else◌, refl, sym, ap, ◌∙◌, subst, arith, slice_index_or, add-one}
use Rattle.std.specs.Prelude.{option_map, slice_get, nat_le, nat_lt, ◌&&◌, ℤ, pos}
use Rattle.std.specs.Option.{option_and_then}
use Rattle.std.proofs.lemmas.Bool.{and_parts}
use Rattle.std.proofs.lemmas.List.{length-take, length-drop, drop-drop}
use Rattle.std.proofs.Math.Seq.{drop-cons}
use Rattle.lane_core.specs.declared.table.Access.{Access}
use Rattle.c_memory.specs.declared.blocks.Block.{Block}
use Rattle.c_memory.specs.declared.memory.Pointer.{Pointer}
use Rattle.c_memory.specs.declared.memory.Pointer.TheVariants.{Null, At}
use Rattle.c_memory.specs.Memory.{reaches, read_in, bytes_read}
use Rattle.c_memory.specs.Defined.{Leaves}
use Rattle.c_memory.specs.MeaningValues.{at_distance, in_block, moved}
use Rattle.c_memory.specs.MeaningRows.{is_alignment, is_access, access_at, put, read_one, read_each, write_one, write_each}
use Rattle.c_values.specs.Results.{Gives}
use Rattle.c_values.specs.Accesses.{read_into, read_next, reads_in, write_next, writes_in}
use Rattle.c_values.proofs.ByteLemmas.{read_long}

-- a read beyond a block's end is none
no_reach : (b : Block) (n align size : ℕ) (alive : Bool) → b.alive ≡ alive → (alive && not (nat_lt (length b.bytes) n)) ≡ false → reaches b n align size ≡ false
no_reach b n align size false e f = rw e refl
no_reach b n align size true e f = let out : nat_le (n + size) (length b.bytes) ≡ false = grind (arith, f) in rw (e, out) refl

there_moved : (memory : List Block) (block n align size : ℕ) (b : Block) (c : Bool) → slice_get memory block ≡ Some b → (b.alive && not (nat_lt (length b.bytes) n)) ≡ c
    → read_in (Some b) n align size ≡ option_and_then (λ q. bytes_read memory q align size) (if c then Some (At block n) else None)
there_moved memory block n align size b true e f = rw e refl
there_moved memory block n align size b false e f = rw (no_reach b n align size b.alive refl f) refl

found_moved : (memory : List Block) (block n align size : ℕ) (found : Option Block) → slice_get memory block ≡ found
    → read_in found n align size ≡ option_and_then (λ q. bytes_read memory q align size) (in_block found block n)
found_moved memory block n align size None e = refl
found_moved memory block n align size (Some b) e = there_moved memory block n align size b (b.alive && not (nat_lt (length b.bytes) n)) e refl

at_moved : (memory : List Block) (block align size : ℕ) (o : Option ℕ) →
    option_and_then (λ q. bytes_read memory q align size) (option_map (At block) o)
    ≡ option_and_then (λ q. bytes_read memory q align size) (option_and_then (in_block (slice_get memory block) block) o)
at_moved memory block align size None = refl
at_moved memory block align size (Some n) = found_moved memory block n align size (slice_get memory block) refl

-- a read at a distance is one where the pointer has moved
read_moved : (memory : List Block) (p : Pointer) (distance : ℤ) (align size : ℕ) →
    option_and_then (λ q. bytes_read memory q align size) (access_at p distance) ≡ option_and_then (λ q. bytes_read memory q align size) (moved memory p distance)
read_moved memory Null distance align size = refl
read_moved memory (At block offset) distance align size = at_moved memory block align size (at_distance offset distance)

-- the bytes read in their place
put_due : (due : Option (List ℕ)) (old new r : List ℕ) (at size : ℕ) (answer : Option (Unit {0})) → ((bytes : List ℕ) → due ≡ Some bytes → length bytes ≡ size)
    → Leaves due old answer new → Gives (option_map (put r at) due) answer (take at r ++ (new ++ drop size (drop at r)))
put_due None old new r at size answer long h = h.0
put_due (Some bytes) old new r at size answer long h =
    let same : new ≡ bytes = h.1 in
    (h.0, rw (same, long bytes refl, drop-drop) refl)

pub read_placed : (memory : List Block) (p place : Pointer) (a : Access) (r new : List ℕ) (answer : Option (Unit {0})) → is_access (length r) a ≡ true → moved memory p a.offset ≡ Some place
    → Leaves (bytes_read memory place a.align (length (take (a.at + a.size - a.at) (drop a.at r)))) (take (a.at + a.size - a.at) (drop a.at r)) answer new
    → Gives (read_into memory p a r) answer (take a.at r ++ (new ++ drop (a.at + a.size - a.at) (drop a.at r)))
read_placed memory p place a r new answer e f h =
    let whole : a.at + a.size - a.at ≡ a.size = omega arith in
    let k : nat_le (a.at + a.size) (length r) ≡ true = (and_parts (is_alignment a.align) _ e).1 in
    let inside : a.at + a.size ≤ length r = grind (arith, k) in
    let size : length (take a.size (drop a.at r)) ≡ a.size = rw (length-take, length-drop) (omega (arith, inside)) in
    let P : ℕ → Type 0 = λ n. Leaves (bytes_read memory place a.align n) (take a.size (drop a.at r)) answer new in
    let leaves : P a.size = subst P size (rw whole at h) in
    let one : read_one (length r) memory p a ≡ bytes_read memory place a.align a.size = rw (e, read_moved memory p a.offset a.align a.size, f) refl in
    rw (whole, one) (put_due (bytes_read memory place a.align a.size) (take a.size (drop a.at r)) new r a.at a.size answer (read_long memory place a.align a.size) leaves)

-- a step that gives something goes on, and else there is no answer
goes_on : {A : Type 0} (due : Option A) (f : A → Option A) (answer : Option (Unit {0})) (u : Unit {0}) (new : A) → Gives due answer new → answer ≡ Some u → option_and_then f due ≡ f new
goes_on None f answer u new h e = absurd (let k : answer ≡ None = h in cc)
goes_on (Some due) f answer u new h e = ap f (sym h.1)

gives_none : {A : Type 0} (due : Option A) (f : A → Option A) (answer : Option (Unit {0})) (new : A) → Gives due answer new → answer ≡ None → option_and_then f due ≡ None
gives_none None f answer new h e = refl
gives_none (Some due) f answer new h e = absurd (let k : answer ≡ Some tt = h.0 in cc)

-- the loops' turns
abbrev pub no_access : Access
no_access = record { offset = pos 0; size = 0; align = 0; write = false; at = 0 }

reads_step : (memory : List Block) (p : Pointer) (all : List Access) (i : ℕ) (r : List ℕ) → i < length all
    → reads_in memory p (drop i all) r ≡ option_and_then (reads_in memory p (drop (i + 1) all)) (read_next memory p (slice_index_or all i no_access) r)
reads_step memory p all i r h = rw (add-one, drop-cons all i no_access) refl

pub reads_on : (memory : List Block) (p : Pointer) (all : List Access) (i : ℕ) (r new : List ℕ) (answer : Option (Unit {0})) (u : Unit {0}) → i < length all
    → Gives (read_next memory p (slice_index_or all i no_access) r) answer new → answer ≡ Some u → reads_in memory p (drop i all) r ≡ reads_in memory p (drop (i + 1) all) new
reads_on memory p all i r new answer u h g e =
    reads_step memory p all i r h ∙ goes_on (read_next memory p (slice_index_or all i no_access) r) (reads_in memory p (drop (i + 1) all)) answer u new g e

pub reads_end : (memory : List Block) (p : Pointer) (all : List Access) (i : ℕ) (r new : List ℕ) (answer : Option (Unit {0})) → i < length all
    → Gives (read_next memory p (slice_index_or all i no_access) r) answer new → answer ≡ None → reads_in memory p (drop i all) r ≡ None
reads_end memory p all i r new answer h g e =
    reads_step memory p all i r h ∙ gives_none (read_next memory p (slice_index_or all i no_access) r) (reads_in memory p (drop (i + 1) all)) answer new g e

writes_step : (p : Pointer) (r : List ℕ) (all : List Access) (i : ℕ) (memory : List Block) → i < length all
    → writes_in p r (drop i all) memory ≡ option_and_then (writes_in p r (drop (i + 1) all)) (write_next p r (slice_index_or all i no_access) memory)
writes_step p r all i memory h = rw (add-one, drop-cons all i no_access) refl

pub writes_on : (p : Pointer) (r : List ℕ) (all : List Access) (i : ℕ) (memory new : List Block) (answer : Option (Unit {0})) (u : Unit {0}) → i < length all
    → Gives (write_next p r (slice_index_or all i no_access) memory) answer new → answer ≡ Some u → writes_in p r (drop i all) memory ≡ writes_in p r (drop (i + 1) all) new
writes_on p r all i memory new answer u h g e =
    writes_step p r all i memory h ∙ goes_on (write_next p r (slice_index_or all i no_access) memory) (writes_in p r (drop (i + 1) all)) answer u new g e

pub writes_end : (p : Pointer) (r : List ℕ) (all : List Access) (i : ℕ) (memory new : List Block) (answer : Option (Unit {0})) → i < length all
    → Gives (write_next p r (slice_index_or all i no_access) memory) answer new → answer ≡ None → writes_in p r (drop i all) memory ≡ None
writes_end p r all i memory new answer h g e =
    writes_step p r all i memory h ∙ gives_none (write_next p r (slice_index_or all i no_access) memory) (writes_in p r (drop (i + 1) all)) answer new g e

-- the reading and the writing ones of the accesses in turn
reads_rest : (memory : List Block) (p : Pointer) (a : Access) (rest : List Access) (r : List ℕ) (o : Option (List ℕ))
    → ((s : List ℕ) → reads_in memory p rest s ≡ read_each memory p (filter (λ b. not b.write) rest) s)
    → option_and_then (reads_in memory p rest) (option_map (put r a.at) o) ≡ option_and_then (λ bytes. read_each memory p (filter (λ b. not b.write) rest) (put r a.at bytes)) o
reads_rest memory p a rest r None h = refl
reads_rest memory p a rest r (Some bytes) h = h (put r a.at bytes)

reads_either : (memory : List Block) (p : Pointer) (a : Access) (rest : List Access) (r : List ℕ) (w : Bool)
    → ((s : List ℕ) → reads_in memory p rest s ≡ read_each memory p (filter (λ b. not b.write) rest) s)
    → option_and_then (reads_in memory p rest) (if w then Some r else read_into memory p a r)
    ≡ read_each memory p (if not w then a ∷ filter (λ b. not b.write) rest else filter (λ b. not b.write) rest) r
reads_either memory p a rest r true h = h r
reads_either memory p a rest r false h = reads_rest memory p a rest r (read_one (length r) memory p a) h

pub reads_filtered : (memory : List Block) (p : Pointer) (all : List Access) (r : List ℕ) → reads_in memory p all r ≡ read_each memory p (filter (λ a. not a.write) all) r
reads_filtered memory p [] r = refl
reads_filtered memory p (a ∷ rest) r = reads_either memory p a rest r a.write (reads_filtered memory p rest)

writes_rest : (p : Pointer) (r : List ℕ) (rest : List Access) (o : Option (List Block))
    → ((m : List Block) → writes_in p r rest m ≡ write_each p r (filter (λ b. b.write) rest) m)
    → option_and_then (writes_in p r rest) o ≡ option_and_then (write_each p r (filter (λ b. b.write) rest)) o
writes_rest p r rest None h = refl
writes_rest p r rest (Some m) h = h m

writes_either : (p : Pointer) (r : List ℕ) (a : Access) (rest : List Access) (memory : List Block) (w : Bool)
    → ((m : List Block) → writes_in p r rest m ≡ write_each p r (filter (λ b. b.write) rest) m)
    → option_and_then (writes_in p r rest) (if w then write_one p r a memory else Some memory)
    ≡ write_each p r (if w then a ∷ filter (λ b. b.write) rest else filter (λ b. b.write) rest) memory
writes_either p r a rest memory true h = writes_rest p r rest (write_one p r a memory) h
writes_either p r a rest memory false h = h memory

pub writes_filtered : (p : Pointer) (r : List ℕ) (all : List Access) (memory : List Block) → writes_in p r all memory ≡ write_each p r (filter (λ a. a.write) all) memory
writes_filtered p r [] memory = refl
writes_filtered p r (a ∷ rest) memory = writes_either p r a rest memory a.write (writes_filtered p r rest)
