-- What loads and stores of both sides do to memory.
use Rattle.std.proofs.Common.{◌≡◌, ℕ, ◌+◌, ◌%◌, ◌==◌, List, [], ◌∷◌, Bool, true, false, Option, Some, None, refl, sym, ap, ◌∙◌, arith, replicate, pos, take, drop, length}
use Rattle.std.proofs.lemmas.Bool.{leb-true, le-leb}
use Rattle.std.specs.Prelude.{◌≤◌, ◌&&◌, nat_le, slice_get, slice_set, option_map, if◌then◌else◌}
use Rattle.std.specs.Option.{option_and_then}
use Rattle.c_memory.specs.declared.blocks.Block.{Block}
use Rattle.c_memory.specs.declared.memory.Pointer.{Pointer}
use Rattle.c_memory.specs.declared.memory.Pointer.TheVariants.{Null, At}
use Rattle.c_memory.specs.declared.value.Value.{Value}
use Rattle.c_memory.specs.Memory.{reaches, set_bytes, read_in, bytes_read, overwritten, written_in, after_write}
use Rattle.c_memory.specs.MeaningValues.{at_distance}
use Rattle.c_memory.specs.MeaningRows.{RowTable, rows_of, row_result, access_at, put}
use Rattle.intel_forms.specs.Forms as forms
use Rattle.intel_forms.specs.declared.forms.Form.{Form}
use Rattle.intel_forms.specs.declared.forms.Form.TheVariants as form
use Rattle.intel_forms.specs.declared.memory.Memory.TheVariants as row
use Rattle.intel_forms.specs.declared.sizes.Size.TheVariants.{Xmm}
use Rattle.intel_table.specs.declared.IntelOp.{IntelOp}
use Rattle.intel_table.specs.Rows.{find_of, form_of}
use Rattle.neon_move.specs.declared.MoveOp.TheVariants.{Bytes}
use Rattle.neon_move.specs.declared.bytes.Bytes.TheVariants.{Vld1qU8, Vst1qU8}
use Rattle.neon_table.specs.Rows.{of_move}
use Rattle.seq_core.specs.Terms.{Param, Sequence}
use Rattle.seq_core.specs.Actions.{sequence_in}
use Rattle.seq_memory.specs.Plans.{one, two, reading, storing}
use Rattle.seq_memory.specs.Claims.{table, Asked}

-- the claim for a row without a constant
abbrev pub Directly : IntelOp → Sequence → Type 0
Directly op q = (vs : List Value) (memory after : List Block) (o : Option Value) → Asked (form_of op) 0 vs → row_result table op vs memory ≡ Some (o, after) → sequence_in q vs memory ≡ Some (o, after)

pub split_and : (a b : Bool) → (a && b) ≡ true → (a ≡ true) × (b ≡ true)
split_and true b h = (refl, h)
split_and false b h = absurd (grind (arith, h))

at_least_one : (n : ℕ) → nat_le 16 n ≡ true → nat_le 1 n ≡ true
at_least_one n h = let most : 16 ≤ n = leb-true 16 n h in le-leb 1 n (omega (arith, most))

-- an access that may be made with an alignment may be made with none
reaches_any : (b : Block) (offset size : ℕ) → reaches b offset 16 size ≡ true → reaches b offset 1 size ≡ true
reaches_any b offset size h =
    let lives = split_and b.alive (nat_le (offset + size) (length b.bytes) && (nat_le 16 b.align && offset % 16 == 0)) h in
    let inside = split_and (nat_le (offset + size) (length b.bytes)) (nat_le 16 b.align && offset % 16 == 0) lives.1 in
    let aligned = split_and (nat_le 16 b.align) (offset % 16 == 0) inside.1 in
    let whole : offset % 1 ≡ 0 = omega arith in
    rw (lives.0, inside.0, at_least_one b.align aligned.0, whole) refl

read_any : (b : Option Block) (offset size : ℕ) (bytes : List ℕ) → read_in b offset 16 size ≡ Some bytes → read_in b offset 1 size ≡ Some bytes
read_any None offset size bytes h = absurd (grind (arith, h))
read_any (Some b) offset size bytes h = by_test (reaches b offset 16 size) refl h
  where
    by_test : (t : Bool) → reaches b offset 16 size ≡ t → (if t then set_bytes (take size (drop offset b.bytes)) else None) ≡ Some bytes → read_in (Some b) offset 1 size ≡ Some bytes
    by_test true e g = rw (reaches_any b offset size e) g
    by_test false e g = absurd (grind (arith, g))

write_any : (b : Option Block) (offset : ℕ) (bytes : List ℕ) (after : Block) → written_in b offset 16 bytes ≡ Some after → written_in b offset 1 bytes ≡ Some after
write_any None offset bytes after h = absurd (grind (arith, h))
write_any (Some b) offset bytes after h = by_test (b.writable && reaches b offset 16 (length bytes)) refl h
  where
    by_test : (t : Bool) → (b.writable && reaches b offset 16 (length bytes)) ≡ t → (if t then Some (record b { bytes = overwritten b.bytes offset bytes }) else None) ≡ Some after → written_in (Some b) offset 1 bytes ≡ Some after
    by_test true e g =
        let parts = split_and b.writable (reaches b offset 16 (length bytes)) e in
        let both : (b.writable && reaches b offset 1 (length bytes)) ≡ true = rw (parts.0, reaches_any b offset (length bytes) parts.1) refl in
        ap (λ t. if t then Some (record b { bytes = overwritten b.bytes offset bytes }) else None) both ∙ g
    by_test false e g = absurd (grind (arith, g))

-- what a row reads at its pointer, and what it leaves that writes there
abbrev read_there : List Block → Pointer → ℕ → Option (List ℕ)
read_there memory p align = option_and_then (λ q. bytes_read memory q align 16) (access_at p (pos 0))

abbrev wrote_there : List Block → Pointer → ℕ → List ℕ → Option (List Block)
wrote_there memory p align bytes = option_and_then (λ q. after_write memory q align bytes) (access_at p (pos 0))

read_there_any : (memory : List Block) (p : Pointer) (bytes : List ℕ) → read_there memory p 16 ≡ Some bytes → read_there memory p 1 ≡ Some bytes
read_there_any memory Null bytes h = absurd (grind (arith, h))
read_there_any memory (At block offset) bytes h = there (at_distance offset (pos 0)) h
  where
    there : (o : Option ℕ) → option_and_then (λ q. bytes_read memory q 16 16) (option_map (At block) o) ≡ Some bytes → option_and_then (λ q. bytes_read memory q 1 16) (option_map (At block) o) ≡ Some bytes
    there None g = absurd (grind (arith, g))
    there (Some o) g = read_any (slice_get memory block) o 16 bytes g

wrote_there_any : (memory : List Block) (p : Pointer) (bytes : List ℕ) (after : List Block) → wrote_there memory p 16 bytes ≡ Some after → wrote_there memory p 1 bytes ≡ Some after
wrote_there_any memory Null bytes after h = absurd (grind (arith, h))
wrote_there_any memory (At block offset) bytes after h = there (at_distance offset (pos 0)) h
  where
    in_block : (o : ℕ) (b : Option Block) → written_in (slice_get memory block) o 16 bytes ≡ b → option_map (λ b. slice_set memory block b) b ≡ Some after → option_map (λ b. slice_set memory block b) (written_in (slice_get memory block) o 1 bytes) ≡ Some after
    in_block o None e g = absurd (grind (arith, g))
    in_block o (Some b) e g = rw (write_any (slice_get memory block) o bytes b e) g

    there : (o : Option ℕ) → option_and_then (λ q. after_write memory q 16 bytes) (option_map (At block) o) ≡ Some after → option_and_then (λ q. after_write memory q 1 bytes) (option_map (At block) o) ≡ Some after
    there None g = absurd (grind (arith, g))
    there (Some o) g = in_block o (written_in (slice_get memory block) o 16 bytes) refl g

-- what a load gives for the bytes that are there, and what a store leaves
abbrev loaded : List Block → Option (List ℕ) → Option (Option Value × List Block)
loaded memory x = option_map (λ bytes. (Some (Value.R16 (put (replicate 16 0) 0 bytes)), memory)) x

abbrev pub stored : Option (List Block) → Option (Option Value × List Block)
stored x = option_map (λ after. (None, after)) x

abbrev alignment : Bool → ℕ
alignment aligned = if aligned then 16 else 1

-- the table's row as one of its form: nothing else of the row is looked at
abbrev pub formed : Form → RowTable IntelOp
formed f = rows_of find_of (λ op. forms.signature_of f) (λ op. forms.range_of f) (λ op. forms.accesses_of f) (λ op. forms.access_of f) (λ op. forms.value_of f)

pub by_form : (op : IntelOp) (f : Form) → form_of op ≡ f → (vs : List Value) (memory : List Block) → row_result table op vs memory ≡ row_result (formed f) op vs memory
by_form op f e vs memory = ap (λ g. row_result (formed g) op vs memory) e

load_of : (op : IntelOp) (aligned : Bool) (p : Pointer) (memory : List Block) (x : Option (List ℕ)) → read_there memory p (alignment aligned) ≡ x → row_result (formed (form.Memory (row.Load Xmm aligned))) op (Value.At p ∷ []) memory ≡ loaded memory x
load_of op true p memory None h = rw h refl
load_of op true p memory (Some r) h = rw h refl
load_of op false p memory None h = rw h refl
load_of op false p memory (Some r) h = rw h refl

intel_load : (op : IntelOp) (aligned : Bool) → form_of op ≡ form.Memory (row.Load Xmm aligned) → (p : Pointer) (memory : List Block) (x : Option (List ℕ)) → read_there memory p (alignment aligned) ≡ x
    → row_result table op (Value.At p ∷ []) memory ≡ loaded memory x
intel_load op aligned e p memory x h = by_form op (form.Memory (row.Load Xmm aligned)) e (Value.At p ∷ []) memory ∙ load_of op aligned p memory x h

neon_load : (p : Pointer) (memory : List Block) (x : Option (List ℕ)) → read_there memory p 1 ≡ x → sequence_in (reading (one (of_move (Bytes Vld1qU8)) (Param 0))) (Value.At p ∷ []) memory ≡ loaded memory x
neon_load p memory None h = rw h refl
neon_load p memory (Some r) h = rw h refl

store_of : (op : IntelOp) (aligned : Bool) (p : Pointer) (r : List ℕ) (memory : List Block) (x : Option (List Block)) → nat_le 16 (length r) ≡ true → wrote_there memory p (alignment aligned) (take 16 (drop 0 r)) ≡ x
    → row_result (formed (form.Memory (row.Store Xmm aligned))) op (Value.At p ∷ Value.R16 r ∷ []) memory ≡ stored x
store_of op true p r memory None n h = rw (n, h) refl
store_of op true p r memory (Some m) n h = rw (n, h) refl
store_of op false p r memory None n h = rw (n, h) refl
store_of op false p r memory (Some m) n h = rw (n, h) refl

short_of : (op : IntelOp) (aligned : Bool) (p : Pointer) (r : List ℕ) (memory : List Block) → nat_le 16 (length r) ≡ false → row_result (formed (form.Memory (row.Store Xmm aligned))) op (Value.At p ∷ Value.R16 r ∷ []) memory ≡ None
short_of op true p r memory n = rw n refl
short_of op false p r memory n = rw n refl

intel_store : (op : IntelOp) (aligned : Bool) → form_of op ≡ form.Memory (row.Store Xmm aligned) → (p : Pointer) (r : List ℕ) (memory : List Block) (x : Option (List Block)) → nat_le 16 (length r) ≡ true
    → wrote_there memory p (alignment aligned) (take 16 (drop 0 r)) ≡ x → row_result table op (Value.At p ∷ Value.R16 r ∷ []) memory ≡ stored x
intel_store op aligned e p r memory x n h = by_form op (form.Memory (row.Store Xmm aligned)) e (Value.At p ∷ Value.R16 r ∷ []) memory ∙ store_of op aligned p r memory x n h

intel_short : (op : IntelOp) (aligned : Bool) → form_of op ≡ form.Memory (row.Store Xmm aligned) → (p : Pointer) (r : List ℕ) (memory : List Block) → nat_le 16 (length r) ≡ false → row_result table op (Value.At p ∷ Value.R16 r ∷ []) memory ≡ None
intel_short op aligned e p r memory n = by_form op (form.Memory (row.Store Xmm aligned)) e (Value.At p ∷ Value.R16 r ∷ []) memory ∙ short_of op aligned p r memory n

neon_store : (p : Pointer) (r : List ℕ) (memory : List Block) (x : Option (List Block)) → nat_le 16 (length r) ≡ true → wrote_there memory p 1 (take 16 (drop 0 r)) ≡ x
    → sequence_in (storing (two (of_move (Bytes Vst1qU8)) (Param 0) (Param 1))) (Value.At p ∷ Value.R16 r ∷ []) memory ≡ stored x
neon_store p r memory None n h = rw (n, h) refl
neon_store p r memory (Some m) n h = rw (n, h) refl

pub apart : {A : Type 0} {B : Type 0} (x : Option A) (y : A) → x ≡ None → x ≡ Some y → B
apart x y n h = absurd (grind (arith, n, h))

pub loads : (op : IntelOp) (aligned : Bool) → form_of op ≡ form.Memory (row.Load Xmm aligned) → Directly op (reading (one (of_move (Bytes Vld1qU8)) (Param 0)))
loads op aligned e (Value.At p ∷ []) memory after o a h = by_read (read_there memory p (alignment aligned)) refl
  where
    at_any : (aligned : Bool) (bytes : List ℕ) → read_there memory p (alignment aligned) ≡ Some bytes → read_there memory p 1 ≡ Some bytes
    at_any true bytes k = read_there_any memory p bytes k
    at_any false bytes k = k

    by_read : (x : Option (List ℕ)) → read_there memory p (alignment aligned) ≡ x → sequence_in (reading (one (of_move (Bytes Vld1qU8)) (Param 0))) (Value.At p ∷ []) memory ≡ Some (o, after)
    by_read None k = apart _ (o, after) (intel_load op aligned e p memory None k) h
    by_read (Some bytes) k = neon_load p memory (Some bytes) (at_any aligned bytes k) ∙ sym (intel_load op aligned e p memory (Some bytes) k) ∙ h
loads op aligned e [] memory after o k h = apart (row_result table op [] memory) (o, after) (rw e refl) h
loads op aligned e (Value.Int n ∷ vs) memory after o k h = apart (row_result table op (Value.Int n ∷ vs) memory) (o, after) (rw e refl) h
loads op aligned e (Value.R8 r ∷ vs) memory after o k h = apart (row_result table op (Value.R8 r ∷ vs) memory) (o, after) (rw e refl) h
loads op aligned e (Value.R16 r ∷ vs) memory after o k h = apart (row_result table op (Value.R16 r ∷ vs) memory) (o, after) (rw e refl) h
loads op aligned e (Value.R32 r ∷ vs) memory after o k h = apart (row_result table op (Value.R32 r ∷ vs) memory) (o, after) (rw e refl) h
loads op aligned e (Value.At p ∷ v ∷ vs) memory after o k h = apart (row_result table op (Value.At p ∷ v ∷ vs) memory) (o, after) (rw e refl) h

pub stores : (op : IntelOp) (aligned : Bool) → form_of op ≡ form.Memory (row.Store Xmm aligned) → Directly op (storing (two (of_move (Bytes Vst1qU8)) (Param 0) (Param 1)))
stores op aligned e (Value.At p ∷ Value.R16 r ∷ []) memory after o a h = by_size (nat_le 16 (length r)) refl
  where
    at_any : (aligned : Bool) (m : List Block) → wrote_there memory p (alignment aligned) (take 16 (drop 0 r)) ≡ Some m → wrote_there memory p 1 (take 16 (drop 0 r)) ≡ Some m
    at_any true m k = wrote_there_any memory p (take 16 (drop 0 r)) m k
    at_any false m k = k

    by_write : nat_le 16 (length r) ≡ true → (x : Option (List Block)) → wrote_there memory p (alignment aligned) (take 16 (drop 0 r)) ≡ x
        → sequence_in (storing (two (of_move (Bytes Vst1qU8)) (Param 0) (Param 1))) (Value.At p ∷ Value.R16 r ∷ []) memory ≡ Some (o, after)
    by_write n None k = apart _ (o, after) (intel_store op aligned e p r memory None n k) h
    by_write n (Some m) k = neon_store p r memory (Some m) n (at_any aligned m k) ∙ sym (intel_store op aligned e p r memory (Some m) n k) ∙ h

    by_size : (t : Bool) → nat_le 16 (length r) ≡ t → sequence_in (storing (two (of_move (Bytes Vst1qU8)) (Param 0) (Param 1))) (Value.At p ∷ Value.R16 r ∷ []) memory ≡ Some (o, after)
    by_size true n = by_write n (wrote_there memory p (alignment aligned) (take 16 (drop 0 r))) refl
    by_size false n = apart _ (o, after) (intel_short op aligned e p r memory n) h
stores op aligned e [] memory after o k h = apart (row_result table op [] memory) (o, after) (rw e refl) h
stores op aligned e (Value.Int n ∷ vs) memory after o k h = apart (row_result table op (Value.Int n ∷ vs) memory) (o, after) (rw e refl) h
stores op aligned e (Value.R8 r ∷ vs) memory after o k h = apart (row_result table op (Value.R8 r ∷ vs) memory) (o, after) (rw e refl) h
stores op aligned e (Value.R16 r ∷ vs) memory after o k h = apart (row_result table op (Value.R16 r ∷ vs) memory) (o, after) (rw e refl) h
stores op aligned e (Value.R32 r ∷ vs) memory after o k h = apart (row_result table op (Value.R32 r ∷ vs) memory) (o, after) (rw e refl) h
stores op aligned e (Value.At p ∷ []) memory after o k h = apart (row_result table op (Value.At p ∷ []) memory) (o, after) (rw e refl) h
stores op aligned e (Value.At p ∷ Value.Int n ∷ vs) memory after o k h = apart (row_result table op (Value.At p ∷ Value.Int n ∷ vs) memory) (o, after) (rw e refl) h
stores op aligned e (Value.At p ∷ Value.R8 r ∷ vs) memory after o k h = apart (row_result table op (Value.At p ∷ Value.R8 r ∷ vs) memory) (o, after) (rw e refl) h
stores op aligned e (Value.At p ∷ Value.R32 r ∷ vs) memory after o k h = apart (row_result table op (Value.At p ∷ Value.R32 r ∷ vs) memory) (o, after) (rw e refl) h
stores op aligned e (Value.At p ∷ Value.At q ∷ vs) memory after o k h = apart (row_result table op (Value.At p ∷ Value.At q ∷ vs) memory) (o, after) (rw e refl) h
stores op aligned e (Value.At p ∷ Value.R16 r ∷ v ∷ vs) memory after o k h = apart (row_result table op (Value.At p ∷ Value.R16 r ∷ v ∷ vs) memory) (o, after) (rw e refl) h
