-- What loads and stores of the low half of a register do to memory.
use Rattle.std.proofs.Common.{◌≡◌, ℕ, suc, ◌+◌, ◌%◌, ◌^◌, ◌≤◌, ◌==◌, List, [], ◌∷◌, ◌++◌, Bool, true, false, Option, Some, None, refl, sym, ap, subst, ◌∙◌, arith, replicate, pos, take, drop, length, length-take, slice_get}
use Rattle.std.proofs.lemmas.Bool.{leb-true, le-leb}
use Rattle.std.proofs.lemmas.List.{length-take-le, length-drop, take-take}
use Rattle.std.specs.Prelude.{◌&&◌, nat_le, option_map, if◌then◌else◌}
use Rattle.std.specs.Option.{option_and_then}
use Rattle.lane_core.specs.declared.number.IntType.TheVariants as int
use Rattle.lane_core.specs.Register.{IsRegister, lane, build}
use Rattle.lane_core.proofs.Lists.{Bytes-take}
use Rattle.lane_core.proofs.Lanes.{lane-build, build_same, build-lane, lane-take, lane-append_left, length-build}
use Rattle.scalar_core.specs.Numbers.{num_of}
use Rattle.scalar_core.specs.TwosComplement.{bits_of, wrapped, value_of_bits}
use Rattle.c_memory.specs.declared.blocks.Block.{Block}
use Rattle.c_memory.specs.declared.memory.Pointer.{Pointer}
use Rattle.c_memory.specs.declared.memory.Pointer.TheVariants.{Null, At}
use Rattle.c_memory.specs.declared.value.Value.{Value}
use Rattle.c_memory.specs.Memory.{reaches, set_bytes, read_in, bytes_read, after_write}
use Rattle.c_memory.specs.MeaningValues.{at_distance}
use Rattle.c_memory.specs.MeaningRows.{row_result, access_at, put}
use Rattle.intel_lanes.specs.Blocks.{move_low}
use Rattle.intel_forms.specs.declared.forms.Form.TheVariants as form
use Rattle.intel_forms.specs.declared.memory.Memory.TheVariants as row
use Rattle.intel_table.specs.declared.IntelOp.{IntelOp}
use Rattle.intel_table.specs.Rows.{form_of}
use Rattle.neon_elements.specs.Vectors.{combined, created, half}
use Rattle.seq_core.specs.Actions.{sequence_in}
use Rattle.seq_memory.specs.Plans.{reading, storing, low_loaded, low_stored}
use Rattle.seq_memory.specs.Claims.{table, Asked}
use Rattle.seq_memory.proofs.Moves.{Directly, split_and, stored, formed, by_form, apart}

-- ---- what is read

set_length : (all : List (Option ℕ)) (bytes : List ℕ) → set_bytes all ≡ Some bytes → length bytes ≡ length all
set_length [] bytes e = let none : [] ≡ bytes = cc in subst (λ (bs : List ℕ). length bs ≡ 0) none refl
set_length (None ∷ rest) bytes e = absurd (cc)
set_length (Some byte ∷ rest) bytes e = more (set_bytes rest) (λ bs f. set_length rest bs f) e
  where
    more : (o : Option (List ℕ)) → ((bs : List ℕ) → o ≡ Some bs → length bs ≡ length rest) → option_map (λ bs. byte ∷ bs) o ≡ Some bytes → length bytes ≡ suc (length rest)
    more None k g = absurd (cc)
    more (Some bs) k g = let same : byte ∷ bs ≡ bytes = cc in subst (λ (all : List ℕ). length all ≡ suc (length rest)) same (ap suc (k bs refl))

pub read_length : (b : Option Block) (offset size : ℕ) (bytes : List ℕ) → read_in b offset 1 size ≡ Some bytes → length bytes ≡ size
read_length None offset size bytes e = absurd (cc)
read_length (Some b) offset size bytes e = by_test (reaches b offset 1 size) refl e
  where
    by_test : (t : Bool) → reaches b offset 1 size ≡ t → (if t then set_bytes (take size (drop offset b.bytes)) else None) ≡ Some bytes → length bytes ≡ size
    by_test false r g = absurd (cc)
    by_test true r g =
        let lives = split_and b.alive (nat_le (offset + size) (length b.bytes) && (nat_le 1 b.align && offset % 1 == 0)) r in
        let inside = split_and (nat_le (offset + size) (length b.bytes)) (nat_le 1 b.align && offset % 1 == 0) lives.1 in
        let fits : offset + size ≤ length b.bytes = leb-true (offset + size) (length b.bytes) inside.0 in
        set_length (take size (drop offset b.bytes)) bytes g ∙ length-take-le size (drop offset b.bytes) (rw length-drop (omega (arith, fits)))

-- eight bytes at the row's pointer, and the memory after these are written there
abbrev pub low_read : List Block → Pointer → Option (List ℕ)
low_read memory p = option_and_then (λ q. bytes_read memory q 1 8) (access_at p (pos 0))

abbrev pub low_wrote : List Block → Pointer → List ℕ → Option (List Block)
low_wrote memory p bytes = option_and_then (λ q. after_write memory q 1 bytes) (access_at p (pos 0))

pub eight_read : (memory : List Block) (p : Pointer) (bytes : List ℕ) → low_read memory p ≡ Some bytes → length bytes ≡ 8
eight_read memory Null bytes e = absurd (cc)
eight_read memory (At block offset) bytes e = there (at_distance offset (pos 0)) e
  where
    there : (o : Option ℕ) → option_and_then (λ q. bytes_read memory q 1 8) (option_map (At block) o) ≡ Some bytes → length bytes ≡ 8
    there None g = absurd (cc)
    there (Some o) g = read_length (slice_get memory block) o 8 bytes g

-- ---- loads

abbrev pub none : ℕ
none = bits_of int.ULong (num_of int.ULong (pos 0)).value

pub none_is : none ≡ 0
unfolding num_of bits_of wrapped value_of_bits
none_is = refl

-- the low eight bytes of what is read
pub low_lane : (bytes rest : List ℕ) → length bytes ≡ 8 → lane 8 (bytes ++ rest) 0 ≡ lane 8 bytes 0
low_lane bytes rest h = lane-append_left 8 bytes rest 0 (omega (arith, h))

same_half : (bytes : List ℕ) → length bytes ≡ 8 → combined (put (replicate 8 0) 0 bytes) (created none) ≡ move_low (put (replicate 16 0) 0 bytes)
unfolding combined created move_low
same_half bytes h =
    let d : lane 8 (put (replicate 8 0) 0 bytes) 0 ≡ lane 8 (put (replicate 16 0) 0 bytes) 0 =
    low_lane bytes (drop (0 + length bytes) (replicate 8 0)) h ∙ sym (low_lane bytes (drop (0 + length bytes) (replicate 16 0)) h) in
    let z : lane 8 (build 8 1 (λ e. none)) 0 ≡ 0 = ap (λ n. lane 8 (build 8 1 (λ e. n)) 0) none_is ∙ lane-build 8 1 (λ e. 0) 0 (omega arith) in
    build_same 8 2 (λ e. if e == 0 then lane 8 (put (replicate 8 0) 0 bytes) 0 else lane 8 (build 8 1 (λ e. none)) 0) (λ e. if e == 0 then lane 8 (put (replicate 16 0) 0 bytes) 0 else 0)
    (λ e l.
    ap (λ v. (if e == 0 then v else lane 8 (build 8 1 (λ e. none)) 0) % 256 ^ 8) d
    ∙ ap (λ v. (if e == 0 then lane 8 (put (replicate 16 0) 0 bytes) 0 else v) % 256 ^ 8) z)

abbrev pub given_by : (List ℕ → List ℕ) → List Block → Option (List ℕ) → Option (Option Value × List Block)
given_by f memory x = option_map (λ bytes. (Some (Value.R16 (f bytes)), memory)) x

load_of : (op : IntelOp) (p : Pointer) (memory : List Block) (x : Option (List ℕ)) → low_read memory p ≡ x
    → row_result (formed (form.Memory row.LoadLow)) op (Value.At p ∷ []) memory ≡ given_by (λ bytes. move_low (put (replicate 16 0) 0 bytes)) memory x
load_of op p memory None h = rw h refl
load_of op p memory (Some r) h = rw h refl

neon_load : (p : Pointer) (memory : List Block) (x : Option (List ℕ)) → low_read memory p ≡ x
    → sequence_in (reading low_loaded) (Value.At p ∷ []) memory ≡ given_by (λ bytes. combined (put (replicate 8 0) 0 bytes) (created none)) memory x
neon_load p memory None h = rw h refl
neon_load p memory (Some r) h = rw h refl

pub low_loads : (op : IntelOp) → form_of op ≡ form.Memory row.LoadLow → Directly op (reading low_loaded)
low_loads op e (Value.At p ∷ []) memory after o a h = by_read (low_read memory p) refl
  where
    by_read : (x : Option (List ℕ)) → low_read memory p ≡ x → sequence_in (reading low_loaded) (Value.At p ∷ []) memory ≡ Some (o, after)
    by_read None k = apart _ (o, after) (by_form op (form.Memory row.LoadLow) e (Value.At p ∷ []) memory ∙ load_of op p memory None k) h
    by_read (Some bytes) k =
        neon_load p memory (Some bytes) k
        ∙ ap (λ r. Some (Some (Value.R16 r), memory)) (same_half bytes (eight_read memory p bytes k))
        ∙ sym (by_form op (form.Memory row.LoadLow) e (Value.At p ∷ []) memory ∙ load_of op p memory (Some bytes) k)
        ∙ h
low_loads op e [] memory after o k h = apart (row_result table op [] memory) (o, after) (rw e refl) h
low_loads op e (Value.Int n ∷ vs) memory after o k h = apart (row_result table op (Value.Int n ∷ vs) memory) (o, after) (rw e refl) h
low_loads op e (Value.R8 r ∷ vs) memory after o k h = apart (row_result table op (Value.R8 r ∷ vs) memory) (o, after) (rw e refl) h
low_loads op e (Value.R16 r ∷ vs) memory after o k h = apart (row_result table op (Value.R16 r ∷ vs) memory) (o, after) (rw e refl) h
low_loads op e (Value.R32 r ∷ vs) memory after o k h = apart (row_result table op (Value.R32 r ∷ vs) memory) (o, after) (rw e refl) h
low_loads op e (Value.At p ∷ v ∷ vs) memory after o k h = apart (row_result table op (Value.At p ∷ v ∷ vs) memory) (o, after) (rw e refl) h

-- ---- stores

pub low_half : (r : List ℕ) → IsRegister 16 r → half 0 r ≡ take 8 r
unfolding half
low_half r h =
    build_same 8 1 (λ e. lane 8 r 0) (lane 8 (take 8 r)) (λ e l. let z : e ≡ 0 = omega (arith, l) in ap (λ v. v % 256 ^ 8) (sym (lane-take 8 8 r 0 (omega arith)) ∙ ap (lane 8 (take 8 r)) (sym z)))
    ∙ build-lane 8 1 (take 8 r) (Bytes-take 8 r h.bytes) (let s = h.size in omega (arith, length-take 8 r, s))

same_bytes : (r : List ℕ) → IsRegister 16 r → take 8 (half 0 r) ≡ take 8 r
same_bytes r h = ap (take 8) (low_half r h) ∙ take-take 8 8 r (omega arith)

long : (r : List ℕ) → IsRegister 16 r → nat_le 8 (length r) ≡ true
long r h = let s = h.size in le-leb 8 (length r) (omega (arith, s))

half_long : (r : List ℕ) → nat_le 8 (length (half 0 r)) ≡ true
unfolding half
half_long r = let s = length-build 8 1 (λ e. lane 8 r 0) in le-leb 8 (length (build 8 1 (λ e. lane 8 r 0))) (omega (arith, s))

store_of : (op : IntelOp) (p : Pointer) (r : List ℕ) (memory : List Block) (x : Option (List Block)) → nat_le 8 (length r) ≡ true → low_wrote memory p (take 8 (drop 0 r)) ≡ x
    → row_result (formed (form.Memory row.StoreLow)) op (Value.At p ∷ Value.R16 r ∷ []) memory ≡ stored x
store_of op p r memory None n h = rw (n, h) refl
store_of op p r memory (Some m) n h = rw (n, h) refl

neon_store : (p : Pointer) (r : List ℕ) (memory : List Block) (x : Option (List Block)) → nat_le 8 (length (half 0 r)) ≡ true → low_wrote memory p (take 8 (drop 0 (half 0 r))) ≡ x
    → sequence_in (storing low_stored) (Value.At p ∷ Value.R16 r ∷ []) memory ≡ stored x
neon_store p r memory None n h = rw (n, h) refl
neon_store p r memory (Some m) n h = rw (n, h) refl

pub low_stores : (op : IntelOp) → form_of op ≡ form.Memory row.StoreLow → Directly op (storing low_stored)
low_stores op e (Value.At p ∷ Value.R16 r ∷ []) memory after o a h =
    let b : IsRegister 16 r × Unit {0} = subst (λ f. Asked f 0 (Value.At p ∷ Value.R16 r ∷ [])) e a in
    neon_store p r memory (low_wrote memory p (take 8 r)) (half_long r) (ap (low_wrote memory p) (same_bytes r b.0))
    ∙ sym (by_form op (form.Memory row.StoreLow) e (Value.At p ∷ Value.R16 r ∷ []) memory ∙ store_of op p r memory (low_wrote memory p (take 8 r)) (long r b.0) refl)
    ∙ h
low_stores op e [] memory after o k h = apart (row_result table op [] memory) (o, after) (rw e refl) h
low_stores op e (Value.Int n ∷ vs) memory after o k h = apart (row_result table op (Value.Int n ∷ vs) memory) (o, after) (rw e refl) h
low_stores op e (Value.R8 r ∷ vs) memory after o k h = apart (row_result table op (Value.R8 r ∷ vs) memory) (o, after) (rw e refl) h
low_stores op e (Value.R16 r ∷ vs) memory after o k h = apart (row_result table op (Value.R16 r ∷ vs) memory) (o, after) (rw e refl) h
low_stores op e (Value.R32 r ∷ vs) memory after o k h = apart (row_result table op (Value.R32 r ∷ vs) memory) (o, after) (rw e refl) h
low_stores op e (Value.At p ∷ []) memory after o k h = apart (row_result table op (Value.At p ∷ []) memory) (o, after) (rw e refl) h
low_stores op e (Value.At p ∷ Value.Int n ∷ vs) memory after o k h = apart (row_result table op (Value.At p ∷ Value.Int n ∷ vs) memory) (o, after) (rw e refl) h
low_stores op e (Value.At p ∷ Value.R8 r ∷ vs) memory after o k h = apart (row_result table op (Value.At p ∷ Value.R8 r ∷ vs) memory) (o, after) (rw e refl) h
low_stores op e (Value.At p ∷ Value.R32 r ∷ vs) memory after o k h = apart (row_result table op (Value.At p ∷ Value.R32 r ∷ vs) memory) (o, after) (rw e refl) h
low_stores op e (Value.At p ∷ Value.At q ∷ vs) memory after o k h = apart (row_result table op (Value.At p ∷ Value.At q ∷ vs) memory) (o, after) (rw e refl) h
low_stores op e (Value.At p ∷ Value.R16 r ∷ v ∷ vs) memory after o k h = apart (row_result table op (Value.At p ∷ Value.R16 r ∷ v ∷ vs) memory) (o, after) (rw e refl) h
