-- A vector of an integer for each lane.
use Rattle.seq_pack.specs.Terms.{scalar_type}
use Rattle.std.proofs.Common.{◌≡◌, ℕ, zero, suc, ◌+◌, ◌*◌, ◌/◌, ◌%◌, ◌^◌, ◌<◌, ◌≤◌, List, [], ◌∷◌, map, length, get_or, Bool, true, false, Option, Some, option_map, refl, ap, sym, ◌∙◌, subst, arith, rules, inl, inr, pos, ◌⊎◌}
use Rattle.std.specs.Prelude.{nat_le, replicate, slice_get, if◌then◌else◌}
use Rattle.std.specs.Option.{option_and_then}
use Rattle.std.proofs.lemmas.Bool.{cases_lt}
use Rattle.std.proofs.Math.Nat.{mod-eq_of_lt}
use Rattle.lane_core.specs.Register.{IsRegister, IsWidth, lane, build}
use Rattle.lane_core.specs.Kernels.{put_of}
use Rattle.lane_core.proofs.Lanes.{lane-build, build_of_lanes, build_same}
use Rattle.lane_core.proofs.Puts.{lane-put_same, lane-put_other}
use Rattle.lane_core.proofs.Laws.{IsRegister-build, IsRegister-put}
use Rattle.lane_core.specs.declared.number.IntType.{IntType}
use Rattle.lane_core.specs.declared.number.IntType.TheVariants as int
use Rattle.lane_core.specs.declared.table.Arg.{Arg}
use Rattle.lane_core.specs.declared.table.Arg.TheVariants as arg
use Rattle.lane_core.specs.declared.table.ParamKind.TheVariants as kind
use Rattle.lane_core.specs.Table.{FitsKinds}
use Rattle.scalar_core.specs.Numbers.{num_of}
use Rattle.c_tree.specs.declared.types.CType.{CType}
use Rattle.c_memory.specs.declared.value.Value.{Value}
use Rattle.intel_lanes.specs.declared.lanes.Width.{Width}
use Rattle.intel_lanes.specs.declared.lanes.Width.TheVariants.{Byte, Word, Dword, Qword}
use Rattle.intel_lanes.specs.Lanes.{bytes_of}
use Rattle.intel_lanes.specs.Laws.{byte, word, dword, qword, xmm}
use Rattle.intel_forms.specs.Scalars as row
use Rattle.intel_forms.specs.Sizes.{lane_type}
use Rattle.neon_elements.specs.Vectors.{duplicated}
use Rattle.neon_move.specs.declared.MoveOp.TheVariants.{ToUnsigned}
use Rattle.neon_move.specs.declared.to_unsigned.ToUnsigned.{ToUnsigned as To}
use Rattle.neon_move.specs.declared.to_unsigned.ToUnsigned.TheVariants.{VreinterpretqU8U16, VreinterpretqU8U32, VreinterpretqU8U64}
use Rattle.neon_table.specs.Rows.{of_move}
use Rattle.seq_core.specs.Values.{value_of, all_carried, called, sequence_value, as_arg, evaluated}
use Rattle.seq_pack.specs.Calls.{operands, over}
use Rattle.seq_pack.specs.Terms.{unsigned_type}
use Rattle.seq_pack.specs.Sets.{param_of, lanes_to, each_lane}
use Rattle.seq_pack.proofs.Numbers.{passed, char_passed, short_passed, int_passed, long_passed}

-- ---- lanes put one after another

abbrev pub chain : ℕ → (ℕ → ℕ) → ℕ → List ℕ
chain w x zero = build w (16 / w) (λ e. x 0)
chain w x (suc k) = put_of w (chain w x k) (suc k % (16 / w)) (x (suc k))

-- how lanes of width w fill a register
pub record Filling (w : ℕ) : Type 0 where
  pub width : IsWidth w
  pub inside : (k : ℕ) → k < 16 / w → k * w + w ≤ 16
  pub whole : (k : ℕ) → k < 16 / w → k % (16 / w) ≡ k
  pub size : 16 ≡ 16 / w * w

chain_register : (w : ℕ) (x : ℕ → ℕ) (k : ℕ) → Filling w → k < 16 / w → IsRegister 16 (chain w x k)
chain_register w x zero f l = IsRegister-build w 16 (λ e. x 0) f.width xmm
chain_register w x (suc k) f l =
    IsRegister-put w 16 (suc k % (16 / w)) (x (suc k)) (chain w x k) (subst (λ i. i < 16 / w) (sym (f.whole (suc k) l)) l) (chain_register w x k f (omega (arith, l)))

-- lanes up to k are their own, and the others lane 0
abbrev so_far : (ℕ → ℕ) → ℕ → ℕ → ℕ
so_far x k j = if nat_le j k then x j else x 0

chain_at : (w : ℕ) (x : ℕ → ℕ) (k : ℕ) → Filling w → k < 16 / w → (j : ℕ) → j < 16 / w → lane w (chain w x k) j ≡ so_far x k j % 256 ^ w
chain_at w x zero f l j m = lane-build w (16 / w) (λ e. x 0) j m ∙ by j
  where
    by : (j : ℕ) → x 0 % 256 ^ w ≡ so_far x 0 j % 256 ^ w
    by zero = refl
    by (suc j) = let t : nat_le (suc j) 0 ≡ false = search rules in rw t refl
chain_at w x (suc k) f l j m =
    let r = chain_register w x k f (omega (arith, l)) in
    let s = r.size in
    let i = f.inside (suc k) l in
    ap (λ p. lane w (put_of w (chain w x k) p (x (suc k))) j) (f.whole (suc k) l)
    ∙ by (cases_lt j (suc k)) i s (chain_at w x k f (omega (arith, l)) j m)
  where
    by : (j < suc k) ⊎ (suc k ≤ j) → suc k * w + w ≤ 16 → length (chain w x k) ≡ 16 → lane w (chain w x k) j ≡ so_far x k j % 256 ^ w → lane w (put_of w (chain w x k) (suc k) (x (suc k))) j ≡ so_far x (suc k) j % 256 ^ w
    by (inl c) i s before =
        let t : nat_le j (suc k) ≡ true = let u : j ≤ suc k = omega (arith, c) in search (rules, u) in
        let t' : nat_le j k ≡ true = let u : j ≤ k = omega (arith, c) in search (rules, u) in
        lane-put_other w (chain w x k) (suc k) (x (suc k)) j (omega (arith, i, s)) (λ e. omega (arith, e, c)) ∙ before ∙ rw (t, t') refl
    by (inr c) i s before = same (cases_lt (suc k) j)
      where
        same : (suc k < j) ⊎ (j ≤ suc k) → lane w (put_of w (chain w x k) (suc k) (x (suc k))) j ≡ so_far x (suc k) j % 256 ^ w
        same (inl d) =
            let t : nat_le j (suc k) ≡ false = search (rules, d) in
            let t' : nat_le j k ≡ false = let u : k < j = omega (arith, d) in search (rules, u) in
            lane-put_other w (chain w x k) (suc k) (x (suc k)) j (omega (arith, i, s)) (λ e. omega (arith, e, d)) ∙ before ∙ rw (t, t') refl
        same (inr d) =
            let e : suc k ≡ j = omega (arith, c, d) in
            let t : nat_le (suc k) (suc k) ≡ true = let u : suc k ≤ suc k = omega arith in search (rules, u) in
            subst (λ q. lane w (put_of w (chain w x k) (suc k) (x (suc k))) q ≡ so_far x (suc k) q % 256 ^ w) e (lane-put_same w (chain w x k) (suc k) (x (suc k)) (omega (arith, i, s)) ∙ rw t refl)

pub chain_whole : (w n : ℕ) (x : ℕ → ℕ) → Filling w → 16 / w ≡ suc n → chain w x n ≡ build w (16 / w) x
chain_whole w n x f e =
    let last : n < 16 / w = omega (arith, e) in
    let r = chain_register w x n f last in
    build_of_lanes w (16 / w) x (chain w x n) (r.size ∙ f.size) r.bytes
    (λ j l. chain_at w x n f last j l
    ∙ (let t : nat_le j n ≡ true = let u : j ≤ n = omega (arith, e, l) in search (rules, u) in ap (λ b. (if b then x j else x 0) % 256 ^ w) t))

bytes_fill : Filling 1
bytes_fill = record { width = byte; inside = λ k l. omega (arith, l); whole = λ k l. mod-eq_of_lt l; size = refl }

words_fill : Filling 2
words_fill = record { width = word; inside = λ k l. omega (arith, l); whole = λ k l. mod-eq_of_lt l; size = refl }

dwords_fill : Filling 4
dwords_fill = record { width = dword; inside = λ k l. omega (arith, l); whole = λ k l. mod-eq_of_lt l; size = refl }

qwords_fill : Filling 8
qwords_fill = record { width = qword; inside = λ k l. omega (arith, l); whole = λ k l. mod-eq_of_lt l; size = refl }

-- ---- integers as arguments and as values

-- the arguments of integers are integers
integers : (t : IntType) (n : ℕ) (args : List Arg) → FitsKinds (replicate n (kind.Scalar t)) args → (xs : List ℕ) × (args ≡ map arg.Int xs) × (length xs ≡ n)
integers t zero [] h = ([], refl, refl)
integers t zero (a ∷ rest) h = absurd h
integers t (suc n) [] h = absurd h
integers t (suc n) (arg.Int x ∷ rest) h =
    let e = integers t n rest h.1 in
    (x ∷ e.0, ap (λ (r : List Arg). arg.Int x ∷ r) e.1, ap suc e.2)
integers t (suc n) (_ ∷ rest) h = absurd h.0

no_places : (t : IntType) (n : ℕ) (args : List Arg) → operands (replicate n (kind.Scalar t)) args ≡ args
no_places t zero args = refl
no_places t (suc n) [] = refl
no_places t (suc n) (a ∷ rest) = ap (λ (r : List Arg). a ∷ r) (no_places t n rest)

abbrev value_as : IntType → ℕ → Value
value_as t x = Value.Int (num_of t (pos x))

carried_all : (t : IntType) (xs : List ℕ) → all_carried (replicate (length xs) (CType.Int t)) (map arg.Int xs) ≡ Some (map (value_as t) xs)
carried_all t [] = refl
carried_all t (x ∷ xs) = rw (carried_all t xs) refl

value_at : (t : IntType) (xs : List ℕ) (p : ℕ) → p < length xs → slice_get (map (value_as t) xs) p ≡ Some (value_as t (get_or xs p 0))
value_at t [] p l = absurd (omega (arith, l))
value_at t (x ∷ xs) zero l = refl
value_at t (x ∷ xs) (suc p) l = value_at t xs p (omega (arith, l))

number_at : (xs : List ℕ) (p : ℕ) → p < length xs → row.number (get_or (map arg.Int xs) p arg.Nothing) ≡ get_or xs p 0
number_at [] p l = absurd (omega (arith, l))
number_at (x ∷ xs) zero l = refl
number_at (x ∷ xs) (suc p) l = number_at xs p (omega (arith, l))

-- ---- the value of the term

-- the number for lane k, as it is passed
abbrev pub lane_number : Bool → Width → List ℕ → ℕ → ℕ
lane_number reversed width xs k = passed (unsigned_type width) (scalar_type width) (get_or xs (param_of reversed width k) 0)

lanes_value : (r : Bool) (width : Width) (xs : List ℕ) (k : ℕ) → ((i : ℕ) → i ≤ k → param_of r width i < length xs)
    → value_of (map (value_as (scalar_type width)) xs) [] (lanes_to r width k) ≡ Some (Value.R16 (chain (bytes_of width) (lane_number r width xs) k))
unfolding duplicated
lanes_value r Byte xs zero h = rw (value_at int.SChar xs (param_of r Byte 0) (h 0 (omega arith))) refl
lanes_value r Word xs zero h = rw (value_at int.Short xs (param_of r Word 0) (h 0 (omega arith))) refl
lanes_value r Dword xs zero h = rw (value_at int.Int xs (param_of r Dword 0) (h 0 (omega arith))) refl
lanes_value r Qword xs zero h = rw (value_at int.LLong xs (param_of r Qword 0) (h 0 (omega arith))) refl
lanes_value r Byte xs (suc k) h = rw (value_at int.SChar xs (param_of r Byte (suc k)) (h (suc k) (omega arith)), lanes_value r Byte xs k (λ i l. h i (omega (arith, l)))) refl
lanes_value r Word xs (suc k) h = rw (value_at int.Short xs (param_of r Word (suc k)) (h (suc k) (omega arith)), lanes_value r Word xs k (λ i l. h i (omega (arith, l)))) refl
lanes_value r Dword xs (suc k) h = rw (value_at int.Int xs (param_of r Dword (suc k)) (h (suc k) (omega arith)), lanes_value r Dword xs k (λ i l. h i (omega (arith, l)))) refl
lanes_value r Qword xs (suc k) h = rw (value_at int.LLong xs (param_of r Qword (suc k)) (h (suc k) (omega arith)), lanes_value r Qword xs k (λ i l. h i (omega (arith, l)))) refl

-- ---- the sequence

carried_n : (t : IntType) (n : ℕ) (xs : List ℕ) → length xs ≡ n → all_carried (replicate n (CType.Int t)) (map arg.Int xs) ≡ Some (map (value_as t) xs)
carried_n t n xs e = subst (λ m. all_carried (replicate m (CType.Int t)) (map arg.Int xs) ≡ Some (map (value_as t) xs)) e (carried_all t xs)

-- each lane's parameter is there
param_below : (r : Bool) (width : Width) (k : ℕ) → k < 16 / bytes_of width → param_of r width k < 16 / bytes_of width
param_below true width k l = l
param_below false width k l = omega (arith, l)

-- the lanes are the arguments' numbers
abbrev pub given_lanes : Bool → Width → List Arg → List ℕ
given_lanes r width args = build (bytes_of width) (16 / bytes_of width) (λ k. row.number (get_or args (param_of r width k) arg.Nothing))

lanes_are : (r : Bool) (width : Width) (n : ℕ) (xs : List ℕ) → Filling (bytes_of width) → 16 / bytes_of width ≡ suc n → length xs ≡ 16 / bytes_of width
    → ((x : ℕ) → passed (unsigned_type width) (scalar_type width) x % 256 ^ bytes_of width ≡ x % 256 ^ bytes_of width)
    → chain (bytes_of width) (lane_number r width xs) n ≡ given_lanes r width (map arg.Int xs)
lanes_are r width n xs f e len low =
    chain_whole (bytes_of width) n (lane_number r width xs) f e
    ∙ build_same (bytes_of width) (16 / bytes_of width) (lane_number r width xs) (λ k. row.number (get_or (map arg.Int xs) (param_of r width k) arg.Nothing))
    (λ k l. let below = param_below r width k l in
    low (get_or xs (param_of r width k) 0) ∙ ap (λ v. v % 256 ^ bytes_of width) (sym (number_at xs (param_of r width k) (omega (arith, below, len)))))

abbrev whole : Bool → Width → List Arg → Type 0
whole r width args = evaluated (over (replicate (16 / bytes_of width) (CType.Int (scalar_type width))) (each_lane r width)) args ≡ Some (arg.R16 (given_lanes r width args))

-- a reinterpretation of what there is
abbrev reread : To → Option Value → Option Value
reread row o = option_and_then (called (of_move (ToUnsigned row)) 0) (option_and_then (λ v. option_map (λ vs. v ∷ vs) (Some [])) o)

sets_give_byte : (r : Bool) (xs : List ℕ) → length xs ≡ 16 → whole r Byte (map arg.Int xs)
sets_give_byte r xs e =
    ap (λ o. option_map as_arg (option_and_then (sequence_value (over (replicate 16 (CType.Int int.SChar)) (each_lane r Byte))) o)) (carried_n int.SChar 16 xs e)
    ∙ ap (λ o. option_map as_arg (option_map Some o)) (lanes_value r Byte xs 15 (λ i l. let b = param_below r Byte i (omega (arith, l)) in omega (arith, b, e)))
    ∙ ap (λ s. Some (arg.R16 s)) (lanes_are r Byte 15 xs bytes_fill refl e char_passed)

sets_give_word : (r : Bool) (xs : List ℕ) → length xs ≡ 8 → whole r Word (map arg.Int xs)
sets_give_word r xs e =
    ap (λ o. option_map as_arg (option_and_then (sequence_value (over (replicate 8 (CType.Int int.Short)) (each_lane r Word))) o)) (carried_n int.Short 8 xs e)
    ∙ ap (λ o. option_map as_arg (option_map Some (reread VreinterpretqU8U16 o))) (lanes_value r Word xs 7 (λ i l. let b = param_below r Word i (omega (arith, l)) in omega (arith, b, e)))
    ∙ ap (λ s. Some (arg.R16 s)) (lanes_are r Word 7 xs words_fill refl e short_passed)

sets_give_dword : (r : Bool) (xs : List ℕ) → length xs ≡ 4 → whole r Dword (map arg.Int xs)
sets_give_dword r xs e =
    ap (λ o. option_map as_arg (option_and_then (sequence_value (over (replicate 4 (CType.Int int.Int)) (each_lane r Dword))) o)) (carried_n int.Int 4 xs e)
    ∙ ap (λ o. option_map as_arg (option_map Some (reread VreinterpretqU8U32 o))) (lanes_value r Dword xs 3 (λ i l. let b = param_below r Dword i (omega (arith, l)) in omega (arith, b, e)))
    ∙ ap (λ s. Some (arg.R16 s)) (lanes_are r Dword 3 xs dwords_fill refl e int_passed)

sets_give_qword : (r : Bool) (xs : List ℕ) → length xs ≡ 2 → whole r Qword (map arg.Int xs)
sets_give_qword r xs e =
    ap (λ o. option_map as_arg (option_and_then (sequence_value (over (replicate 2 (CType.Int int.LLong)) (each_lane r Qword))) o)) (carried_n int.LLong 2 xs e)
    ∙ ap (λ o. option_map as_arg (option_map Some (reread VreinterpretqU8U64 o))) (lanes_value r Qword xs 1 (λ i l. let b = param_below r Qword i (omega (arith, l)) in omega (arith, b, e)))
    ∙ ap (λ s. Some (arg.R16 s)) (lanes_are r Qword 1 xs qwords_fill refl e long_passed)

sets_give : (r : Bool) (width : Width) (xs : List ℕ) → length xs ≡ 16 / bytes_of width → whole r width (map arg.Int xs)
sets_give r Byte xs e = sets_give_byte r xs e
sets_give r Word xs e = sets_give_word r xs e
sets_give r Dword xs e = sets_give_dword r xs e
sets_give r Qword xs e = sets_give_qword r xs e

-- of all arguments that fit
pub sets_of : (r : Bool) (width : Width) (args : List Arg) → FitsKinds (replicate (16 / bytes_of width) (kind.Scalar (lane_type width))) args
    → evaluated (over (replicate (16 / bytes_of width) (CType.Int (scalar_type width))) (each_lane r width)) (operands (replicate (16 / bytes_of width) (kind.Scalar (lane_type width))) args) ≡ Some (arg.R16 (given_lanes r width args))
sets_of r width args h =
    let n = 16 / bytes_of width in
    let e = integers (lane_type width) (16 / bytes_of width) args h in
    ap (evaluated (over (replicate (16 / bytes_of width) (CType.Int (scalar_type width))) (each_lane r width))) (no_places (lane_type width) (16 / bytes_of width) args)
    ∙ subst (whole r width) (sym e.1) (sets_give r width e.0 e.2)
