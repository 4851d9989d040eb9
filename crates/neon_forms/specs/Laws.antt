-- What holds of every form: the signature counts its parameters, the value is of the result's kind, and accesses lie in the row's register.
use Rattle.std.proofs.Common.{◌≡◌, ℕ, ◌+◌, ◌<◌, ◌≤◌, ◌^◌, zero, suc, List, [], ◌∷◌, length, Bool, true, false, arith, refl}
use Rattle.std.specs.Prelude.{IfSome}
use Rattle.lane_core.specs.Register.{IsRegister}
use Rattle.lane_core.specs.declared.vector.NeonLane.{NeonLane}
use Rattle.lane_core.specs.declared.vector.NeonLane.TheVariants.{U8, U16, U32, U64, S8, S16, S32, S64}
use Rattle.lane_core.specs.declared.table.Access.{Access}
use Rattle.lane_core.specs.declared.table.Arg.{Arg}
use Rattle.lane_core.specs.declared.table.Arg.TheVariants as arg
use Rattle.lane_core.specs.declared.table.ParamKind.{ParamKind}
use Rattle.lane_core.specs.declared.table.ParamKind.TheVariants as kind
use Rattle.lane_core.specs.Table.{Fits, FitsKind, FitsKinds, FitsResult, IsArg}
use Rattle.lane_core.proofs.Laws.{IsRegister-put}
use Rattle.lane_core.proofs.Signed.{wrapped_below}
use Rattle.neon_elements.specs.declared.vectors.Across.{Across}
use Rattle.neon_elements.specs.declared.vectors.Across.TheVariants.{Sum, Least, Greatest}
use Rattle.neon_elements.specs.declared.elements.Narrowing.TheVariants.{Saturate}
use Rattle.neon_elements.specs.Elements.{bytes_of, int_of, integer_of}
use Rattle.neon_elements.specs.Vectors.{each1, each2, compared, selected, shifted, shifted_left, shifted_right, lengthened, lengthened_high, pair_sums, long_pair_sums, reduced, widened, widened_high, narrowed, shift_narrowed, extracted, looked_up, permuted, reversed, reversed_lane, duplicated_lane, duplicated, created, combined, half, element, with_element}
use Rattle.neon_elements.specs.Laws as law
use Rattle.neon_forms.specs.declared.forms.Narrow.{Narrow}
use Rattle.neon_forms.specs.declared.forms.Narrow.TheVariants as narrow
use Rattle.neon_forms.specs.declared.forms.Transfer.{Transfer}
use Rattle.neon_forms.specs.declared.forms.Transfer.TheVariants as transfer
use Rattle.neon_forms.specs.declared.forms.Form.{Form}
use Rattle.neon_forms.specs.declared.forms.Form.TheVariants as form
use Rattle.neon_forms.specs.Forms.{lane_of, wide_of, unsigned_of, signed_of, q, d, scalar, transferred, size_of, pointer, signature_of, access_at, access_of, register_of}
use Rattle.neon_forms.specs.Values.{of_q, of_d, of_q_q, of_d_d, of_pair_q, of_q_q_q, of_q_constant, of_q_q_constant, of_integer, of_integer_q_constant, of_address, part_of, value_of}

-- the signature counts its parameters
pub counts_parameters : (f : Form) → ((signature_of f).count ≤ 32) × (length (signature_of f).params ≡ 32)
counts_parameters form.Extract = (omega arith, refl)
counts_parameters _ = (omega arith, refl)

-- a value is of a kind where that of each vector is
of_q_fits : (t : NeonLane) (k : ParamKind) (f : List ℕ → Arg) → ((a : List ℕ) → IsRegister 16 a → FitsKind k (f a))
    → (args : List Arg) → FitsKinds (q t ∷ []) args → FitsKind k (of_q f args)
of_q_fits t k f whole (arg.R16 a ∷ []) h = whole a h.0.1
of_q_fits t k f whole _ h = grind (arith, h)

of_d_fits : (t : NeonLane) (k : ParamKind) (f : List ℕ → Arg) → ((a : List ℕ) → IsRegister 8 a → FitsKind k (f a))
    → (args : List Arg) → FitsKinds (d t ∷ []) args → FitsKind k (of_d f args)
of_d_fits t k f whole (arg.R8 a ∷ []) h = whole a h.0.1
of_d_fits t k f whole _ h = grind (arith, h)

of_q_q_fits : (t u : NeonLane) (k : ParamKind) (f : List ℕ → List ℕ → Arg) → ((a b : List ℕ) → FitsKind k (f a b))
    → (args : List Arg) → FitsKinds (q t ∷ q u ∷ []) args → FitsKind k (of_q_q f args)
of_q_q_fits t u k f whole (arg.R16 a ∷ arg.R16 b ∷ []) h = whole a b
of_q_q_fits t u k f whole _ h = grind (arith, h)

of_d_d_fits : (t : NeonLane) (k : ParamKind) (f : List ℕ → List ℕ → Arg) → ((a b : List ℕ) → FitsKind k (f a b))
    → (args : List Arg) → FitsKinds (d t ∷ d t ∷ []) args → FitsKind k (of_d_d f args)
of_d_d_fits t k f whole (arg.R8 a ∷ arg.R8 b ∷ []) h = whole a b
of_d_d_fits t k f whole _ h = grind (arith, h)

of_pair_q_fits : (k : ParamKind) (f : List ℕ → List ℕ → Arg) → ((a b : List ℕ) → FitsKind k (f a b))
    → (args : List Arg) → FitsKinds (kind.Pair ∷ q U8 ∷ []) args → FitsKind k (of_pair_q f args)
of_pair_q_fits k f whole (arg.R32 a ∷ arg.R16 b ∷ []) h = whole a b
of_pair_q_fits k f whole _ h = grind (arith, h)

of_q_q_q_fits : (s t : NeonLane) (k : ParamKind) (f : List ℕ → List ℕ → List ℕ → Arg) → ((a b c : List ℕ) → FitsKind k (f a b c))
    → (args : List Arg) → FitsKinds (q s ∷ q t ∷ q t ∷ []) args
    → FitsKind k (of_q_q_q f args)
of_q_q_q_fits s t k f whole (arg.R16 a ∷ arg.R16 b ∷ arg.R16 c ∷ []) h = whole a b c
of_q_q_q_fits s t k f whole _ h = grind (arith, h)

of_q_constant_fits : (t : NeonLane) (k : ParamKind) (f : List ℕ → Arg) → ((a : List ℕ) → FitsKind k (f a))
    → (args : List Arg) → FitsKinds (q t ∷ kind.Immediate ∷ []) args → FitsKind k (of_q_constant f args)
of_q_constant_fits t k f whole (arg.R16 a ∷ arg.Nothing ∷ []) h = whole a
of_q_constant_fits t k f whole _ h = grind (arith, h)

of_q_q_constant_fits : (k : ParamKind) (f : List ℕ → List ℕ → Arg) → ((a b : List ℕ) → FitsKind k (f a b))
    → (args : List Arg) → FitsKinds (q U8 ∷ q U8 ∷ kind.Immediate ∷ []) args
    → FitsKind k (of_q_q_constant f args)
of_q_q_constant_fits k f whole (arg.R16 a ∷ arg.R16 b ∷ arg.Nothing ∷ []) h = whole a b
of_q_q_constant_fits k f whole _ h = grind (arith, h)

of_integer_fits : (t : NeonLane) (k : ParamKind) (f : ℕ → Arg) → ((x : ℕ) → FitsKind k (f x))
    → (args : List Arg) → FitsKinds (scalar t ∷ []) args → FitsKind k (of_integer f args)
of_integer_fits t k f whole (arg.Int x ∷ []) h = whole x
of_integer_fits t k f whole _ h = grind (arith, h)

of_integer_q_constant_fits : (t : NeonLane) (k : ParamKind) (f : ℕ → List ℕ → Arg) → ((x : ℕ) (a : List ℕ) → IsRegister 16 a → FitsKind k (f x a))
    → (args : List Arg)
    → FitsKinds (scalar t ∷ q t ∷ kind.Immediate ∷ []) args → FitsKind k (of_integer_q_constant f args)
of_integer_q_constant_fits t k f whole (arg.Int x ∷ arg.R16 a ∷ arg.Nothing ∷ []) h = whole x a h.1.0.1
of_integer_q_constant_fits t k f whole _ h = grind (arith, h)

loaded_fits : (k : ParamKind) (args : List Arg) → FitsKinds (pointer true ∷ k ∷ []) args → FitsKind k (of_address args)
loaded_fits k (arg.Nothing ∷ v ∷ []) h = h.1.0
loaded_fits k _ h = grind (arith, h)

stored_fits : (what : Transfer) (args : List Arg) → FitsKinds (pointer false ∷ transferred what ∷ []) args → IsArg (of_address args)
stored_fits transfer.D (arg.Nothing ∷ arg.R8 v ∷ []) h = h.1.0.1
stored_fits transfer.D _ h = grind (arith, h)
stored_fits transfer.Q (arg.Nothing ∷ arg.R16 v ∷ []) h = h.1.0.1
stored_fits transfer.Q _ h = grind (arith, h)
stored_fits transfer.Pair (arg.Nothing ∷ arg.R32 v ∷ []) h = h.1.0.1
stored_fits transfer.Pair _ h = grind (arith, h)

-- an integer is below 2 ^ 64
integer_below : (t : NeonLane) (x : ℕ) → integer_of t x < 2 ^ 64
integer_below t x = let b = wrapped_below 8 (int_of t x) in omega (arith, b)

reduced_below : (op : Across) (t : NeonLane) (n : ℕ) (a : List ℕ) → reduced op t n a < 2 ^ 64
unfolding reduced
reduced_below Sum t n a = integer_below t _
reduced_below Least t n a = integer_below t _
reduced_below Greatest t n a = integer_below t _

is_narrow : (t : Narrow) → bytes_of (lane_of t) ≤ 4
is_narrow narrow.U8 = omega arith
is_narrow narrow.U16 = omega arith
is_narrow narrow.U32 = omega arith
is_narrow narrow.S8 = omega arith
is_narrow narrow.S16 = omega arith
is_narrow narrow.S32 = omega arith

with_element_is : (t : NeonLane) (n x : ℕ) (a : List ℕ) → IsRegister 16 a → IsRegister 16 (with_element t n x a)
with_element_is U8 n x a h = IsRegister-put 1 16 _ x a (omega arith) h
with_element_is S8 n x a h = IsRegister-put 1 16 _ x a (omega arith) h
with_element_is U16 n x a h = IsRegister-put 2 16 _ x a (omega arith) h
with_element_is S16 n x a h = IsRegister-put 2 16 _ x a (omega arith) h
with_element_is U32 n x a h = IsRegister-put 4 16 _ x a (omega arith) h
with_element_is S32 n x a h = IsRegister-put 4 16 _ x a (omega arith) h
with_element_is U64 n x a h = IsRegister-put 8 16 _ x a (omega arith) h
with_element_is S64 n x a h = IsRegister-put 8 16 _ x a (omega arith) h

-- the value is of the result's kind
pub gives_its_kind : (f : Form) (args : List Arg) (n : ℕ) → Fits (signature_of f) args → FitsResult (signature_of f).result (value_of f args n)
gives_its_kind (form.Each1 op t) args n fit = of_q_fits t (q t) (λ a. arg.R16 (each1 op t a)) (λ a h. (refl, law.each1_is op t a)) args fit
gives_its_kind (form.Each2 op t) args n fit = of_q_q_fits t t (q t) (λ a b. arg.R16 (each2 op t a b)) (λ a b. (refl, law.each2_is op t a b)) args fit
gives_its_kind (form.Compared op t) args n fit =
    of_q_q_fits t t (q (unsigned_of t)) (λ a b. arg.R16 (compared op t a b)) (λ a b. (refl, law.compared_is op t a b)) args fit
gives_its_kind (form.Select t) args n fit =
    of_q_q_q_fits (unsigned_of t) t (q t) (λ mask a b. arg.R16 (selected t mask a b)) (λ mask a b. (refl, law.selected_is t mask a b)) args fit
gives_its_kind (form.ShiftBy t) args n fit = of_q_q_fits t (signed_of t) (q t) (λ a c. arg.R16 (shifted t a c)) (λ a c. (refl, law.shifted_is t a c)) args fit
gives_its_kind (form.ShiftLeft t) args n fit =
    of_q_constant_fits t (q t) (λ a. arg.R16 (shifted_left t n a)) (λ a. (refl, law.shifted_left_is t n a)) args fit
gives_its_kind (form.ShiftRight t) args n fit =
    of_q_constant_fits t (q t) (λ a. arg.R16 (shifted_right t n a)) (λ a. (refl, law.shifted_right_is t n a)) args fit
gives_its_kind (form.Lengthen op t) args n fit =
    of_d_d_fits (lane_of t) (q (wide_of t)) (λ a b. arg.R16 (lengthened op (lane_of t) a b)) (λ a b. (refl, law.lengthened_is op (lane_of t) a b (is_narrow t))) args fit
gives_its_kind (form.LengthenHigh op t) args n fit =
    of_q_q_fits (lane_of t) (lane_of t) (q (wide_of t)) (λ a b. arg.R16 (lengthened_high op (lane_of t) a b)) (λ a b. (refl, law.lengthened_high_is op (lane_of t) a b (is_narrow t))) args fit
gives_its_kind (form.PairSums t) args n fit = of_q_q_fits t t (q t) (λ a b. arg.R16 (pair_sums t a b)) (λ a b. (refl, law.pair_sums_is t a b)) args fit
gives_its_kind (form.LongPairSums t) args n fit =
    of_q_fits (lane_of t) (q (wide_of t)) (λ a. arg.R16 (long_pair_sums (lane_of t) a)) (λ a h. (refl, law.long_pair_sums_is (lane_of t) a (is_narrow t))) args fit
gives_its_kind (form.Reduce op t) args n fit =
    of_q_fits (lane_of t) (scalar (lane_of t)) (λ a. arg.Int (reduced op (lane_of t) 16 a)) (λ a h. reduced_below op (lane_of t) 16 a) args fit
gives_its_kind (form.ReduceHalf op t) args n fit =
    of_d_fits (lane_of t) (scalar (lane_of t)) (λ a. arg.Int (reduced op (lane_of t) 8 a)) (λ a h. reduced_below op (lane_of t) 8 a) args fit
gives_its_kind (form.Widen t) args n fit =
    of_d_fits (lane_of t) (q (wide_of t)) (λ a. arg.R16 (widened (lane_of t) a)) (λ a h. (refl, law.widened_is (lane_of t) a (is_narrow t))) args fit
gives_its_kind (form.WidenHigh t) args n fit =
    of_q_fits (lane_of t) (q (wide_of t)) (λ a. arg.R16 (widened_high (lane_of t) a)) (λ a h. (refl, law.widened_high_is (lane_of t) a (is_narrow t))) args fit
gives_its_kind (form.Narrowed op t) args n fit =
    of_q_fits (wide_of t) (d (lane_of t)) (λ a. arg.R8 (narrowed op (lane_of t) (wide_of t) a)) (λ a h. (refl, law.narrowed_is op (lane_of t) (wide_of t) a)) args fit
gives_its_kind (form.NarrowedUnsigned t) args n fit =
    of_q_fits (wide_of t) (d (unsigned_of (lane_of t))) (λ a. arg.R8 (narrowed Saturate (unsigned_of (lane_of t)) (wide_of t) a)) (λ a h. (refl, law.narrowed_is Saturate (unsigned_of (lane_of t)) (wide_of t) a)) args fit
gives_its_kind (form.ShiftNarrowed rounding t) args n fit =
    of_q_constant_fits (wide_of t) (d (lane_of t)) (λ a. arg.R8 (shift_narrowed rounding (lane_of t) n a)) (λ a. (refl, law.shift_narrowed_is rounding (lane_of t) n a)) args fit
gives_its_kind form.Extract args n fit =
    of_q_q_constant_fits (q U8) (λ lo hi. arg.R16 (extracted lo hi n)) (λ lo hi. (refl, law.extracted_is lo hi n)) args fit
gives_its_kind form.Lookup args n fit =
    of_q_q_fits U8 U8 (q U8) (λ table indices. arg.R16 (looked_up 16 table indices)) (λ table indices. (refl, law.looked_up_is 16 table indices)) args fit
gives_its_kind form.LookupPair args n fit =
    of_pair_q_fits (q U8) (λ table indices. arg.R16 (looked_up 32 table indices)) (λ table indices. (refl, law.looked_up_is 32 table indices)) args fit
gives_its_kind (form.Permuted op t) args n fit = of_q_q_fits t t (q t) (λ a b. arg.R16 (permuted op t a b)) (λ a b. (refl, law.permuted_is op t a b)) args fit
gives_its_kind (form.Reversed op) args n fit =
    of_q_fits (reversed_lane op) (q (reversed_lane op)) (λ a. arg.R16 (reversed op a)) (λ a h. (refl, law.reversed_is op a)) args fit
gives_its_kind (form.DuplicateLane t) args n fit =
    of_q_constant_fits t (q t) (λ a. arg.R16 (duplicated_lane t n a)) (λ a. (refl, law.duplicated_lane_is t n a)) args fit
gives_its_kind (form.Duplicate t) args n fit = of_integer_fits t (q t) (λ x. arg.R16 (duplicated t x)) (λ x. (refl, law.duplicated_is t x)) args fit
gives_its_kind form.Create args n fit = of_integer_fits U64 (d U8) (λ x. arg.R8 (created x)) (λ x. (refl, law.created_is x)) args fit
gives_its_kind (form.Combine t) args n fit = of_d_d_fits t (q t) (λ lo hi. arg.R16 (combined lo hi)) (λ lo hi. (refl, law.combined_is lo hi)) args fit
gives_its_kind (form.Half part t) args n fit = of_q_fits t (d t) (λ a. arg.R8 (half (part_of part) a)) (λ a h. (refl, law.half_is (part_of part) a)) args fit
gives_its_kind (form.GetLane t) args n fit = of_q_constant_fits t (scalar t) (λ a. arg.Int (element t n a)) (λ a. integer_below t _) args fit
gives_its_kind (form.SetLane t) args n fit =
    of_integer_q_constant_fits t (q t) (λ x a. arg.R16 (with_element t n x a)) (λ x a h. (refl, with_element_is t n x a h)) args fit
gives_its_kind (form.Reinterpret to from) args n fit = of_q_fits from (q to) (λ a. arg.R16 a) (λ a h. (refl, h)) args fit
gives_its_kind (form.ReinterpretHalf to from) args n fit = of_d_fits from (d to) (λ a. arg.R8 a) (λ a h. (refl, h)) args fit
gives_its_kind (form.Load transfer.D) args n fit = loaded_fits (d U8) args fit
gives_its_kind (form.Load transfer.Q) args n fit = loaded_fits (q U8) args fit
gives_its_kind (form.Load transfer.Pair) args n fit = loaded_fits kind.Pair args fit
gives_its_kind (form.Store transfer.D) args n fit = stored_fits transfer.D args fit
gives_its_kind (form.Store transfer.Q) args n fit = stored_fits transfer.Q args fit
gives_its_kind (form.Store transfer.Pair) args n fit = stored_fits transfer.Pair args fit

-- an access lies in n bytes
abbrev pub Inside : ℕ → Access → Type 0
Inside n a = a.at + a.size ≤ n

whole_inside : (n k : ℕ) (write : Bool) → IfSome (access_at n write k) (Inside n)
whole_inside n zero write = omega arith
whole_inside n (suc k) write = tt

-- accesses lie in the row's register
pub accesses_inside : (f : Form) (k : ℕ) → IfSome (access_of f k) (Inside (register_of f))
accesses_inside (form.Load what) k = whole_inside (size_of what) k false
accesses_inside (form.Store what) k = whole_inside (size_of what) k true
accesses_inside _ k = tt
