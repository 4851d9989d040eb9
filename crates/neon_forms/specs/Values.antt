-- The values of rows, by the formula of each form over the row's arguments.
use Rattle.std.specs.Prelude.{ℕ, List, [], ◌∷◌}
use Rattle.lane_core.specs.declared.table.Arg.{Arg}
use Rattle.lane_core.specs.declared.table.Arg.TheVariants as arg
use Rattle.neon_elements.specs.declared.elements.Narrowing.TheVariants.{Saturate}
use Rattle.neon_elements.specs.Vectors.{each1, each2, compared, selected, shifted, shifted_left, shifted_right, lengthened, lengthened_high, pair_sums, long_pair_sums, reduced, widened, widened_high, narrowed, shift_narrowed, extracted, looked_up, permuted, reversed, duplicated_lane, duplicated, created, combined, half, element, with_element}
use Rattle.neon_forms.specs.declared.forms.Part.{Part}
use Rattle.neon_forms.specs.declared.forms.Part.TheVariants.{Low, High}
use Rattle.neon_forms.specs.declared.forms.Form.{Form}
use Rattle.neon_forms.specs.declared.forms.Form.TheVariants as form
use Rattle.neon_forms.specs.Forms.{lane_of, wide_of, unsigned_of}

-- f of the arguments, where they are such vectors: of 16 bytes (q), of 8 (d), a pair of 16 bytes each, an integer, or the place of a constant
abbrev pub of_q : (List ℕ → Arg) → List Arg → Arg
of_q f (arg.R16 a ∷ []) = f a
of_q f _ = arg.Nothing

abbrev pub of_d : (List ℕ → Arg) → List Arg → Arg
of_d f (arg.R8 a ∷ []) = f a
of_d f _ = arg.Nothing

abbrev pub of_q_q : (List ℕ → List ℕ → Arg) → List Arg → Arg
of_q_q f (arg.R16 a ∷ arg.R16 b ∷ []) = f a b
of_q_q f _ = arg.Nothing

abbrev pub of_d_d : (List ℕ → List ℕ → Arg) → List Arg → Arg
of_d_d f (arg.R8 a ∷ arg.R8 b ∷ []) = f a b
of_d_d f _ = arg.Nothing

abbrev pub of_pair_q : (List ℕ → List ℕ → Arg) → List Arg → Arg
of_pair_q f (arg.R32 a ∷ arg.R16 b ∷ []) = f a b
of_pair_q f _ = arg.Nothing

abbrev pub of_q_q_q : (List ℕ → List ℕ → List ℕ → Arg) → List Arg → Arg
of_q_q_q f (arg.R16 a ∷ arg.R16 b ∷ arg.R16 c ∷ []) = f a b c
of_q_q_q f _ = arg.Nothing

abbrev pub of_q_constant : (List ℕ → Arg) → List Arg → Arg
of_q_constant f (arg.R16 a ∷ arg.Nothing ∷ []) = f a
of_q_constant f _ = arg.Nothing

abbrev pub of_q_q_constant : (List ℕ → List ℕ → Arg) → List Arg → Arg
of_q_q_constant f (arg.R16 a ∷ arg.R16 b ∷ arg.Nothing ∷ []) = f a b
of_q_q_constant f _ = arg.Nothing

abbrev pub of_integer : (ℕ → Arg) → List Arg → Arg
of_integer f (arg.Int x ∷ []) = f x
of_integer f _ = arg.Nothing

abbrev pub of_integer_q_constant : (ℕ → List ℕ → Arg) → List Arg → Arg
of_integer_q_constant f (arg.Int x ∷ arg.R16 a ∷ arg.Nothing ∷ []) = f x a
of_integer_q_constant f _ = arg.Nothing

-- the vector beside an address: the bytes read, or the vector that is stored
abbrev pub of_address : List Arg → Arg
of_address (arg.Nothing ∷ v ∷ []) = v
of_address _ = arg.Nothing

abbrev pub part_of : Part → ℕ
part_of Low = 0
part_of High = 1

-- the value of a row of the form; n is its constant
abbrev pub value_of : Form → List Arg → ℕ → Arg
value_of (form.Each1 op t) args n = of_q (λ a. arg.R16 (each1 op t a)) args
value_of (form.Each2 op t) args n = of_q_q (λ a b. arg.R16 (each2 op t a b)) args
value_of (form.Compared op t) args n = of_q_q (λ a b. arg.R16 (compared op t a b)) args
value_of (form.Select t) args n = of_q_q_q (λ mask a b. arg.R16 (selected t mask a b)) args
value_of (form.ShiftBy t) args n = of_q_q (λ a c. arg.R16 (shifted t a c)) args
value_of (form.ShiftLeft t) args n = of_q_constant (λ a. arg.R16 (shifted_left t n a)) args
value_of (form.ShiftRight t) args n = of_q_constant (λ a. arg.R16 (shifted_right t n a)) args
value_of (form.Lengthen op t) args n = of_d_d (λ a b. arg.R16 (lengthened op (lane_of t) a b)) args
value_of (form.LengthenHigh op t) args n = of_q_q (λ a b. arg.R16 (lengthened_high op (lane_of t) a b)) args
value_of (form.PairSums t) args n = of_q_q (λ a b. arg.R16 (pair_sums t a b)) args
value_of (form.LongPairSums t) args n = of_q (λ a. arg.R16 (long_pair_sums (lane_of t) a)) args
value_of (form.Reduce op t) args n = of_q (λ a. arg.Int (reduced op (lane_of t) 16 a)) args
value_of (form.ReduceHalf op t) args n = of_d (λ a. arg.Int (reduced op (lane_of t) 8 a)) args
value_of (form.Widen t) args n = of_d (λ a. arg.R16 (widened (lane_of t) a)) args
value_of (form.WidenHigh t) args n = of_q (λ a. arg.R16 (widened_high (lane_of t) a)) args
value_of (form.Narrowed op t) args n = of_q (λ a. arg.R8 (narrowed op (lane_of t) (wide_of t) a)) args
value_of (form.NarrowedUnsigned t) args n = of_q (λ a. arg.R8 (narrowed Saturate (unsigned_of (lane_of t)) (wide_of t) a)) args
value_of (form.ShiftNarrowed rounding t) args n = of_q_constant (λ a. arg.R8 (shift_narrowed rounding (lane_of t) n a)) args
value_of form.Extract args n = of_q_q_constant (λ lo hi. arg.R16 (extracted lo hi n)) args
value_of form.Lookup args n = of_q_q (λ table indices. arg.R16 (looked_up 16 table indices)) args
value_of form.LookupPair args n = of_pair_q (λ table indices. arg.R16 (looked_up 32 table indices)) args
value_of (form.Permuted op t) args n = of_q_q (λ a b. arg.R16 (permuted op t a b)) args
value_of (form.Reversed op) args n = of_q (λ a. arg.R16 (reversed op a)) args
value_of (form.DuplicateLane t) args n = of_q_constant (λ a. arg.R16 (duplicated_lane t n a)) args
value_of (form.Duplicate t) args n = of_integer (λ x. arg.R16 (duplicated t x)) args
value_of form.Create args n = of_integer (λ x. arg.R8 (created x)) args
value_of (form.Combine t) args n = of_d_d (λ lo hi. arg.R16 (combined lo hi)) args
value_of (form.Half part t) args n = of_q (λ a. arg.R8 (half (part_of part) a)) args
value_of (form.GetLane t) args n = of_q_constant (λ a. arg.Int (element t n a)) args
value_of (form.SetLane t) args n = of_integer_q_constant (λ x a. arg.R16 (with_element t n x a)) args
value_of (form.Reinterpret to from) args n = of_q (λ a. arg.R16 a) args
value_of (form.ReinterpretHalf to from) args n = of_d (λ a. arg.R8 a) args
value_of (form.Load what) args n = of_address args
value_of (form.Store what) args n = of_address args
