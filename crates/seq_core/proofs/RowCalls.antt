-- The call of a row that touches no memory gives its formula's value, and leaves the memory.
use Rattle.std.proofs.Common.{◌≡◌, ℕ, ◌<◌, ◌≤◌, ◌*◌, ◌^◌, ◌==◌, List, [], ◌∷◌, Bool, true, false, Option, Some, None, refl, sym, ap, ◌∙◌, arith, rules, pos, nat_le, inl, inr, ◌⊎◌, int_le, ◌≤ℤ◌}
use Rattle.std.proofs.lemmas.Int.{ints}
use Rattle.std.specs.Prelude.{◌&&◌, if◌then◌else◌}
use Rattle.lane_core.specs.declared.number.IntType.TheVariants as int
use Rattle.lane_core.specs.declared.vector.NeonLane.{NeonLane}
use Rattle.lane_core.specs.declared.vector.NeonLane.TheVariants.{U8, U16, U32, U64, S8, S16, S32, S64}
use Rattle.lane_core.specs.declared.table.Arg.{Arg}
use Rattle.lane_core.specs.declared.table.ImmRange.{ImmRange}
use Rattle.lane_core.specs.declared.table.ImmRange.TheVariants.{NoImmediate, Span, Scale}
use Rattle.lane_core.specs.declared.table.ParamKind.{ParamKind}
use Rattle.lane_core.specs.declared.table.ParamKind.TheVariants as kind
use Rattle.lane_core.specs.IntRange.{InRange}
use Rattle.lane_core.specs.Table.{params_of, InImmRange, reads}
use Rattle.scalar_core.specs.Numbers.{num_of}
use Rattle.scalar_core.specs.NumberLaws.{num_of_in_range}
use Rattle.neon_elements.specs.Elements.{bytes_of}
use Rattle.neon_forms.specs.declared.forms.Transfer.TheVariants as transfer
use Rattle.neon_forms.specs.declared.forms.Form.{Form}
use Rattle.neon_forms.specs.declared.forms.Form.TheVariants as form
use Rattle.neon_forms.specs.Forms as forms
use Rattle.neon_table.specs.declared.NeonOp.{NeonOp}
use Rattle.neon_table.specs.Rows.{form_of, signature_of, range_of, eval_of}
use Rattle.c_memory.specs.declared.blocks.Block.{Block}
use Rattle.c_memory.specs.declared.value.Value.{Value}
use Rattle.c_memory.specs.MeaningRows.{argument, given, fits_kind, fits_kinds, is_in_range, arguments, immediate}
use Rattle.seq_core.specs.Rows.{is_without_memory}
use Rattle.seq_core.specs.Values.{fits_operands, placed, called}
use Rattle.seq_core.specs.Actions.{with_value, called_in}

pub and_true : {a b : Bool} → a ≡ true → b ≡ true → (a && b) ≡ true
and_true h i = rw (h, i) refl

pub first_of : (a b : Bool) → (a && b) ≡ true → a ≡ true
first_of true b h = refl
first_of false b h = h

pub second_of : (a b : Bool) → (a && b) ≡ true → b ≡ true
second_of true b h = h
second_of false b h = absurd (grind (arith, h))

-- ---- the constant in its place

int_in_range : (n : ℕ) → n < 2 ^ 31 → InRange int.Int (pos n)
int_in_range n h = (omega (arith, ints), omega (arith, ints))

small : (imm : ℕ) → imm < 2 ^ 31 → (num_of int.Int (pos imm)).value ≡ pos imm
small imm h = num_of_in_range int.Int (pos imm) (int_in_range imm h)

not_negative : (n : ℕ) → int_le (pos 0) (pos n) ≡ true
not_negative n = let u : pos 0 ≤ℤ pos n = omega (arith, ints) in search (rules, u)

fit : (ks : List ParamKind) (vs : List Value) (imm : ℕ) → imm < 2 ^ 31 → fits_operands ks vs ≡ true → fits_kinds ks (with_value ks vs imm) ≡ true
fit [] [] imm l h = refl
fit [] (v ∷ vs) imm l h = absurd (grind (arith, h))
fit (kind.Immediate ∷ ks) vs imm l h = and_true (rw (small imm l) (not_negative imm)) (fit ks vs imm l h)
fit (k ∷ ks) [] imm l h = absurd (grind (arith, h))
fit (k ∷ ks) (v ∷ vs) imm l h = and_true (first_of (fits_kind k v) (fits_operands ks vs) h) (fit ks vs imm l (second_of (fits_kind k v) (fits_operands ks vs) h))

same_arguments : (ks : List ParamKind) (vs : List Value) (imm : ℕ) → fits_operands ks vs ≡ true → arguments ks (with_value ks vs imm) ≡ placed ks vs
same_arguments [] [] imm h = refl
same_arguments [] (v ∷ vs) imm h = refl
same_arguments (kind.Immediate ∷ ks) vs imm h = ap (λ xs. Arg.Nothing ∷ xs) (same_arguments ks vs imm h)
same_arguments (k ∷ ks) [] imm h = absurd (grind (arith, h))
same_arguments (k ∷ ks) (v ∷ vs) imm h = ap (λ xs. argument v ∷ xs) (same_arguments ks vs imm (second_of (fits_kind k v) (fits_operands ks vs) h))

abbrev has_constant : List ParamKind → Bool
has_constant [] = false
has_constant (kind.Immediate ∷ ks) = true
has_constant (k ∷ ks) = has_constant ks

constant_there : (ks : List ParamKind) (vs : List Value) (imm : ℕ) → imm < 2 ^ 31 → fits_operands ks vs ≡ true → has_constant ks ≡ true → immediate ks (with_value ks vs imm) ≡ imm
constant_there [] vs imm l h c = absurd (grind (arith, c))
constant_there (kind.Immediate ∷ ks) vs imm l h c = rw (small imm l) refl
constant_there (k ∷ ks) [] imm l h c = absurd (grind (arith, h))
constant_there (k ∷ ks) (v ∷ vs) imm l h c = constant_there ks vs imm l (second_of (fits_kind k v) (fits_operands ks vs) h) c

no_constant : (ks : List ParamKind) (vs : List Value) (imm : ℕ) → has_constant ks ≡ false → immediate ks (with_value ks vs imm) ≡ 0
no_constant [] vs imm c = refl
no_constant (kind.Immediate ∷ ks) vs imm c = absurd (grind (arith, c))
no_constant (k ∷ ks) [] imm c = refl
no_constant (k ∷ ks) (v ∷ vs) imm c = no_constant ks vs imm c

-- ---- what holds of each form

-- a row has a constant where it has a range for it
one_range : (f : Form) → (has_constant (params_of (forms.signature_of f)) ≡ true) ⊎ ((has_constant (params_of (forms.signature_of f)) ≡ false) × (forms.range_of f ≡ NoImmediate))
one_range (form.ShiftLeft t) = inl refl
one_range (form.ShiftRight t) = inl refl
one_range (form.ShiftNarrowed rounding t) = inl refl
one_range form.Extract = inl refl
one_range (form.DuplicateLane t) = inl refl
one_range (form.GetLane t) = inl refl
one_range (form.SetLane t) = inl refl
one_range (form.Each1 op t) = inr (refl, refl)
one_range (form.Each2 op t) = inr (refl, refl)
one_range (form.Compared op t) = inr (refl, refl)
one_range (form.Select t) = inr (refl, refl)
one_range (form.ShiftBy t) = inr (refl, refl)
one_range (form.Lengthen op t) = inr (refl, refl)
one_range (form.LengthenHigh op t) = inr (refl, refl)
one_range (form.PairSums t) = inr (refl, refl)
one_range (form.LongPairSums t) = inr (refl, refl)
one_range (form.Reduce op t) = inr (refl, refl)
one_range (form.ReduceHalf op t) = inr (refl, refl)
one_range (form.Widen t) = inr (refl, refl)
one_range (form.WidenHigh t) = inr (refl, refl)
one_range (form.Narrowed op t) = inr (refl, refl)
one_range (form.NarrowedUnsigned t) = inr (refl, refl)
one_range form.Lookup = inr (refl, refl)
one_range form.LookupPair = inr (refl, refl)
one_range (form.Permuted op t) = inr (refl, refl)
one_range (form.Reversed op) = inr (refl, refl)
one_range (form.Duplicate t) = inr (refl, refl)
one_range form.Create = inr (refl, refl)
one_range (form.Combine t) = inr (refl, refl)
one_range (form.Half part t) = inr (refl, refl)
one_range (form.Reinterpret to from) = inr (refl, refl)
one_range (form.ReinterpretHalf to from) = inr (refl, refl)
one_range (form.Load what) = inr (refl, refl)
one_range (form.Store transfer.D) = inr (refl, refl)
one_range (form.Store transfer.Q) = inr (refl, refl)
one_range (form.Store transfer.Pair) = inr (refl, refl)

-- a row that makes no access reads none
unread : (f : Form) → (forms.accesses_of f == 0) ≡ true → reads (params_of (forms.signature_of f)) ≡ false
unread (form.Load what) h = absurd (grind (arith, h))
unread (form.Store what) h = absurd (grind (arith, h))
unread _ h = refl

no_access : (f : Form) → (forms.accesses_of f == 0) ≡ true → forms.accesses_of f ≡ 0
no_access (form.Load what) h = absurd (grind (arith, h))
no_access (form.Store what) h = absurd (grind (arith, h))
no_access _ h = refl

bits_few : (t : NeonLane) (imm : ℕ) → imm ≤ 8 * bytes_of t → imm < 2 ^ 31
bits_few U8 imm h = omega (arith, h)
bits_few U16 imm h = omega (arith, h)
bits_few U32 imm h = omega (arith, h)
bits_few U64 imm h = omega (arith, h)
bits_few S8 imm h = omega (arith, h)
bits_few S16 imm h = omega (arith, h)
bits_few S32 imm h = omega (arith, h)
bits_few S64 imm h = omega (arith, h)

places_few : (t : NeonLane) (imm : ℕ) → InImmRange (forms.places t) imm → imm < 2 ^ 31
places_few U8 imm h = omega (arith, h.1)
places_few U16 imm h = omega (arith, h.1)
places_few U32 imm h = omega (arith, h.1)
places_few U64 imm h = omega (arith, h.1)
places_few S8 imm h = omega (arith, h.1)
places_few S16 imm h = omega (arith, h.1)
places_few S32 imm h = omega (arith, h.1)
places_few S64 imm h = omega (arith, h.1)

constants_few : (f : Form) (imm : ℕ) → InImmRange (forms.range_of f) imm → imm < 2 ^ 31
constants_few (form.ShiftLeft t) imm h = bits_few t imm (omega (arith, h.1))
constants_few (form.ShiftRight t) imm h = bits_few t imm h.1
constants_few (form.ShiftNarrowed rounding t) imm h = bits_few (forms.lane_of t) imm h.1
constants_few form.Extract imm h = omega (arith, h.1)
constants_few (form.DuplicateLane t) imm h = places_few t imm h
constants_few (form.GetLane t) imm h = places_few t imm h
constants_few (form.SetLane t) imm h = places_few t imm h
constants_few _ imm h = omega (arith, h)

zero_where_none : (r : ImmRange) (imm : ℕ) → r ≡ NoImmediate → InImmRange r imm → imm ≡ 0
zero_where_none NoImmediate imm e h = h
zero_where_none (Span l g) imm e h = absurd (grind (arith, e))
zero_where_none Scale imm e h = absurd (grind (arith, e))

passed_constant : (op : NeonOp) (vs : List Value) (imm : ℕ) → imm < 2 ^ 31 → fits_operands (params_of (signature_of op)) vs ≡ true → InImmRange (range_of op) imm
    → immediate (params_of (signature_of op)) (with_value (params_of (signature_of op)) vs imm) ≡ imm
passed_constant op vs imm l h r = elim (one_range (form_of op)) [
  | inl c ↦ constant_there (params_of (signature_of op)) vs imm l h c
  | inr c ↦ no_constant (params_of (signature_of op)) vs imm c.0 ∙ sym (zero_where_none (range_of op) imm c.1 r)
]

in_range : (r : ImmRange) (imm : ℕ) → InImmRange r imm → is_in_range r imm ≡ true
in_range NoImmediate imm h = rw h refl
in_range (Span l g) imm h =
    let a : l ≤ imm = h.0 in
    let b : imm ≤ g = h.1 in
    let c : nat_le l imm ≡ true = search (rules, a) in
    let d : nat_le imm g ≡ true = search (rules, b) in
    rw (c, d) refl
in_range Scale imm h = elim h [ inl e ↦ rw e refl | inr h2 ↦ elim h2 [ inl e ↦ rw e refl | inr h3 ↦ elim h3 [ inl e ↦ rw e refl | inr e ↦ rw e refl ] ] ]

-- ---- the call

has_value : (a b : Bool) (x : Option Value) (v : Value) → (if a && b then x else None) ≡ Some v → (a ≡ true) × (b ≡ true) × (x ≡ Some v)
has_value true true x v h = (refl, refl, h)
has_value true false x v h = absurd (grind (arith, h))
has_value false b x v h = absurd (grind (arith, h))

pub row_gives : (op : NeonOp) (imm : ℕ) (vs : List Value) (v : Value) (m : List Block) → InImmRange (range_of op) imm → called op imm vs ≡ Some v → called_in op imm vs m ≡ Some (Some v, m)
row_gives op imm vs v m r h =
    let ks = params_of (signature_of op) in
    let g = has_value (is_without_memory op) (fits_operands ks vs) (given (signature_of op).result (eval_of op (placed ks vs) imm)) v h in
    let l = constants_few (form_of op) imm r in
    rw (fit ks vs imm l g.1, passed_constant op vs imm l g.1 r, in_range (range_of op) imm r, no_access (form_of op) g.0, unread (form_of op) g.0, same_arguments ks vs imm g.1, g.2) refl
