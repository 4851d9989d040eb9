-- The immediates of rows: a row has one or none, and a typed call's is a constant in the row's range.
use Rattle.std.proofs.Common.{◌≡◌, refl, sym, ap, ◌∙◌, subst, inl, inr, arith, ℕ, Bool, true, false, ◌||◌, List, [], ◌∷◌, map, Option, Some, ℤ, pos, negsuc}
use Rattle.std.proofs.lemmas.Bool.Decides.{nat_tests}
use Rattle.std.proofs.lemmas.Int.{ints}
use Rattle.std.specs.Prelude.{unsigned_abs}
use Rattle.std.specs.Ordering.{int_eq}
use Rattle.lane_core.specs.declared.number.Num.{Num}
use Rattle.lane_core.specs.declared.table.ImmRange.{ImmRange}
use Rattle.lane_core.specs.declared.table.ImmRange.TheVariants.{NoImmediate, Span, Scale}
use Rattle.lane_core.specs.declared.table.ParamKind.{ParamKind}
use Rattle.lane_core.specs.declared.table.ParamKind.TheVariants as kind
use Rattle.lane_core.specs.Table.{params_of, InImmRange}
use Rattle.const_imm.specs.Constant.{value_of}
use Rattle.c_tree.specs.Tree.{Tree, Trees, NoTrees, More}
use Rattle.intel_lanes.specs.declared.lanes.Width.TheVariants as width
use Rattle.intel_forms.specs.declared.sizes.Size.TheVariants.{Xmm, Ymm}
use Rattle.intel_forms.specs.declared.forms.Form.{Form}
use Rattle.intel_forms.specs.declared.forms.Form.TheVariants as form
use Rattle.intel_forms.specs.declared.across.Across.TheVariants as across
use Rattle.intel_forms.specs.declared.scalars.Scalar.TheVariants as scalar
use Rattle.intel_forms.specs.declared.memory.Memory.TheVariants as memory
use Rattle.intel_forms.specs.Forms.{signature_of, range_of}
use Rattle.type_rules.specs.Passing.{parameter, immediate_of, is_in_range}
use Rattle.type_rules.specs.Rules.{Passed, one_more, no_more}
use Rattle.expression_types.specs.Typed.{Immediate, immediate}
use Rattle.written_forms.specs.Moved.{constant, immediate_among}
use Rattle.written_forms.specs.Ready.{IsConstant, HasImmediate}
use Rattle.written_forms.specs.Vectors.{has_immediate}

-- ---- forms

-- at most one of these is an immediate
abbrev pub AtMostOne : List ParamKind → Type 0
AtMostOne [] = Unit {0}
AtMostOne (kind.Immediate ∷ ks) = has_immediate ks ≡ false
AtMostOne (k ∷ ks) = AtMostOne ks

-- only a row with an immediate has a range for one
abbrev pub RangeFits : List ParamKind → ImmRange → Type 0
RangeFits ks range = has_immediate ks ≡ false → range ≡ NoImmediate

pub at_most_one : (f : Form) → AtMostOne (params_of (signature_of f))
at_most_one (form.One size op) = tt
at_most_one (form.Two size op) = tt
at_most_one (form.Counted size op w) = tt
at_most_one (form.OneImm size op) = refl
at_most_one (form.TwoImm size op) = refl
at_most_one (form.BlendBytes size) = tt
at_most_one (form.Extend size signs widths) = tt
at_most_one (form.Broadcast size w) = tt
at_most_one (form.Across across.PermuteQwords) = refl
at_most_one (form.Across across.PermuteHalves) = refl
at_most_one (form.Across across.ExtractHalf) = refl
at_most_one (form.Across across.InsertHalf) = refl
at_most_one (form.Across row) = tt
at_most_one (form.Scalar (scalar.Set Xmm width.Byte)) = tt
at_most_one (form.Scalar (scalar.Set Xmm width.Word)) = tt
at_most_one (form.Scalar (scalar.Set Xmm width.Dword)) = tt
at_most_one (form.Scalar (scalar.Set Xmm width.Qword)) = tt
at_most_one (form.Scalar (scalar.Set Ymm width.Byte)) = tt
at_most_one (form.Scalar (scalar.Set Ymm width.Word)) = tt
at_most_one (form.Scalar (scalar.Set Ymm width.Dword)) = tt
at_most_one (form.Scalar (scalar.Set Ymm width.Qword)) = tt
at_most_one (form.Scalar (scalar.SetReversed Xmm width.Byte)) = tt
at_most_one (form.Scalar (scalar.SetReversed Xmm width.Word)) = tt
at_most_one (form.Scalar (scalar.SetReversed Xmm width.Dword)) = tt
at_most_one (form.Scalar (scalar.SetReversed Xmm width.Qword)) = tt
at_most_one (form.Scalar (scalar.SetReversed Ymm width.Byte)) = tt
at_most_one (form.Scalar (scalar.SetReversed Ymm width.Word)) = tt
at_most_one (form.Scalar (scalar.SetReversed Ymm width.Dword)) = tt
at_most_one (form.Scalar (scalar.SetReversed Ymm width.Qword)) = tt
at_most_one (form.Scalar (scalar.Extract size w)) = refl
at_most_one (form.Scalar (scalar.Insert size w)) = refl
at_most_one (form.Scalar row) = tt
at_most_one (form.Memory (memory.Gather size indexing)) = refl
at_most_one (form.Memory (memory.MaskGather size indexing)) = refl
at_most_one (form.Memory row) = tt

pub range_fits : (f : Form) → RangeFits (params_of (signature_of f)) (range_of f)
range_fits (form.OneImm size op) h = absurd (cc)
range_fits (form.TwoImm size op) h = absurd (cc)
range_fits (form.Across across.PermuteQwords) h = absurd (cc)
range_fits (form.Across across.PermuteHalves) h = absurd (cc)
range_fits (form.Across across.ExtractHalf) h = absurd (cc)
range_fits (form.Across across.InsertHalf) h = absurd (cc)
range_fits (form.Across row) h = refl
range_fits (form.Scalar (scalar.Extract size w)) h = absurd (cc)
range_fits (form.Scalar (scalar.Insert size w)) h = absurd (cc)
range_fits (form.Scalar row) h = refl
range_fits (form.Memory (memory.Gather size indexing)) h = absurd (cc)
range_fits (form.Memory (memory.MaskGather size indexing)) h = absurd (cc)
range_fits (form.Memory row) h = refl
range_fits f h = refl

-- ---- ranges

-- the value is a number in the range
pub record Fitting (range : ImmRange) (z : ℤ) : Type 0 where
  pub m : ℕ
  pub is : z ≡ pos m
  pub fits : InImmRange range m

same_number : (m k : ℕ) → int_eq (pos m) (pos k) ≡ true → m ≡ k
same_number m k h = grind (arith, ints, nat_tests, h)

scale_of : (m : ℕ) (a b c d : Bool) → int_eq (pos m) (pos 1) ≡ a → int_eq (pos m) (pos 2) ≡ b → int_eq (pos m) (pos 4) ≡ c → int_eq (pos m) (pos 8) ≡ d → (a || b || c || d) ≡ true → InImmRange Scale m
scale_of m true b c d e f g i h = inl (same_number m 1 e)
scale_of m false true c d e f g i h = inr (inl (same_number m 2 f))
scale_of m false false true d e f g i h = inr (inr (inl (same_number m 4 g)))
scale_of m false false false true e f g i h = inr (inr (inr (same_number m 8 i)))
scale_of m false false false false e f g i h = absurd (cc)

pub fitting : (range : ImmRange) (z : ℤ) → is_in_range range z ≡ true → Fitting range z
fitting NoImmediate (pos m) h = record { m = m; is = refl; fits = same_number m 0 h }
fitting NoImmediate (negsuc m) h = absurd (cc)
fitting (Span low high) (pos m) h = record { m = m; is = refl; fits = (grind (arith, nat_tests, h), grind (arith, nat_tests, h)) }
fitting (Span low high) (negsuc m) h = absurd (grind (arith, nat_tests, h))
fitting Scale (pos m) h = record { m = m; is = refl; fits = scale_of m (int_eq (pos m) (pos 1)) (int_eq (pos m) (pos 2)) (int_eq (pos m) (pos 4)) (int_eq (pos m) (pos 8)) refl refl refl refl h }
fitting Scale (negsuc m) h = absurd (cc)

-- ---- arguments

none_among : (ks : List ParamKind) (all : Trees) → has_immediate ks ≡ false → immediate_among ks all ≡ 0
none_among [] all h = refl
none_among (kind.Immediate ∷ ks) all h = absurd (cc)
none_among (k ∷ ks) NoTrees h = refl
none_among (k ∷ ks) (More a rest) h = none_among ks rest h

has_none : (ks : List ParamKind) (all args : Trees) (imm : ℕ) → has_immediate ks ≡ false → Passed (map parameter ks) all args → HasImmediate ks args imm
has_none [] all args imm h no_more = tt
has_none (kind.Immediate ∷ ks) all args imm h p = absurd (cc)
has_none (k ∷ ks) all args imm h (one_more t ts a b more rest g p) = has_none ks more rest imm h p

-- the immediate among these arguments is in the range, and is a constant where it stands
pub record Told (ks : List ParamKind) (range : ImmRange) (args : Trees) : Type 0 where
  pub in_range : InImmRange range (immediate_among ks args)
  pub is : HasImmediate ks args (immediate_among ks args)
  pub none : has_immediate ks ≡ false → immediate_among ks args ≡ 0

of_constant : (ks : List ParamKind) (range : ImmRange) (a : Tree) (all rest : Trees) (o : Option Num) → value_of a ≡ o → Immediate range (Some a) → has_immediate ks ≡ false → Passed (map parameter ks) all rest
    → Told (kind.Immediate ∷ ks) range (More a rest)
of_constant ks range a all rest o e (immediate b n g r) h p =
    let f = fitting range n.value r in
    let value : constant (value_of a) ≡ f.m = ap constant g ∙ ap unsigned_abs f.is in
    record {
      in_range = subst (InImmRange range) (sym value) f.fits;
      is = (subst (λ m. IsConstant (value_of a) m) (sym value) (subst (λ z. IsConstant z f.m) (sym g) f.is), has_none ks all rest (constant (value_of a)) h p);
      none = λ x. absurd (cc);
    }

pub told : (ks : List ParamKind) (range : ImmRange) → AtMostOne ks → RangeFits ks range → (all args : Trees) → Passed (map parameter ks) all args → Immediate range (immediate_of (map parameter ks) args)
    → Told ks range args
told [] range one fits all args no_more i = record { in_range = subst (λ r. InImmRange r 0) (sym (fits refl)) refl; is = tt; none = λ x. refl }
told (kind.Immediate ∷ ks) range one fits all args (one_more t ts a b more rest g p) i = of_constant ks range b more rest (value_of b) refl i one p
told (k ∷ ks) range one fits all args (one_more t ts a b more rest g p) i = let more_told = told ks range one fits more rest p i in record { in_range = more_told.in_range; is = more_told.is; none = more_told.none }
