-- The immediates of rows: a typed call's is a constant in the row's range, and a row without one has no range.
use Rattle.std.proofs.Common.{◌≡◌, refl, sym, ap, ◌∙◌, subst, inl, inr, arith, ℕ, Bool, true, false, ◌||◌, List, [], ◌∷◌, map, Option, Some, ℤ, pos, negsuc}
use Rattle.std.proofs.lemmas.Bool.Decides.{nat_tests}
use Rattle.std.proofs.lemmas.Int.{ints}
use Rattle.std.specs.Prelude.{unsigned_abs}
use Rattle.std.specs.Ordering.{int_eq}
use Rattle.lane_core.specs.declared.number.Num.{Num}
use Rattle.lane_core.specs.declared.table.ImmRange.{ImmRange}
use Rattle.lane_core.specs.declared.table.ImmRange.TheVariants.{NoImmediate, Span, Scale}
use Rattle.lane_core.specs.declared.table.ParamKind.{ParamKind}
use Rattle.lane_core.specs.declared.table.ParamKind.TheVariants as kind
use Rattle.lane_core.specs.Table.{params_of, InImmRange}
use Rattle.const_imm.specs.Constant.{value_of}
use Rattle.c_tree.specs.Tree.{Tree, Trees, NoTrees, More}
use Rattle.intel_forms.specs.declared.forms.Form.{Form}
use Rattle.intel_forms.specs.declared.forms.Form.TheVariants as form
use Rattle.intel_forms.specs.declared.across.Across.TheVariants as across
use Rattle.intel_forms.specs.declared.scalars.Scalar.TheVariants as scalar
use Rattle.intel_forms.specs.declared.memory.Memory.TheVariants as memory
use Rattle.intel_forms.specs.Forms.{signature_of, range_of}
use Rattle.type_rules.specs.Passing.{parameter, immediate_of, is_in_range}
use Rattle.type_rules.specs.Rules.{Passed, one_more, no_more}
use Rattle.expression_types.specs.Typed.{Immediate, immediate}
use Rattle.written_forms.specs.Moved.{constant, immediate_among}
use Rattle.written_forms.specs.Ready.{IsConstant}
use Rattle.written_forms.specs.Vectors.{has_immediate}

-- ---- forms

-- only a row with an immediate has a range for one
abbrev pub RangeFits : List ParamKind → ImmRange → Type 0
RangeFits ks range = has_immediate ks ≡ false → range ≡ NoImmediate

pub range_fits : (f : Form) → RangeFits (params_of (signature_of f)) (range_of f)
range_fits (form.OneImm size op) h = absurd (cc)
range_fits (form.TwoImm size op) h = absurd (cc)
range_fits (form.Across across.PermuteQwords) h = absurd (cc)
range_fits (form.Across across.PermuteHalves) h = absurd (cc)
range_fits (form.Across across.ExtractHalf) h = absurd (cc)
range_fits (form.Across across.InsertHalf) h = absurd (cc)
range_fits (form.Across row) h = refl
range_fits (form.Scalar (scalar.Extract size w)) h = absurd (cc)
range_fits (form.Scalar (scalar.Insert size w)) h = absurd (cc)
range_fits (form.Scalar row) h = refl
range_fits (form.Memory (memory.Gather size indexing)) h = absurd (cc)
range_fits (form.Memory (memory.MaskGather size indexing)) h = absurd (cc)
range_fits (form.Memory row) h = refl
range_fits f h = refl

-- ---- ranges

-- the value is a number in the range
pub record Fitting (range : ImmRange) (z : ℤ) : Type 0 where
  pub m : ℕ
  pub is : z ≡ pos m
  pub fits : InImmRange range m

same_number : (m k : ℕ) → int_eq (pos m) (pos k) ≡ true → m ≡ k
same_number m k h = grind (arith, ints, nat_tests, h)

scale_of : (m : ℕ) (a b c d : Bool) → int_eq (pos m) (pos 1) ≡ a → int_eq (pos m) (pos 2) ≡ b → int_eq (pos m) (pos 4) ≡ c → int_eq (pos m) (pos 8) ≡ d → (a || b || c || d) ≡ true → InImmRange Scale m
scale_of m true b c d e f g i h = inl (same_number m 1 e)
scale_of m false true c d e f g i h = inr (inl (same_number m 2 f))
scale_of m false false true d e f g i h = inr (inr (inl (same_number m 4 g)))
scale_of m false false false true e f g i h = inr (inr (inr (same_number m 8 i)))
scale_of m false false false false e f g i h = absurd (cc)

pub fitting : (range : ImmRange) (z : ℤ) → is_in_range range z ≡ true → Fitting range z
fitting NoImmediate (pos m) h = record { m = m; is = refl; fits = same_number m 0 h }
fitting NoImmediate (negsuc m) h = absurd (cc)
fitting (Span low high) (pos m) h = record { m = m; is = refl; fits = (grind (arith, nat_tests, h), grind (arith, nat_tests, h)) }
fitting (Span low high) (negsuc m) h = absurd (grind (arith, nat_tests, h))
fitting Scale (pos m) h = record { m = m; is = refl; fits = scale_of m (int_eq (pos m) (pos 1)) (int_eq (pos m) (pos 2)) (int_eq (pos m) (pos 4)) (int_eq (pos m) (pos 8)) refl refl refl refl h }
fitting Scale (negsuc m) h = absurd (cc)

-- ---- arguments

-- the immediate among these arguments is in the range, and is a constant where it stands
pub record Told (ks : List ParamKind) (range : ImmRange) (args : Trees) : Type 0 where
  pub in_range : InImmRange range (immediate_among ks args)
  pub none : has_immediate ks ≡ false → immediate_among ks args ≡ 0

of_constant : (ks : List ParamKind) (range : ImmRange) (a : Tree) (rest : Trees) → Immediate range (Some a) → Told (kind.Immediate ∷ ks) range (More a rest)
of_constant ks range a rest (immediate b n g r) =
    let f = fitting range n.value r in
    let value : constant (value_of a) ≡ f.m = ap constant g ∙ ap unsigned_abs f.is in
    record { in_range = subst (InImmRange range) (sym value) f.fits; none = λ x. absurd (cc) }

pub told : (ks : List ParamKind) (range : ImmRange) → RangeFits ks range → (all args : Trees) → Passed (map parameter ks) all args → Immediate range (immediate_of (map parameter ks) args)
    → Told ks range args
told [] range fits all args no_more i = record { in_range = subst (λ r. InImmRange r 0) (sym (fits refl)) refl; none = λ x. refl }
told (kind.Immediate ∷ ks) range fits all args (one_more t ts a b more rest g p) i = of_constant ks range b rest i
told (k ∷ ks) range fits all args (one_more t ts a b more rest g p) i = let more_told = told ks range fits more rest p i in record { in_range = more_told.in_range; none = more_told.none }
