-- What the parameters and results of rows are, by the rows' forms: the type that a call sees is the type that a term has there.
use Rattle.std.proofs.Common.{inl, inr, ◌≡◌, ℕ, ◌-◌, ◌/◌, ◌≤◌, Bool, true, false, ◌&&◌, List, [], ◌∷◌, refl, ap, ◌∙◌, arith}
use Rattle.std.specs.Prelude.{pos, int_le}
use Rattle.std.proofs.lemmas.Int.{ints}
use Rattle.lane_core.specs.declared.number.IntType.TheVariants as int
use Rattle.lane_core.specs.declared.vector.NeonLane.{NeonLane}
use Rattle.lane_core.specs.declared.vector.NeonLane.TheVariants.{U8}
use Rattle.lane_core.specs.declared.table.ParamKind.{ParamKind}
use Rattle.lane_core.specs.declared.table.ParamKind.TheVariants as kind
use Rattle.lane_core.specs.declared.table.ImmRange.{ImmRange}
use Rattle.lane_core.specs.declared.table.ImmRange.TheVariants.{NoImmediate, Span, Scale}
use Rattle.lane_core.specs.Table.{params_of, InImmRange}
use Rattle.scalar_core.specs.Wrapping.{wrapped_same}
use Rattle.scalar_core.specs.Numbers.{num_of}
use Rattle.neon_elements.specs.Elements.{bytes_of}
use Rattle.neon_forms.specs.declared.forms.Form.{Form}
use Rattle.neon_forms.specs.declared.forms.Form.TheVariants as form
use Rattle.neon_forms.specs.declared.forms.Transfer.TheVariants as transfer
use Rattle.neon_forms.specs.declared.forms.Narrow.TheVariants as narrow
use Rattle.neon_forms.specs.Forms.{signature_of, range_of, lane_of}
use Rattle.type_rules.specs.Passing.{kind_type, is_in_range}
use Rattle.seq_core.specs.Formed.{type_of_kind}

-- the kind is that of an operand or of the constant
abbrev pub is_taken : ParamKind → Bool
is_taken (kind.Lane t wide) = true
is_taken kind.Pair = true
is_taken (kind.Scalar t) = true
is_taken kind.Immediate = true
is_taken (kind.PointerTo e c) = true
is_taken k = false

abbrev pub are_taken : List ParamKind → Bool
are_taken [] = true
are_taken (k ∷ ks) = is_taken k && are_taken ks

pub all_taken : (f : Form) → are_taken (params_of (signature_of f)) ≡ true
all_taken (form.Store transfer.D) = refl
all_taken (form.Store transfer.Q) = refl
all_taken (form.Store transfer.Pair) = refl
all_taken _ = refl

-- the type of what a call gives
pub gives_type : (f : Form) → kind_type (signature_of f).result ≡ type_of_kind (signature_of f).result
gives_type (form.Load transfer.D) = refl
gives_type (form.Load transfer.Q) = refl
gives_type (form.Load transfer.Pair) = refl
gives_type _ = refl

-- a result is a vector, a pair or an integer that isn't of plain `char`, or there is none
abbrev pub is_given : ParamKind → Bool
is_given (kind.Lane t wide) = true
is_given kind.Pair = true
is_given (kind.Scalar int.Char) = false
is_given (kind.Scalar t) = true
is_given kind.Nothing = true
is_given k = false

pub result_given : (f : Form) → is_given (signature_of f).result ≡ true
result_given (form.Load transfer.D) = refl
result_given (form.Load transfer.Q) = refl
result_given (form.Load transfer.Pair) = refl
result_given (form.Reduce op narrow.U8) = refl
result_given (form.Reduce op _) = refl
result_given (form.ReduceHalf op narrow.U8) = refl
result_given (form.ReduceHalf op _) = refl
result_given (form.GetLane U8) = refl
result_given (form.GetLane _) = refl
result_given _ = refl

-- ---- constants

bytes_bound : (t : NeonLane) → bytes_of t ≤ 8
bytes_bound U8 = omega arith
bytes_bound _ = omega arith

places_bound : (t : NeonLane) → 16 / bytes_of t - 1 ≤ 64
places_bound U8 = omega arith
places_bound _ = omega arith

-- a row's constant is at most 64
pub constant_bound : (f : Form) (imm : ℕ) → InImmRange (range_of f) imm → imm ≤ 64
constant_bound (form.ShiftLeft t) imm h = let b = bytes_bound t in omega (arith, h.1, b)
constant_bound (form.ShiftRight t) imm h = let b = bytes_bound t in omega (arith, h.1, b)
constant_bound (form.ShiftNarrowed rounding t) imm h = let b = bytes_bound (lane_of t) in omega (arith, h.1, b)
constant_bound form.Extract imm h = omega (arith, h.1)
constant_bound (form.DuplicateLane t) imm h = let b = places_bound t in omega (arith, h.1, b)
constant_bound (form.GetLane t) imm h = let b = places_bound t in omega (arith, h.1, b)
constant_bound (form.SetLane t) imm h = let b = places_bound t in omega (arith, h.1, b)
constant_bound _ imm h = omega (arith, h)

between : (low high imm : ℕ) → low ≤ imm → imm ≤ high → (int_le (pos low) (pos imm) && int_le (pos imm) (pos high)) ≡ true
between low high imm a b = grind (arith, ints)

pub in_its_range : (r : ImmRange) (imm : ℕ) → InImmRange r imm → is_in_range r (pos imm) ≡ true
in_its_range NoImmediate imm h = rw h refl
in_its_range (Span low high) imm h = between low high imm h.0 h.1
in_its_range Scale imm (inl a) = rw a refl
in_its_range Scale imm (inr (inl b)) = rw b refl
in_its_range Scale imm (inr (inr (inl c))) = rw c refl
in_its_range Scale imm (inr (inr (inr d))) = rw d refl

-- the constant of a call is an `int` with that value
pub constant_value : (imm : ℕ) → imm ≤ 64 → (num_of int.Int (pos imm)).value ≡ pos imm
unfolding num_of
constant_value imm h = wrapped_same int.Int (pos imm) (omega (arith, ints, h), omega (arith, ints, h))

pub constant_in_range : (f : Form) (imm : ℕ) → InImmRange (range_of f) imm → is_in_range (range_of f) (num_of int.Int (pos imm)).value ≡ true
constant_in_range f imm h = ap (is_in_range (range_of f)) (constant_value imm (constant_bound f imm h)) ∙ in_its_range (range_of f) imm h
