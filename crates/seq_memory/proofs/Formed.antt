-- What holds of every plan.
use Rattle.std.specs.Prelude.{◌==◌, if◌then◌else◌}
use Rattle.std.proofs.lemmas.Int.{ints}
use Rattle.std.proofs.Common.{rules, refl, pos, ◌≡◌, ◌≤◌, ◌∙◌, ℕ, List, [], ◌∷◌, Bool, true, false, Some, ap, sym, subst, arith, length}
use Rattle.scalar_core.specs.Numbers.{num_of}
use Rattle.lane_core.specs.declared.number.IntType.TheVariants as int
use Rattle.intel_lanes.specs.declared.lanes.Width.TheVariants.{Qword}
use Rattle.intel_forms.specs.Forms.{is_scalar}
use Rattle.intel_forms.specs.declared.forms.Form.{Form}
use Rattle.intel_forms.specs.declared.forms.Form.TheVariants as form
use Rattle.intel_forms.specs.declared.memory.Memory.TheVariants as row
use Rattle.intel_forms.specs.declared.sizes.Size.TheVariants.{Xmm}
use Rattle.intel_table.specs.declared.IntelOp.{IntelOp}
use Rattle.intel_table.specs.Rows.{form_of}
use Rattle.lane_core.specs.declared.table.ParamKind.TheVariants as kind
use Rattle.lane_core.specs.declared.vector.Pointee.{Pointee}
use Rattle.lane_core.specs.declared.vector.Pointee.TheVariants.{M128}
use Rattle.intel_forms.specs.Sizes.{vector_type, lane_type}
use Rattle.lane_core.specs.Table.{params_of}
use Rattle.c_memory.specs.declared.value.Value.{Value}
use Rattle.intel_forms.specs.Forms as forms
use Rattle.intel_forms.specs.declared.memory.Indexing.TheVariants.{QwordsByDwords}
use Rattle.neon_move.specs.declared.MoveOp.TheVariants.{Bytes}
use Rattle.neon_move.specs.declared.bytes.Bytes.TheVariants.{Vld1qU8, Vst1qU8}
use Rattle.neon_table.specs.Rows.{of_move}
use Rattle.seq_core.specs.Actions.{sequence_in}
use Rattle.seq_core.specs.Terms.{Sequence, Param}
use Rattle.seq_core.specs.Called.{plain, rows_called}
use Rattle.seq_core.specs.Formed.{WellFormed, IsConstant}
use Rattle.seq_core.specs.Constants.{natural_is_constant}
use Rattle.seq_memory.specs.Plans.{one, two, reading, storing, low_loaded, low_stored, masked_qwords, gathered_qwords, merged_qwords, power_of, plan_of, ceiling_of}
use Rattle.seq_memory.specs.Claims.{Asked, operands, DoesAsTheRow}
use Rattle.seq_memory.proofs.Moves.{Directly, loads, stores}
use Rattle.seq_memory.proofs.Halves.{low_loads, low_stores}
use Rattle.seq_memory.proofs.Masks.{masked}
use Rattle.seq_memory.proofs.Gathers.{gathers}
use Rattle.seq_memory.proofs.Merges.{merges}

same : {q r : Sequence} → Some q ≡ Some r → q ≡ r
same e = cc

-- a row without a constant has its sequence over its own values
direct : (op : IntelOp) (f : Form) (imm : ℕ) (q : Sequence) → form_of op ≡ f → ((vs : List Value) → Asked f imm vs → Asked f 0 vs) → ((vs : List Value) → operands (params_of (forms.signature_of f)) vs ≡ vs) → Directly op q → DoesAsTheRow op imm q
direct op f imm q e s k d vs memory after o a h =
    ap (λ us. sequence_in q us memory) (ap (λ g. operands (params_of (forms.signature_of g)) vs) e ∙ k vs)
    ∙ d vs memory after o (subst (λ g. Asked g 0 vs) (sym e) (s vs (subst (λ g. Asked g imm vs) e a))) h

only_pointer : (e : Pointee) (c : Bool) (vs : List Value) → operands (kind.PointerTo e c ∷ []) vs ≡ vs
only_pointer e c [] = refl
only_pointer e c (v ∷ vs) = refl

pointer_and_register : (e : Pointee) (c : Bool) (vs : List Value) → operands (kind.PointerTo e c ∷ kind.Reg 16 ∷ []) vs ≡ vs
pointer_and_register e c [] = refl
pointer_and_register e c (v ∷ []) = refl
pointer_and_register e c (v ∷ w ∷ vs) = refl

pub does : (op : IntelOp) (f : Form) (imm : ℕ) → form_of op ≡ f → (q : Sequence) → plan_of f imm ≡ Some q → DoesAsTheRow op imm q
does op (form.Memory (row.Load Xmm aligned)) imm e q h = subst (DoesAsTheRow op imm) (same h) (direct op (form.Memory (row.Load Xmm aligned)) imm (reading (one (of_move (Bytes Vld1qU8)) (Param 0))) e (λ vs x. x) (only_pointer (vector_type Xmm) true) (loads op aligned e))
does op (form.Memory (row.Store Xmm aligned)) imm e q h = subst (DoesAsTheRow op imm) (same h) (direct op (form.Memory (row.Store Xmm aligned)) imm (storing (two (of_move (Bytes Vst1qU8)) (Param 0) (Param 1))) e (λ vs x. x) (pointer_and_register (vector_type Xmm) false) (stores op aligned e))
does op (form.Memory row.LoadLow) imm e q h = subst (DoesAsTheRow op imm) (same h) (direct op (form.Memory row.LoadLow) imm (reading low_loaded) e (λ vs x. x) (only_pointer M128 true) (low_loads op e))
does op (form.Memory row.StoreLow) imm e q h = subst (DoesAsTheRow op imm) (same h) (direct op (form.Memory row.StoreLow) imm (storing low_stored) e (λ vs x. x) (pointer_and_register M128 false) (low_stores op e))
does op (form.Memory (row.MaskLoad Xmm Qword)) imm e q h = subst (DoesAsTheRow op imm) (same h) (direct op (form.Memory (row.MaskLoad Xmm Qword)) imm masked_qwords e (λ vs x. x) (pointer_and_register (Pointee.Int (lane_type Qword)) true) (masked op e))
does op (form.Memory (row.Gather Xmm QwordsByDwords)) imm e q h = subst (DoesAsTheRow op imm) (same h) (gathers op imm e)
does op (form.Memory (row.MaskGather Xmm QwordsByDwords)) imm e q h = subst (DoesAsTheRow op imm) (same h) (merges op imm e)
does op _ imm e q h = absurd (grind (arith, h))

-- it calls so many rows at most, and has no scalar parts where the row isn't scalar by nature
abbrev pub Fine : Form → Sequence → Type 0
Fine f q = WellFormed q × (length (rows_called q) ≤ ceiling_of f) × (is_scalar f ≡ false → plain q ≡ true)

no_bits : IsConstant (num_of int.ULong (pos 0))
no_bits = natural_is_constant int.ULong 0 refl (omega (arith, ints), omega (arith, ints))

eight : IsConstant (num_of int.Int (pos 8))
eight = natural_is_constant int.Int 8 refl (omega (arith, ints), omega (arith, ints))

low_load_fine : Fine (form.Memory row.LoadLow) (reading low_loaded)
unfolding num_of
low_load_fine = search (rules, arith, no_bits) depth 16

masked_fine : Fine (form.Memory (row.MaskLoad Xmm Qword)) masked_qwords
unfolding num_of
masked_fine = search (rules, arith, no_bits, eight) depth 24

power_below : (s : ℕ) → power_of s ≤ 63
power_below s = by_eight (s == 8)
  where
    by_two : (t : Bool) → (if t then 1 else 0) ≤ 63
    by_two true = omega arith
    by_two false = omega arith

    by_four : (t u : Bool) → (if t then 2 else (if u then 1 else 0)) ≤ 63
    by_four true u = omega arith
    by_four false u = by_two u

    by_eight : (t : Bool) → (if t then 3 else (if s == 4 then 2 else (if s == 2 then 1 else 0))) ≤ 63
    by_eight true = omega arith
    by_eight false = by_four (s == 4) (s == 2)

gathers_fine : (imm : ℕ) → Fine (form.Memory (row.Gather Xmm QwordsByDwords)) (gathered_qwords imm)
gathers_fine imm = let l = power_below imm in search (rules, arith, l, eight) depth 24

merges_fine : (imm : ℕ) → Fine (form.Memory (row.MaskGather Xmm QwordsByDwords)) (merged_qwords imm)
merges_fine imm = let l = power_below imm in search (rules, arith, l, eight) depth 24

pub fine : (f : Form) (imm : ℕ) (q : Sequence) → plan_of f imm ≡ Some q → Fine f q
fine (form.Memory (row.Load Xmm aligned)) imm q h = subst (Fine (form.Memory (row.Load Xmm aligned))) (same h) (search (rules, arith) depth 12)
fine (form.Memory (row.Store Xmm aligned)) imm q h = subst (Fine (form.Memory (row.Store Xmm aligned))) (same h) (search (rules, arith) depth 12)
fine (form.Memory row.LoadLow) imm q h = subst (Fine (form.Memory row.LoadLow)) (same h) low_load_fine
fine (form.Memory row.StoreLow) imm q h = subst (Fine (form.Memory row.StoreLow)) (same h) (search (rules, arith) depth 16)
fine (form.Memory (row.MaskLoad Xmm Qword)) imm q h = subst (Fine (form.Memory (row.MaskLoad Xmm Qword))) (same h) masked_fine
fine (form.Memory (row.Gather Xmm QwordsByDwords)) imm q h = subst (Fine (form.Memory (row.Gather Xmm QwordsByDwords))) (same h) (gathers_fine imm)
fine (form.Memory (row.MaskGather Xmm QwordsByDwords)) imm q h = subst (Fine (form.Memory (row.MaskGather Xmm QwordsByDwords))) (same h) (merges_fine imm)
fine _ imm q h = absurd (grind (arith, h))
