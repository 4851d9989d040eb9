-- The Neon row that stands for a row has its value.
use Rattle.std.proofs.Common.{◌≡◌, ℕ, ◌+◌, ◌-◌, ◌/◌, ◌%◌, ◌^◌, ◌<◌, List, [], ◌∷◌, Bool, true, false, cond, Option, Some, None, refl, sym, ◌∙◌, ap, arith, inl, inr}
use Rattle.std.specs.Prelude.{pos, ◌-ℤ◌, min, bit_xor, nat_lt, codes, bytes_eq}
use Rattle.std.proofs.lemmas.Slice.Eq.{bytes_eq-Decides}
use Rattle.std.proofs.Math.Nat.{mod-mod}
use Rattle.std.proofs.lemmas.Bool.Decides.{nat_tests}
use Rattle.lane_core.specs.Register.{IsRegister, wrapped}
use Rattle.lane_core.specs.Kernels.{map2_of}
use Rattle.lane_core.proofs.Laws.{map2_same, IsRegister-map2}
use Rattle.c_text.specs.declared.tokens.Dialect.TheVariants.{X86, Neon}
use Rattle.simd_top.specs.declared.rows.FormRow.{FormRow}
use Rattle.simd_top.specs.declared.rows.FormRow.TheVariants.{AddEpi8, SubEpi8, AvgEpu8, MinEpu8, XorSi128}
use Rattle.row_names.specs.Groups.{first_named}
use Rattle.lane_core.specs.declared.vector.NeonLane.TheVariants.{U8}
use Rattle.neon_elements.specs.declared.elements.Binary.{Binary}
use Rattle.neon_elements.specs.declared.elements.Binary.TheVariants.{Add, Sub, RoundingHalvingAdd, Min, Eor}
use Rattle.neon_elements.specs.Elements.{binary_of}
use Rattle.neon_elements.specs.Vectors.{each2}
use Rattle.neon_lane.specs.ArithmeticRows as neon_arithmetic
use Rattle.neon_lane.specs.SaturatingRows as neon_saturating
use Rattle.neon_lane.specs.ExtremesRows as neon_extremes
use Rattle.neon_lane.specs.LogicRows as neon_logic
use Rattle.intel_lanes.specs.Blocks.{lanes2}
use Rattle.intel_base.specs.ArithmeticRows.{arithmetic_rows}
use Rattle.intel_base.specs.LogicRows.{logic_rows}
use Rattle.intel_table.specs.Rows as intel_table
use Rattle.neon_table.specs.Rows as neon_table
use Rattle.c_memory.specs.declared.value.Value.{Value}
use Rattle.c_memory.specs.MeaningState.{State, Done}
use Rattle.simd_top.specs.Ran.{rows}
use Rattle.simd_top.specs.Rows.{intel_row, neon_name, moved_row}

-- lane j of a row's result, of lanes j of a and b, in the words of Intel's Guide
abbrev lane_of : FormRow → ℕ → ℕ → ℕ
lane_of AddEpi8 x y = x + y
lane_of SubEpi8 x y = wrapped 1 (pos x -ℤ pos y)
lane_of AvgEpu8 x y = (x + y + 1) / 2 ^ 1
lane_of MinEpu8 x y = min x y
lane_of XorSi128 x y = bit_xor x y

-- the row's result, for registers a and b
unfoldable pub row_of : FormRow → List ℕ → List ℕ → List ℕ
row_of op a b = map2_of 1 16 (lane_of op) a b

-- what the Neon row does to two bytes, in the words of Arm's reference
abbrev element_by : FormRow → Binary
element_by AddEpi8 = Add
element_by SubEpi8 = Sub
element_by AvgEpu8 = RoundingHalvingAdd
element_by MinEpu8 = Min
element_by XorSi128 = Eor

-- the Neon row's result
abbrev pub moved_row_of : FormRow → List ℕ → List ℕ → List ℕ
moved_row_of op a b = each2 (element_by op) U8 a b

least : (x y : ℕ) → min x y % 256 ≡ cond (nat_lt y x) y x % 256
least x y = grind (arith, nat_tests)

lanes_same : (op : FormRow) (x y : ℕ) → x < 256 ^ 1 → y < 256 ^ 1 → lane_of op x y % 256 ^ 1 ≡ binary_of (element_by op) U8 x y % 256 ^ 1
unfolding wrapped
lanes_same AddEpi8 x y h k = refl
lanes_same SubEpi8 x y h k = refl
lanes_same AvgEpu8 x y h k = sym (mod-mod ((x + y + 1) / 2) 256)
lanes_same MinEpu8 x y h k = least x y
lanes_same XorSi128 x y h k = refl

pub rows_same : (op : FormRow) (a b : List ℕ) → IsRegister 16 a → IsRegister 16 b → row_of op a b ≡ moved_row_of op a b
unfolding row_of each2
rows_same op a b h k = map2_same 1 16 (lane_of op) (binary_of (element_by op) U8) a b h.bytes k.bytes (lanes_same op)

pub row_register : (op : FormRow) (a b : List ℕ) → IsRegister 16 (row_of op a b)
unfolding row_of
row_register op a b = IsRegister-map2 1 16 (lane_of op) a b (inl refl) (inr (inl refl))

-- the name of a row of the form, in the x86 dialect
abbrev pub intel_name : FormRow → List ℕ
intel_name AddEpi8 = codes "_mm_add_epi8"
intel_name SubEpi8 = codes "_mm_sub_epi8"
intel_name AvgEpu8 = codes "_mm_avg_epu8"
intel_name MinEpu8 = codes "_mm_min_epu8"
intel_name XorSi128 = codes "_mm_xor_si128"

-- one test in a row of tests
tested : (f x : List ℕ) (a op : FormRow) (rest : Option FormRow) → x ≡ intel_name a → (rest ≡ Some op → f ≡ intel_name op) → cond (bytes_eq f x) (Some a) rest ≡ Some op → f ≡ intel_name op
tested f x a op rest is k h = go (bytes_eq f x) refl h
  where
    go : (v : Bool) → bytes_eq f x ≡ v → cond v (Some a) rest ≡ Some op → f ≡ intel_name op
    go true s e = let same : a ≡ op = cc in (bytes_eq-Decides f x).0 s ∙ is ∙ ap intel_name same
    go false s e = k e

pub named : (f : List ℕ) (op : FormRow) → intel_row f ≡ Some op → f ≡ intel_name op
named f op h =
    tested f (codes "_mm_add_epi8") AddEpi8 op _ refl
    (tested f (codes "_mm_sub_epi8") SubEpi8 op _ refl
    (tested f (codes "_mm_avg_epu8") AvgEpu8 op _ refl
    (tested f (codes "_mm_min_epu8") MinEpu8 op _ refl
    (tested f (codes "_mm_xor_si128") XorSi128 op None refl (λ e. absurd (cc)))))) h

-- a call of the row, with two registers
pub intel_call : (op : FormRow) (a b : List ℕ) (s : State) →
    rows X86 (intel_name op) (Value.R16 a ∷ Value.R16 b ∷ []) s ≡ Done (Some (Value.R16 (row_of op a b))) s
unfolding intel_table.find_of intel_table.base_rows first_named arithmetic_rows logic_rows lanes2 row_of
intel_call AddEpi8 a b s = refl
intel_call SubEpi8 a b s = refl
intel_call AvgEpu8 a b s = refl
intel_call MinEpu8 a b s = refl
intel_call XorSi128 a b s = refl

-- and of the Neon row that stands for it
pub neon_call : (op : FormRow) (a b : List ℕ) (s : State) →
    rows Neon (neon_name (moved_row op)) (Value.R16 a ∷ Value.R16 b ∷ []) s ≡ Done (Some (Value.R16 (moved_row_of op a b))) s
unfolding neon_table.find_of neon_table.lane_rows first_named neon_arithmetic.arithmetic_rows neon_saturating.saturating_rows neon_extremes.extremes_rows neon_logic.logic_rows
neon_call AddEpi8 a b s = refl
neon_call SubEpi8 a b s = refl
neon_call AvgEpu8 a b s = refl
neon_call MinEpu8 a b s = refl
neon_call XorSi128 a b s = refl
