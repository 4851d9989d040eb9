-- What holds of every row across blocks.
use Rattle.std.proofs.Common.{◌≡◌, ℕ, ◌≤◌, ◌/◌, ◌%◌, List, [], ◌∷◌, length, take, drop, Bool, true, false, ◌==◌, arith, refl}
use Rattle.std.specs.Prelude.{if◌then◌else◌}
use Rattle.lane_core.specs.Register.{IsRegister}
use Rattle.lane_core.specs.declared.table.Arg.{Arg}
use Rattle.lane_core.specs.declared.table.Arg.TheVariants as arg
use Rattle.lane_core.specs.declared.table.ParamKind.TheVariants as kind
use Rattle.lane_core.specs.Table.{Fits, FitsKind, FitsKinds, FitsResult}
use Rattle.lane_core.proofs.Laws.{IsRegister-build, IsRegister-low, IsRegister-high, IsRegister-join, IsRegister-zeros}
use Rattle.intel_lanes.specs.Laws.{dword, qword, ymm}
use Rattle.intel_forms.specs.declared.across.Across.{Across}
use Rattle.intel_forms.specs.declared.across.Across.TheVariants.{BroadcastHalf, ZeroExtend, LowHalf, PermuteDwords, PermuteQwords, PermuteHalves, ExtractHalf, InsertHalf}
use Rattle.intel_forms.specs.Across.{across_signature, across_value, permute_dwords, permute_qwords, half_by, permute_halves, extract_half, insert_half, broadcast_half_value, zero_extend_value, low_half_value, permute_dwords_value, permute_qwords_value, permute_halves_value, extract_half_value, insert_half_value}

pub across_counts : (row : Across) → ((across_signature row).count ≤ 32) × (length (across_signature row).params ≡ 32)
across_counts BroadcastHalf = (omega arith, refl)
across_counts _ = (omega arith, refl)

permute_dwords_is : (a index : List ℕ) → IsRegister 32 (permute_dwords a index)
unfolding permute_dwords
permute_dwords_is a index = IsRegister-build 4 32 _ dword ymm

permute_qwords_is : (a : List ℕ) (imm : ℕ) → IsRegister 32 (permute_qwords a imm)
unfolding permute_qwords
permute_qwords_is a imm = IsRegister-build 8 32 _ qword ymm

-- a choice of two registers
either : (n : ℕ) (b : Bool) (r s : List ℕ) → IsRegister n r → IsRegister n s → IsRegister n (if b then r else s)
either n true r s h k = h
either n false r s h k = k

half_by_is : (a b : List ℕ) (control : ℕ) → IsRegister 32 a → IsRegister 32 b → IsRegister 16 (half_by a b control)
half_by_is a b control h k =
    either 16 (control / 8 % 2 == 1) _ _ IsRegister-zeros
    (either 16 (control % 4 == 0) _ _ (IsRegister-low a h)
    (either 16 (control % 4 == 1) _ _ (IsRegister-high a h)
    (either 16 (control % 4 == 2) _ _ (IsRegister-low b k) (IsRegister-high b k))))

permute_halves_is : (a b : List ℕ) (imm : ℕ) → IsRegister 32 a → IsRegister 32 b → IsRegister 32 (permute_halves a b imm)
permute_halves_is a b imm h k = IsRegister-join _ _ (half_by_is a b (imm % 16) h k) (half_by_is a b (imm / 16) h k)

extract_half_is : (a : List ℕ) (imm : ℕ) → IsRegister 32 a → IsRegister 16 (extract_half a imm)
extract_half_is a imm h = either 16 (imm % 2 == 0) _ _ (IsRegister-low a h) (IsRegister-high a h)

insert_half_is : (a b : List ℕ) (imm : ℕ) → IsRegister 32 a → IsRegister 16 b → IsRegister 32 (insert_half a b imm)
insert_half_is a b imm h k =
    either 32 (imm % 2 == 0) _ _ (IsRegister-join b (drop 16 a) k (IsRegister-high a h)) (IsRegister-join (take 16 a) b (IsRegister-low a h) k)

broadcast_half_fits : (args : List Arg) → FitsKinds (kind.Reg 16 ∷ []) args → FitsKind (kind.Reg 32) (broadcast_half_value args)
broadcast_half_fits (arg.R16 a ∷ []) h = (refl, IsRegister-join a a h.0.1 h.0.1)
broadcast_half_fits _ h = grind (arith, h)

zero_extend_fits : (args : List Arg) → FitsKinds (kind.Reg 16 ∷ []) args → FitsKind (kind.Reg 32) (zero_extend_value args)
zero_extend_fits (arg.R16 a ∷ []) h = (refl, IsRegister-join a _ h.0.1 IsRegister-zeros)
zero_extend_fits _ h = grind (arith, h)

low_half_fits : (args : List Arg) → FitsKinds (kind.Reg 32 ∷ []) args → FitsKind (kind.Reg 16) (low_half_value args)
low_half_fits (arg.R32 a ∷ []) h = (refl, IsRegister-low a h.0.1)
low_half_fits _ h = grind (arith, h)

permute_dwords_fits : (args : List Arg) → FitsKinds (kind.Reg 32 ∷ kind.Reg 32 ∷ []) args → FitsKind (kind.Reg 32) (permute_dwords_value args)
permute_dwords_fits (arg.R32 a ∷ arg.R32 index ∷ []) h = (refl, permute_dwords_is a index)
permute_dwords_fits _ h = grind (arith, h)

permute_qwords_fits : (args : List Arg) (imm : ℕ) → FitsKinds (kind.Reg 32 ∷ kind.Immediate ∷ []) args → FitsKind (kind.Reg 32) (permute_qwords_value args imm)
permute_qwords_fits (arg.R32 a ∷ arg.Nothing ∷ []) imm h = (refl, permute_qwords_is a imm)
permute_qwords_fits _ imm h = grind (arith, h)

permute_halves_fits : (args : List Arg) (imm : ℕ) → FitsKinds (kind.Reg 32 ∷ kind.Reg 32 ∷ kind.Immediate ∷ []) args → FitsKind (kind.Reg 32) (permute_halves_value args imm)
permute_halves_fits (arg.R32 a ∷ arg.R32 b ∷ arg.Nothing ∷ []) imm h = (refl, permute_halves_is a b imm h.0.1 h.1.0.1)
permute_halves_fits _ imm h = grind (arith, h)

extract_half_fits : (args : List Arg) (imm : ℕ) → FitsKinds (kind.Reg 32 ∷ kind.Immediate ∷ []) args → FitsKind (kind.Reg 16) (extract_half_value args imm)
extract_half_fits (arg.R32 a ∷ arg.Nothing ∷ []) imm h = (refl, extract_half_is a imm h.0.1)
extract_half_fits _ imm h = grind (arith, h)

insert_half_fits : (args : List Arg) (imm : ℕ) → FitsKinds (kind.Reg 32 ∷ kind.Reg 16 ∷ kind.Immediate ∷ []) args → FitsKind (kind.Reg 32) (insert_half_value args imm)
insert_half_fits (arg.R32 a ∷ arg.R16 b ∷ arg.Nothing ∷ []) imm h = (refl, insert_half_is a b imm h.0.1 h.1.0.1)
insert_half_fits _ imm h = grind (arith, h)

pub across_gives : (row : Across) (args : List Arg) (imm : ℕ) → Fits (across_signature row) args → FitsResult (across_signature row).result (across_value row args imm)
across_gives BroadcastHalf args imm fit = broadcast_half_fits args fit
across_gives ZeroExtend args imm fit = zero_extend_fits args fit
across_gives LowHalf args imm fit = low_half_fits args fit
across_gives PermuteDwords args imm fit = permute_dwords_fits args fit
across_gives PermuteQwords args imm fit = permute_qwords_fits args imm fit
across_gives PermuteHalves args imm fit = permute_halves_fits args imm fit
across_gives ExtractHalf args imm fit = extract_half_fits args imm fit
across_gives InsertHalf args imm fit = insert_half_fits args imm fit
