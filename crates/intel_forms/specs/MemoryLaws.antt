-- What holds of every row that touches memory.
use Rattle.std.proofs.Common.{◌≡◌, ℕ, ◌+◌, ◌*◌, ◌<◌, ◌≤◌, ◌/◌, List, [], ◌∷◌, length, Bool, true, false, nat_lt, Option, Some, None, ℤ, pos, ◌*ℤ◌, arith, refl}
use Rattle.std.specs.Prelude.{if◌then◌else◌, IfSome}
use Rattle.std.proofs.lemmas.Bool.{ltb-true}
use Rattle.lane_core.specs.Register.{IsRegister, IsWidth, IsSize, lane, signed}
use Rattle.lane_core.specs.declared.table.Access.{Access}
use Rattle.lane_core.specs.declared.table.Arg.{Arg}
use Rattle.lane_core.specs.declared.table.Arg.TheVariants as arg
use Rattle.lane_core.specs.declared.table.ParamKind.TheVariants as kind
use Rattle.lane_core.specs.Table.{Fits, FitsKind, FitsKinds, FitsResult, IsArg}
use Rattle.lane_core.proofs.Laws.{IsRegister-build}
use Rattle.intel_lanes.specs.declared.lanes.Width.{Width}
use Rattle.intel_lanes.specs.declared.lanes.Width.TheVariants.{Byte, Word, Dword, Qword}
use Rattle.intel_lanes.specs.Lanes.{bytes_of}
use Rattle.intel_lanes.specs.Laws.{width_is, xmm, ymm, move_low_is}
use Rattle.intel_forms.specs.declared.sizes.Size.{Size}
use Rattle.intel_forms.specs.declared.sizes.Size.TheVariants.{Xmm, Ymm}
use Rattle.intel_forms.specs.declared.memory.Indexing.{Indexing}
use Rattle.intel_forms.specs.declared.memory.Indexing.TheVariants.{DwordsByDwords, DwordsByQwords, QwordsByDwords, QwordsByQwords}
use Rattle.intel_forms.specs.declared.memory.Memory.{Memory}
use Rattle.intel_forms.specs.declared.memory.Memory.TheVariants as row
use Rattle.intel_forms.specs.Sizes.{size_of, register, vector_type}
use Rattle.intel_forms.specs.Memory.{element_of, index_of, gathered_size, index_size, gathered_lanes, pointer, memory_signature, memory_accesses, memory_register, lane_access, is_on, masked_access, gathered_lane, gather_access, masked_gather_access, access_within, memory_access, merged, low_lanes, moved_value, load_low_value, mask_load_value, mask_store_value, gather_value, mask_gather_value, memory_value}

pub memory_counts : (r : Memory) → ((memory_signature r).count ≤ 32) × (length (memory_signature r).params ≡ 32)
memory_counts row.LoadLow = (omega arith, refl)
memory_counts _ = (omega arith, refl)

merged_is : (w n lanes : ℕ) (mask read src : List ℕ) → IsWidth w → IsSize n → IsRegister n (merged w n lanes mask read src)
unfolding merged
merged_is w n lanes mask read src h s = IsRegister-build w n _ h s

low_lanes_is : (w n lanes : ℕ) (read : List ℕ) → IsWidth w → IsSize n → IsRegister n (low_lanes w n lanes read)
unfolding low_lanes
low_lanes_is w n lanes read h s = IsRegister-build w n _ h s

load_fits : (size : Size) (aligned : Bool) (args : List Arg) → FitsKinds (kind.PointerTo (vector_type size) true ∷ register size ∷ []) args → FitsKind (register size) (moved_value size args)
load_fits Xmm aligned (arg.Nothing ∷ arg.R16 r ∷ []) h = h.1.0
load_fits Xmm aligned _ h = grind (arith, h)
load_fits Ymm aligned (arg.Nothing ∷ arg.R32 r ∷ []) h = h.1.0
load_fits Ymm aligned _ h = grind (arith, h)

store_fits : (size : Size) (args : List Arg) → FitsKinds (kind.PointerTo (vector_type size) false ∷ register size ∷ []) args → IsArg (moved_value size args)
store_fits Xmm (arg.Nothing ∷ arg.R16 r ∷ []) h = h.1.0.1
store_fits Xmm _ h = grind (arith, h)
store_fits Ymm (arg.Nothing ∷ arg.R32 r ∷ []) h = h.1.0.1
store_fits Ymm _ h = grind (arith, h)

load_low_fits : (args : List Arg) → Fits (memory_signature row.LoadLow) args → FitsKind (kind.Reg 16) (load_low_value args)
load_low_fits (arg.Nothing ∷ arg.R16 read ∷ []) h = (refl, move_low_is read)
load_low_fits _ h = grind (arith, h)

mask_load_fits : (size : Size) (width : Width) (args : List Arg) → FitsKinds (pointer width true ∷ register size ∷ register size ∷ []) args
    → FitsKind (register size) (mask_load_value size (bytes_of width) args)
mask_load_fits Xmm width (arg.Nothing ∷ arg.R16 mask ∷ arg.R16 read ∷ []) h = (refl, merged_is (bytes_of width) 16 _ mask read _ (width_is width) xmm)
mask_load_fits Xmm width _ h = grind (arith, h)
mask_load_fits Ymm width (arg.Nothing ∷ arg.R32 mask ∷ arg.R32 read ∷ []) h = (refl, merged_is (bytes_of width) 32 _ mask read _ (width_is width) ymm)
mask_load_fits Ymm width _ h = grind (arith, h)

mask_store_fits : (size : Size) (width : Width) (args : List Arg) → FitsKinds (pointer width false ∷ register size ∷ register size ∷ []) args → IsArg (mask_store_value size args)
mask_store_fits Xmm width (arg.Nothing ∷ mask ∷ arg.R16 a ∷ []) h = h.1.1.0.1
mask_store_fits Xmm width _ h = grind (arith, h)
mask_store_fits Ymm width (arg.Nothing ∷ mask ∷ arg.R32 a ∷ []) h = h.1.1.0.1
mask_store_fits Ymm width _ h = grind (arith, h)

gather_fits : (size index : Size) (width : Width) (lanes : ℕ) (args : List Arg)
    → FitsKinds (pointer width true ∷ register index ∷ kind.Immediate ∷ register size ∷ []) args → FitsKind (register size) (gather_value size (bytes_of width) lanes args)
gather_fits Xmm index width lanes (arg.Nothing ∷ i ∷ arg.Nothing ∷ arg.R16 read ∷ []) h = (refl, low_lanes_is (bytes_of width) 16 lanes read (width_is width) xmm)
gather_fits Xmm index width lanes _ h = grind (arith, h)
gather_fits Ymm index width lanes (arg.Nothing ∷ i ∷ arg.Nothing ∷ arg.R32 read ∷ []) h = (refl, low_lanes_is (bytes_of width) 32 lanes read (width_is width) ymm)
gather_fits Ymm index width lanes _ h = grind (arith, h)

mask_gather_fits : (size index : Size) (width : Width) (lanes : ℕ) (args : List Arg)
    → FitsKinds (register size ∷ pointer width true ∷ register index ∷ register size ∷ kind.Immediate ∷ register size ∷ []) args
    → FitsKind (register size) (mask_gather_value size (bytes_of width) lanes args)
mask_gather_fits Xmm index width lanes (arg.R16 src ∷ arg.Nothing ∷ i ∷ arg.R16 mask ∷ arg.Nothing ∷ arg.R16 read ∷ []) h =
    (refl, merged_is (bytes_of width) 16 lanes mask read src (width_is width) xmm)
mask_gather_fits Xmm index width lanes _ h = grind (arith, h)
mask_gather_fits Ymm index width lanes (arg.R32 src ∷ arg.Nothing ∷ i ∷ arg.R32 mask ∷ arg.Nothing ∷ arg.R32 read ∷ []) h =
    (refl, merged_is (bytes_of width) 32 lanes mask read src (width_is width) ymm)
mask_gather_fits Ymm index width lanes _ h = grind (arith, h)

pub memory_gives : (r : Memory) (args : List Arg) → Fits (memory_signature r) args → FitsResult (memory_signature r).result (memory_value r args)
memory_gives (row.Load size aligned) args fit = load_fits size aligned args fit
memory_gives (row.Store size aligned) args fit = store_fits size args fit
memory_gives row.LoadLow args fit = load_low_fits args fit
memory_gives row.StoreLow args fit = store_fits Xmm args fit
memory_gives (row.MaskLoad size width) args fit = mask_load_fits size width args fit
memory_gives (row.MaskStore size width) args fit = mask_store_fits size width args fit
memory_gives (row.Gather size indexing) args fit = gather_fits (gathered_size size indexing) (index_size size indexing) (element_of indexing) (gathered_lanes size indexing) args fit
memory_gives (row.MaskGather size indexing) args fit =
    mask_gather_fits (gathered_size size indexing) (index_size size indexing) (element_of indexing) (gathered_lanes size indexing) args fit

-- an access lies in n bytes
abbrev pub Inside : ℕ → Access → Type 0
Inside n a = a.at + a.size ≤ n

-- where there is one, lane k of width w lies where all lanes do
optional : (n w k : ℕ) (offset : ℤ) (write b : Bool) → k * w + w ≤ n → IfSome (if b then Some (lane_access w offset write k) else None) (Inside n)
optional n w k offset write true h = h
optional n w k offset write false h = tt

nothing : (n : ℕ) (b : Bool) (o : Option Access) → IfSome o (Inside n) → IfSome (if b then o else None) (Inside n)
nothing n true o h = h
nothing n false o h = tt

masked_inside : (n w k : ℕ) (write : Bool) (args : List Arg) → k * w + w ≤ n → IfSome (masked_access w write args k) (Inside n)
masked_inside n w k write (arg.Nothing ∷ mask ∷ rest) h = optional n w k (pos (k * w)) write (is_on w mask k) h
masked_inside n w k write _ h = tt

gathered_inside : (n w i scale k : ℕ) (index : Arg) → k * w + w ≤ n → IfSome (gathered_lane w i index scale k) (Inside n)
gathered_inside n w i scale k (arg.R16 index) h = optional n w k (signed i (lane i index k) *ℤ pos scale) false (nat_lt k (16 / i)) h
gathered_inside n w i scale k (arg.R32 index) h = optional n w k (signed i (lane i index k) *ℤ pos scale) false (nat_lt k (32 / i)) h
gathered_inside n w i scale k _ h = tt

gather_inside : (n w i scale k : ℕ) (args : List Arg) → k * w + w ≤ n → IfSome (gather_access w i args scale k) (Inside n)
gather_inside n w i scale k (arg.Nothing ∷ index ∷ rest) h = gathered_inside n w i scale k index h
gather_inside n w i scale k _ h = tt

masked_gather_inside : (n w i scale k : ℕ) (args : List Arg) → k * w + w ≤ n → IfSome (masked_gather_access w i args scale k) (Inside n)
masked_gather_inside n w i scale k (src ∷ arg.Nothing ∷ index ∷ mask ∷ rest) h = nothing n (is_on w mask k) (gathered_lane w i index scale k) (gathered_inside n w i scale k index h)
masked_gather_inside n w i scale k _ h = tt

-- the lanes of a register lie in it
lanes_inside : (size : Size) (width : Width) (k : ℕ) → k < size_of size / bytes_of width → k * bytes_of width + bytes_of width ≤ size_of size
lanes_inside Xmm Byte k h = omega arith
lanes_inside Xmm Word k h = omega arith
lanes_inside Xmm Dword k h = omega arith
lanes_inside Xmm Qword k h = omega arith
lanes_inside Ymm Byte k h = omega arith
lanes_inside Ymm Word k h = omega arith
lanes_inside Ymm Dword k h = omega arith
lanes_inside Ymm Qword k h = omega arith

-- and those that are gathered in the register that is gathered
gathered_lanes_inside : (size : Size) (indexing : Indexing) (k : ℕ) → k < gathered_lanes size indexing
    → k * bytes_of (element_of indexing) + bytes_of (element_of indexing) ≤ size_of (gathered_size size indexing)
gathered_lanes_inside Xmm DwordsByDwords k h = omega arith
gathered_lanes_inside Xmm DwordsByQwords k h = omega arith
gathered_lanes_inside Xmm QwordsByDwords k h = omega arith
gathered_lanes_inside Xmm QwordsByQwords k h = omega arith
gathered_lanes_inside Ymm DwordsByDwords k h = omega arith
gathered_lanes_inside Ymm DwordsByQwords k h = omega arith
gathered_lanes_inside Ymm QwordsByDwords k h = omega arith
gathered_lanes_inside Ymm QwordsByQwords k h = omega arith

size_itself : (size : Size) → 0 + size_of size ≤ size_of size
size_itself Xmm = omega arith
size_itself Ymm = omega arith

within_inside : (r : Memory) (args : List Arg) (imm k : ℕ) → k < memory_accesses r → IfSome (access_within r args imm k) (Inside (size_of (memory_register r)))
within_inside (row.Load size aligned) args imm k h = size_itself size
within_inside (row.Store size aligned) args imm k h = size_itself size
within_inside row.LoadLow args imm k h = omega arith
within_inside row.StoreLow args imm k h = omega arith
within_inside (row.MaskLoad size width) args imm k h = masked_inside (size_of size) (bytes_of width) k false args (lanes_inside size width k h)
within_inside (row.MaskStore size width) args imm k h = masked_inside (size_of size) (bytes_of width) k true args (lanes_inside size width k h)
within_inside (row.Gather size indexing) args imm k h =
    gather_inside (size_of (gathered_size size indexing)) (bytes_of (element_of indexing)) (bytes_of (index_of indexing)) imm k args (gathered_lanes_inside size indexing k h)
within_inside (row.MaskGather size indexing) args imm k h =
    masked_gather_inside (size_of (gathered_size size indexing)) (bytes_of (element_of indexing)) (bytes_of (index_of indexing)) imm k args (gathered_lanes_inside size indexing k h)

-- accesses lie in the row's register
pub memory_inside : (r : Memory) (args : List Arg) (imm k : ℕ) → IfSome (memory_access r args imm k) (Inside (size_of (memory_register r)))
memory_inside r args imm k = by (nat_lt k (memory_accesses r)) refl
  where
    by : (b : Bool) → nat_lt k (memory_accesses r) ≡ b → IfSome (if b then access_within r args imm k else None) (Inside (size_of (memory_register r)))
    by true e = within_inside r args imm k (ltb-true k (memory_accesses r) e)
    by false e = tt
