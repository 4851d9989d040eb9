-- Rows that touch memory, by the "Operation" of each in the Intel Intrinsics Guide. An access stands by its offset from the row's pointer.
use Rattle.std.specs.Prelude.{ℕ, ◌-◌, ◌*◌, ◌/◌, ◌^◌, List, [], ◌∷◌, Bool, true, false, Option, Some, None, ℤ, pos, ◌*ℤ◌, nat_lt, if◌then◌else◌, replicate}
use Rattle.lane_core.specs.Register.{lane, build, signed}
use Rattle.lane_core.specs.declared.vector.Pointee.TheVariants as pointee
use Rattle.lane_core.specs.declared.table.Access.{Access}
use Rattle.lane_core.specs.declared.table.Arg.{Arg}
use Rattle.lane_core.specs.declared.table.Arg.TheVariants as arg
use Rattle.lane_core.specs.declared.table.ParamKind.{ParamKind}
use Rattle.lane_core.specs.declared.table.ParamKind.TheVariants as kind
use Rattle.lane_core.specs.declared.table.ImmRange.{ImmRange}
use Rattle.lane_core.specs.declared.table.ImmRange.TheVariants.{NoImmediate, Scale}
use Rattle.lane_core.specs.declared.table.Sig.{Sig}
use Rattle.lane_core.specs.Table.{signature}
use Rattle.intel_lanes.specs.declared.lanes.Width.{Width}
use Rattle.intel_lanes.specs.declared.lanes.Width.TheVariants.{Dword, Qword}
use Rattle.intel_lanes.specs.Lanes.{bytes_of}
use Rattle.intel_lanes.specs.Blocks.{move_low}
use Rattle.intel_forms.specs.declared.sizes.Size.{Size}
use Rattle.intel_forms.specs.declared.sizes.Size.TheVariants.{Xmm, Ymm}
use Rattle.intel_forms.specs.declared.memory.Indexing.{Indexing}
use Rattle.intel_forms.specs.declared.memory.Indexing.TheVariants.{DwordsByDwords, DwordsByQwords, QwordsByDwords, QwordsByQwords}
use Rattle.intel_forms.specs.declared.memory.Memory.{Memory}
use Rattle.intel_forms.specs.declared.memory.Memory.TheVariants as row
use Rattle.intel_forms.specs.Sizes.{size_of, register, vector_type, lane_type}

-- the width of what is gathered
abbrev pub element_of : Indexing → Width
element_of DwordsByDwords = Dword
element_of DwordsByQwords = Dword
element_of QwordsByDwords = Qword
element_of QwordsByQwords = Qword

-- the width of the indices
abbrev pub index_of : Indexing → Width
index_of DwordsByDwords = Dword
index_of DwordsByQwords = Qword
index_of QwordsByDwords = Dword
index_of QwordsByQwords = Qword

-- the register that a gather gives: dwords by qwords of 32 bytes fill 16
abbrev pub gathered_size : Size → Indexing → Size
gathered_size Ymm DwordsByQwords = Xmm
gathered_size size indexing = size

-- the register of the indices: qwords of 32 bytes take the dwords of 16
abbrev pub index_size : Size → Indexing → Size
index_size Ymm QwordsByDwords = Xmm
index_size size indexing = size

-- as many lanes as there are of the wider of element and index
abbrev pub gathered_lanes : Size → Indexing → ℕ
gathered_lanes size DwordsByDwords = size_of size / 4
gathered_lanes size _ = size_of size / 8

-- a pointer to the integer of a lane
abbrev pub pointer : Width → Bool → ParamKind
pointer width constant = kind.PointerTo (pointee.Int (lane_type width)) constant

abbrev pub memory_signature : Memory → Sig
memory_signature (row.Load size aligned) = signature (register size) (kind.PointerTo (vector_type size) true ∷ [])
memory_signature (row.Store size aligned) = signature kind.Nothing (kind.PointerTo (vector_type size) false ∷ register size ∷ [])
memory_signature row.LoadLow = signature (kind.Reg 16) (kind.PointerTo pointee.M128 true ∷ [])
memory_signature row.StoreLow = signature kind.Nothing (kind.PointerTo pointee.M128 false ∷ kind.Reg 16 ∷ [])
memory_signature (row.MaskLoad size width) = signature (register size) (pointer width true ∷ register size ∷ [])
memory_signature (row.MaskStore size width) = signature kind.Nothing (pointer width false ∷ register size ∷ register size ∷ [])
memory_signature (row.Gather size indexing) =
    signature (register (gathered_size size indexing)) (pointer (element_of indexing) true ∷ register (index_size size indexing) ∷ kind.Immediate ∷ [])
memory_signature (row.MaskGather size indexing) =
    signature (register (gathered_size size indexing))
    (register (gathered_size size indexing) ∷ pointer (element_of indexing) true ∷ register (index_size size indexing) ∷ register (gathered_size size indexing) ∷ kind.Immediate ∷ [])

abbrev pub memory_range : Memory → ImmRange
memory_range (row.Gather size indexing) = Scale
memory_range (row.MaskGather size indexing) = Scale
memory_range _ = NoImmediate

abbrev pub memory_accesses : Memory → ℕ
memory_accesses (row.Load size aligned) = 1
memory_accesses (row.Store size aligned) = 1
memory_accesses row.LoadLow = 1
memory_accesses row.StoreLow = 1
memory_accesses (row.MaskLoad size width) = size_of size / bytes_of width
memory_accesses (row.MaskStore size width) = size_of size / bytes_of width
memory_accesses (row.Gather size indexing) = gathered_lanes size indexing
memory_accesses (row.MaskGather size indexing) = gathered_lanes size indexing

-- the register into which the row reads or from which it stores
abbrev pub memory_register : Memory → Size
memory_register (row.Load size aligned) = size
memory_register (row.Store size aligned) = size
memory_register row.LoadLow = Xmm
memory_register row.StoreLow = Xmm
memory_register (row.MaskLoad size width) = size
memory_register (row.MaskStore size width) = size
memory_register (row.Gather size indexing) = gathered_size size indexing
memory_register (row.MaskGather size indexing) = gathered_size size indexing

-- the one access of a row that touches n bytes at its pointer
abbrev pub whole_access : ℕ → ℕ → Bool → Access
whole_access n align write = record { offset = pos 0; size = n; align = align; write = write; at = 0 }

-- "mem_addr must be aligned on a 16-byte boundary", or on none
abbrev pub alignment_of : Size → Bool → ℕ
alignment_of size aligned = if aligned then size_of size else 1

-- "IF mask[i+31]": the top bit of lane k
abbrev pub is_chosen : ℕ → List ℕ → ℕ → Bool
is_chosen w mask k = nat_lt (256 ^ w / 2 - 1) (lane w mask k)

-- lane k of width w at that offset
abbrev pub lane_access : ℕ → ℤ → Bool → ℕ → Access
lane_access w offset write k = record { offset = offset; size = w; align = 1; write = write; at = k * w }

-- whether the mask among these arguments chooses lane k; a mask has as many lanes as the row
abbrev pub is_on : ℕ → Arg → ℕ → Bool
is_on w (arg.R16 mask) k = if nat_lt k (16 / w) then is_chosen w mask k else false
is_on w (arg.R32 mask) k = if nat_lt k (32 / w) then is_chosen w mask k else false
is_on w _ k = false

-- "IF mask[j+31]: MEM[mem_addr+i+31:mem_addr+i]"
abbrev pub masked_access : ℕ → Bool → List Arg → ℕ → Option Access
masked_access w write (arg.Nothing ∷ mask ∷ rest) k = if is_on w mask k then Some (lane_access w (pos (k * w)) write k) else None
masked_access w write _ k = None

-- "addr := base_addr + SignExtend64(vindex[m+31:m]) * ZeroExtend64(scale) * 8", counted in bytes: lane k of width w by index k of width i
abbrev pub gathered_lane : ℕ → ℕ → Arg → ℕ → ℕ → Option Access
gathered_lane w i (arg.R16 index) scale k = if nat_lt k (16 / i) then Some (lane_access w (signed i (lane i index k) *ℤ pos scale) false k) else None
gathered_lane w i (arg.R32 index) scale k = if nat_lt k (32 / i) then Some (lane_access w (signed i (lane i index k) *ℤ pos scale) false k) else None
gathered_lane w i _ scale k = None

abbrev pub gather_access : ℕ → ℕ → List Arg → ℕ → ℕ → Option Access
gather_access w i (arg.Nothing ∷ index ∷ rest) scale k = gathered_lane w i index scale k
gather_access w i _ scale k = None

-- the same "IF mask[i+31]"
abbrev pub masked_gather_access : ℕ → ℕ → List Arg → ℕ → ℕ → Option Access
masked_gather_access w i (src ∷ arg.Nothing ∷ index ∷ mask ∷ rest) scale k = if is_on w mask k then gathered_lane w i index scale k else None
masked_gather_access w i _ scale k = None

-- access k of a row that has more than k
abbrev pub access_within : Memory → List Arg → ℕ → ℕ → Option Access
access_within (row.Load size aligned) args imm k = Some (whole_access (size_of size) (alignment_of size aligned) false)
access_within (row.Store size aligned) args imm k = Some (whole_access (size_of size) (alignment_of size aligned) true)
access_within row.LoadLow args imm k = Some (whole_access 8 1 false)
access_within row.StoreLow args imm k = Some (whole_access 8 1 true)
access_within (row.MaskLoad size width) args imm k = masked_access (bytes_of width) false args k
access_within (row.MaskStore size width) args imm k = masked_access (bytes_of width) true args k
access_within (row.Gather size indexing) args imm k = gather_access (bytes_of (element_of indexing)) (bytes_of (index_of indexing)) args imm k
access_within (row.MaskGather size indexing) args imm k = masked_gather_access (bytes_of (element_of indexing)) (bytes_of (index_of indexing)) args imm k

abbrev pub memory_access : Memory → List Arg → ℕ → ℕ → Option Access
memory_access r args imm k = if nat_lt k (memory_accesses r) then access_within r args imm k else None

-- "IF mask[i+31] .. ELSE dst[i+31:i] := src[i+31:i]", for so many lanes, and zeros above
abbrev pub merged_lane : ℕ → ℕ → List ℕ → List ℕ → List ℕ → ℕ → ℕ
merged_lane w lanes mask read src k = if nat_lt k lanes then (if is_chosen w mask k then lane w read k else lane w src k) else 0

-- the same in n bytes
unfoldable pub merged : ℕ → ℕ → ℕ → List ℕ → List ℕ → List ℕ → List ℕ
merged w n lanes mask read src = build w (n / w) (λ k. merged_lane w lanes mask read src k)

-- so many lanes of n bytes, and zeros above
unfoldable pub low_lanes : ℕ → ℕ → ℕ → List ℕ → List ℕ
low_lanes w n lanes read = build w (n / w) (λ k. if nat_lt k lanes then lane w read k else 0)

-- the register that stands beside a pointer: the bytes read, or the register that is stored
abbrev pub moved_value : Size → List Arg → Arg
moved_value Xmm (arg.Nothing ∷ arg.R16 r ∷ []) = arg.R16 r
moved_value Ymm (arg.Nothing ∷ arg.R32 r ∷ []) = arg.R32 r
moved_value _ _ = arg.Nothing

-- "dst[63:0] := MEM[mem_addr+63:mem_addr]; dst[127:64] := 0"
abbrev pub load_low_value : List Arg → Arg
load_low_value (arg.Nothing ∷ arg.R16 read ∷ []) = arg.R16 (move_low read)
load_low_value _ = arg.Nothing

-- "ELSE dst[i+31:i] := 0"
abbrev pub mask_load_value : Size → ℕ → List Arg → Arg
mask_load_value Xmm w (arg.Nothing ∷ arg.R16 mask ∷ arg.R16 read ∷ []) = arg.R16 (merged w 16 (16 / w) mask read (replicate 16 0))
mask_load_value Ymm w (arg.Nothing ∷ arg.R32 mask ∷ arg.R32 read ∷ []) = arg.R32 (merged w 32 (32 / w) mask read (replicate 32 0))
mask_load_value _ w _ = arg.Nothing

abbrev pub mask_store_value : Size → List Arg → Arg
mask_store_value Xmm (arg.Nothing ∷ mask ∷ arg.R16 a ∷ []) = arg.R16 a
mask_store_value Ymm (arg.Nothing ∷ mask ∷ arg.R32 a ∷ []) = arg.R32 a
mask_store_value _ _ = arg.Nothing

abbrev pub gather_value : Size → ℕ → ℕ → List Arg → Arg
gather_value Xmm w lanes (arg.Nothing ∷ index ∷ arg.Nothing ∷ arg.R16 read ∷ []) = arg.R16 (low_lanes w 16 lanes read)
gather_value Ymm w lanes (arg.Nothing ∷ index ∷ arg.Nothing ∷ arg.R32 read ∷ []) = arg.R32 (low_lanes w 32 lanes read)
gather_value _ w lanes _ = arg.Nothing

abbrev pub mask_gather_value : Size → ℕ → ℕ → List Arg → Arg
mask_gather_value Xmm w lanes (arg.R16 src ∷ arg.Nothing ∷ index ∷ arg.R16 mask ∷ arg.Nothing ∷ arg.R16 read ∷ []) = arg.R16 (merged w 16 lanes mask read src)
mask_gather_value Ymm w lanes (arg.R32 src ∷ arg.Nothing ∷ index ∷ arg.R32 mask ∷ arg.Nothing ∷ arg.R32 read ∷ []) = arg.R32 (merged w 32 lanes mask read src)
mask_gather_value _ w lanes _ = arg.Nothing

-- the value of a row; of a storing row the register from which it stores
abbrev pub memory_value : Memory → List Arg → Arg
memory_value (row.Load size aligned) args = moved_value size args
memory_value (row.Store size aligned) args = moved_value size args
memory_value row.LoadLow args = load_low_value args
memory_value row.StoreLow args = moved_value Xmm args
memory_value (row.MaskLoad size width) args = mask_load_value size (bytes_of width) args
memory_value (row.MaskStore size width) args = mask_store_value size args
memory_value (row.Gather size indexing) args = gather_value (gathered_size size indexing) (bytes_of (element_of indexing)) (gathered_lanes size indexing) args
memory_value (row.MaskGather size indexing) args = mask_gather_value (gathered_size size indexing) (bytes_of (element_of indexing)) (gathered_lanes size indexing) args

-- gathers and masked rows are scalar by nature
abbrev pub is_scalar_memory : Memory → Bool
is_scalar_memory (row.MaskLoad size width) = true
is_scalar_memory (row.MaskStore size width) = true
is_scalar_memory (row.Gather size indexing) = true
is_scalar_memory (row.MaskGather size indexing) = true
is_scalar_memory _ = false
