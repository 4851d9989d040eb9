-- Rows that take or give integers, by the "Operation" of each in the Intel Intrinsics Guide. An integer stands as its value modulo 2 ^ 64.
use Rattle.std.specs.Prelude.{ℕ, zero, suc, ◌-◌, ◌*◌, ◌/◌, ◌%◌, ◌^◌, List, [], ◌∷◌, ◌++◌, get_or, replicate, ◌==◌, ◌&&◌, not, Bool, true, if◌then◌else◌, bit_and}
use Rattle.lane_core.specs.Register.{lane, build, signed, wrapped}
use Rattle.lane_core.specs.Kernels.{put_of}
use Rattle.lane_core.specs.declared.number.IntType.TheVariants.{Int}
use Rattle.lane_core.specs.declared.table.Arg.{Arg}
use Rattle.lane_core.specs.declared.table.Arg.TheVariants as arg
use Rattle.lane_core.specs.declared.table.ParamKind.TheVariants as kind
use Rattle.lane_core.specs.declared.table.ImmRange.{ImmRange}
use Rattle.lane_core.specs.declared.table.ImmRange.TheVariants.{NoImmediate, Span}
use Rattle.lane_core.specs.declared.table.Sig.{Sig}
use Rattle.lane_core.specs.Table.{signature}
use Rattle.intel_lanes.specs.declared.lanes.Width.{Width}
use Rattle.intel_lanes.specs.declared.lanes.Width.TheVariants.{Dword}
use Rattle.intel_lanes.specs.Lanes.{bytes_of}
use Rattle.intel_lanes.specs.Blocks.{sum_below}
use Rattle.intel_forms.specs.declared.sizes.Size.{Size}
use Rattle.intel_forms.specs.declared.sizes.Size.TheVariants.{Xmm, Ymm}
use Rattle.intel_forms.specs.declared.scalars.Scalar.{Scalar}
use Rattle.intel_forms.specs.declared.scalars.Scalar.TheVariants as row
use Rattle.intel_forms.specs.declared.scalars.Test.{Test}
use Rattle.intel_forms.specs.declared.scalars.Test.TheVariants.{Zero, Carry, Neither}
use Rattle.intel_forms.specs.Sizes.{size_of, register, lane_type, result_type}

-- the lanes of a register
abbrev pub lanes_of : Size → Width → ℕ
lanes_of size width = size_of size / bytes_of width

abbrev pub scalar_signature : Scalar → Sig
scalar_signature (row.SetZero size) = signature (register size) []
scalar_signature (row.SetAll size width) = signature (register size) (kind.Scalar (lane_type width) ∷ [])
scalar_signature (row.Set size width) = signature (register size) (replicate (lanes_of size width) (kind.Scalar (lane_type width)))
scalar_signature (row.SetReversed size width) = signature (register size) (replicate (lanes_of size width) (kind.Scalar (lane_type width)))
scalar_signature row.SetHalves = signature (kind.Reg 32) (kind.Reg 16 ∷ kind.Reg 16 ∷ [])
scalar_signature row.SetHalvesReversed = signature (kind.Reg 32) (kind.Reg 16 ∷ kind.Reg 16 ∷ [])
scalar_signature (row.ToVector width) = signature (kind.Reg 16) (kind.Scalar (lane_type width) ∷ [])
scalar_signature (row.FromVector width) = signature (kind.Scalar (result_type width)) (kind.Reg 16 ∷ [])
scalar_signature (row.Extract size width) = signature (kind.Scalar (result_type width)) (register size ∷ kind.Immediate ∷ [])
scalar_signature (row.Insert size width) = signature (register size) (register size ∷ kind.Scalar (result_type width) ∷ kind.Immediate ∷ [])
scalar_signature (row.ByteSigns size) = signature (kind.Scalar Int) (register size ∷ [])
scalar_signature (row.Tested size test) = signature (kind.Scalar Int) (register size ∷ register size ∷ [])
scalar_signature row.TestedOnes = signature (kind.Scalar Int) (kind.Reg 16 ∷ [])

abbrev pub scalar_range : Scalar → ImmRange
scalar_range (row.Extract size width) = Span 0 (lanes_of size width - 1)
scalar_range (row.Insert size width) = Span 0 (lanes_of size width - 1)
scalar_range _ = NoImmediate

abbrev pub number : Arg → ℕ
number (arg.Int n) = n
number _ = 0

abbrev pub first_number : List Arg → ℕ
first_number [] = 0
first_number (a ∷ rest) = number a

-- n bytes: x in all lanes
unfoldable pub all_lanes : ℕ → ℕ → ℕ → List ℕ
all_lanes n w x = build w (n / w) (λ k. x)

-- "dst[i+15:i] := e.": n bytes with the argument for each lane, the highest lane's first
unfoldable pub each_lane : ℕ → ℕ → List Arg → List ℕ
each_lane n w args = build w (n / w) (λ k. number (get_or args (n / w - 1 - k) arg.Nothing))

-- the same, the lowest lane's first
unfoldable pub each_lane_reversed : ℕ → ℕ → List Arg → List ℕ
each_lane_reversed n w args = build w (n / w) (λ k. number (get_or args k arg.Nothing))

-- "dst[31:0] := a[31:0]; dst[127:32] := 0"
unfoldable pub to_low_lane : ℕ → ℕ → List ℕ
to_low_lane w x = build w (16 / w) (λ k. if k == 0 then x else 0)

-- a lane as the integer of a row's result: bytes and words are extended by zeros, a dword is an `int`
abbrev pub as_integer : Width → ℕ → ℕ
as_integer Dword x = wrapped 8 (signed 4 x)
as_integer _ x = x

-- "(a[127:0] >> (imm8[2:0] * 16))[15:0]", of n bytes
abbrev pub extracted : ℕ → Width → List ℕ → ℕ → ℕ
extracted n width a imm = as_integer width (lane (bytes_of width) a (imm % (n / bytes_of width)))

-- "sel := imm8[2:0]*16; dst[sel+15:sel] := i[15:0]"
abbrev pub inserted : ℕ → Width → List ℕ → ℕ → ℕ → List ℕ
inserted n width a x imm = put_of (bytes_of width) a (imm % (n / bytes_of width)) x

-- "dst[j] := a[i+7]", for n bytes
unfoldable pub top_bits : ℕ → List ℕ → ℕ
top_bits n a = sum_below n (λ k. lane 1 a k / 128 * 2 ^ k)

-- the pattern of 32 bits is read as `int`
abbrev pub byte_signs : ℕ → List ℕ → ℕ
byte_signs n a = as_integer Dword (top_bits n a)

-- whether p holds of 0 to n - 1
abbrev pub all_below : ℕ → (ℕ → Bool) → Bool
all_below zero p = true
all_below (suc n) p = all_below n p && p n

-- "(a[127:0] AND b[127:0]) == 0", of n bytes
unfoldable pub is_disjoint : ℕ → List ℕ → List ℕ → Bool
is_disjoint n a b = all_below (n / 8) (λ k. bit_and (lane 8 a k) (lane 8 b k) == 0)

-- "((NOT a[127:0]) AND b[127:0]) == 0"
unfoldable pub is_within : ℕ → List ℕ → List ℕ → Bool
is_within n a b = all_below (n / 8) (λ k. bit_and (256 ^ 8 - 1 - lane 8 a k) (lane 8 b k) == 0)

abbrev pub bit : Bool → ℕ
bit b = if b then 1 else 0

-- ZF, CF, or "IF (ZF == 0 && CF == 0)"
abbrev pub tested : Test → ℕ → List ℕ → List ℕ → ℕ
tested Zero n a b = bit (is_disjoint n a b)
tested Carry n a b = bit (is_within n a b)
tested Neither n a b = bit (not (is_disjoint n a b) && not (is_within n a b))

-- "((NOT a) AND tmp) == 0" for a tmp of ones
unfoldable pub is_ones : List ℕ → Bool
is_ones a = all_below 2 (λ k. lane 8 a k == 256 ^ 8 - 1)

abbrev pub set_all_value : Size → ℕ → ℕ → Arg
set_all_value Xmm w x = arg.R16 (all_lanes 16 w x)
set_all_value Ymm w x = arg.R32 (all_lanes 32 w x)

abbrev pub set_value : Size → ℕ → List Arg → Arg
set_value Xmm w args = arg.R16 (each_lane 16 w args)
set_value Ymm w args = arg.R32 (each_lane 32 w args)

abbrev pub set_reversed_value : Size → ℕ → List Arg → Arg
set_reversed_value Xmm w args = arg.R16 (each_lane_reversed 16 w args)
set_reversed_value Ymm w args = arg.R32 (each_lane_reversed 32 w args)

-- "dst[127:0] := lo[127:0]; dst[255:128] := hi[127:0]"
abbrev pub set_halves_value : List Arg → Arg
set_halves_value (arg.R16 hi ∷ arg.R16 lo ∷ []) = arg.R32 (lo ++ hi)
set_halves_value _ = arg.Nothing

abbrev pub set_halves_reversed_value : List Arg → Arg
set_halves_reversed_value (arg.R16 lo ∷ arg.R16 hi ∷ []) = arg.R32 (lo ++ hi)
set_halves_reversed_value _ = arg.Nothing

abbrev pub from_vector_value : Width → List Arg → Arg
from_vector_value width (arg.R16 a ∷ []) = arg.Int (extracted 16 width a 0)
from_vector_value width _ = arg.Int 0

abbrev pub extract_value : Size → Width → List Arg → ℕ → Arg
extract_value Xmm width (arg.R16 a ∷ arg.Nothing ∷ []) imm = arg.Int (extracted 16 width a imm)
extract_value Ymm width (arg.R32 a ∷ arg.Nothing ∷ []) imm = arg.Int (extracted 32 width a imm)
extract_value _ width _ imm = arg.Int 0

abbrev pub insert_value : Size → Width → List Arg → ℕ → Arg
insert_value Xmm width (arg.R16 a ∷ arg.Int x ∷ arg.Nothing ∷ []) imm = arg.R16 (inserted 16 width a x imm)
insert_value Ymm width (arg.R32 a ∷ arg.Int x ∷ arg.Nothing ∷ []) imm = arg.R32 (inserted 32 width a x imm)
insert_value _ width _ imm = arg.Nothing

abbrev pub signs_value : Size → List Arg → Arg
signs_value Xmm (arg.R16 a ∷ []) = arg.Int (byte_signs 16 a)
signs_value Ymm (arg.R32 a ∷ []) = arg.Int (byte_signs 32 a)
signs_value _ _ = arg.Int 0

abbrev pub tested_value : Size → Test → List Arg → Arg
tested_value Xmm test (arg.R16 a ∷ arg.R16 b ∷ []) = arg.Int (tested test 16 a b)
tested_value Ymm test (arg.R32 a ∷ arg.R32 b ∷ []) = arg.Int (tested test 32 a b)
tested_value _ test _ = arg.Int 0

abbrev pub ones_value : List Arg → Arg
ones_value (arg.R16 a ∷ []) = arg.Int (bit (is_ones a))
ones_value _ = arg.Int 0

abbrev pub scalar_value : Scalar → List Arg → ℕ → Arg
scalar_value (row.SetZero size) args imm = set_all_value size 8 0
scalar_value (row.SetAll size width) args imm = set_all_value size (bytes_of width) (first_number args)
scalar_value (row.Set size width) args imm = set_value size (bytes_of width) args
scalar_value (row.SetReversed size width) args imm = set_reversed_value size (bytes_of width) args
scalar_value row.SetHalves args imm = set_halves_value args
scalar_value row.SetHalvesReversed args imm = set_halves_reversed_value args
scalar_value (row.ToVector width) args imm = arg.R16 (to_low_lane (bytes_of width) (first_number args))
scalar_value (row.FromVector width) args imm = from_vector_value width args
scalar_value (row.Extract size width) args imm = extract_value size width args imm
scalar_value (row.Insert size width) args imm = insert_value size width args imm
scalar_value (row.ByteSigns size) args imm = signs_value size args
scalar_value (row.Tested size test) args imm = tested_value size test args
scalar_value row.TestedOnes args imm = ones_value args
