-- The forms of rows: what a row of each form takes, touches and gives, by the Intel Intrinsics Guide.
use Rattle.std.specs.Prelude.{ℕ, ◌/◌, List, [], ◌∷◌, ◌++◌, take, drop, Bool, true, false, Option, None}
use Rattle.lane_core.specs.Register.{lane}
use Rattle.lane_core.specs.declared.table.Arg.{Arg}
use Rattle.lane_core.specs.declared.table.Arg.TheVariants as arg
use Rattle.lane_core.specs.declared.table.ParamKind.TheVariants as kind
use Rattle.lane_core.specs.declared.table.ImmRange.{ImmRange}
use Rattle.lane_core.specs.declared.table.ImmRange.TheVariants.{NoImmediate, Span}
use Rattle.lane_core.specs.declared.table.Sig.{Sig}
use Rattle.lane_core.specs.declared.table.Access.{Access}
use Rattle.lane_core.specs.Table.{signature}
use Rattle.intel_lanes.specs.declared.blocks.One.{One}
use Rattle.intel_lanes.specs.declared.blocks.One.TheVariants.{MinPosition}
use Rattle.intel_lanes.specs.declared.blocks.TwoImm.{TwoImm}
use Rattle.intel_lanes.specs.declared.blocks.TwoImm.TheVariants.{SumsOfFour, BlendDwords}
use Rattle.intel_lanes.specs.Lanes.{bytes_of}
use Rattle.intel_lanes.specs.Blocks.{one_of, two_of, shifted, one_imm_of, two_imm_of, blend_bytes, extended, broadcast, by_blocks, by_blocks2, by_blocks3}
use Rattle.intel_forms.specs.declared.sizes.Size.{Size}
use Rattle.intel_forms.specs.declared.sizes.Size.TheVariants.{Xmm, Ymm}
use Rattle.intel_forms.specs.declared.forms.Extension.{Extension}
use Rattle.intel_forms.specs.declared.forms.Extension.TheVariants.{ByteWord, ByteDword, ByteQword, WordDword, WordQword, DwordQword}
use Rattle.intel_forms.specs.declared.forms.Form.{Form}
use Rattle.intel_forms.specs.declared.forms.Form.TheVariants as form
use Rattle.intel_forms.specs.Sizes.{register}
use Rattle.intel_forms.specs.Across.{across_signature, across_range, across_value}
use Rattle.intel_forms.specs.Scalars.{scalar_signature, scalar_range, scalar_value}
use Rattle.intel_forms.specs.Memory.{memory_signature, memory_range, memory_accesses, memory_access, memory_value, is_scalar_memory}

abbrev pub narrow_of : Extension → ℕ
narrow_of ByteWord = 1
narrow_of ByteDword = 1
narrow_of ByteQword = 1
narrow_of WordDword = 2
narrow_of WordQword = 2
narrow_of DwordQword = 4

abbrev pub wide_of : Extension → ℕ
wide_of ByteWord = 2
wide_of ByteDword = 4
wide_of ByteQword = 8
wide_of WordDword = 4
wide_of WordQword = 8
wide_of DwordQword = 8

abbrev pub signature_of : Form → Sig
signature_of (form.One size op) = signature (register size) (register size ∷ [])
signature_of (form.Two size op) = signature (register size) (register size ∷ register size ∷ [])
signature_of (form.Counted size op width) = signature (register size) (register size ∷ kind.Reg 16 ∷ [])
signature_of (form.OneImm size op) = signature (register size) (register size ∷ kind.Immediate ∷ [])
signature_of (form.TwoImm size op) = signature (register size) (register size ∷ register size ∷ kind.Immediate ∷ [])
signature_of (form.BlendBytes size) = signature (register size) (register size ∷ register size ∷ register size ∷ [])
signature_of (form.Extend size signs widths) = signature (register size) (kind.Reg 16 ∷ [])
signature_of (form.Broadcast size width) = signature (register size) (kind.Reg 16 ∷ [])
signature_of (form.Across row) = across_signature row
signature_of (form.Scalar row) = scalar_signature row
signature_of (form.Memory row) = memory_signature row

abbrev pub greatest_of : Size → TwoImm → ℕ
greatest_of Xmm SumsOfFour = 7
greatest_of Ymm SumsOfFour = 63
greatest_of Xmm BlendDwords = 15
greatest_of _ _ = 255

abbrev pub range_of : Form → ImmRange
range_of (form.OneImm size op) = Span 0 255
range_of (form.TwoImm size op) = Span 0 (greatest_of size op)
range_of (form.Across row) = across_range row
range_of (form.Scalar row) = scalar_range row
range_of (form.Memory row) = memory_range row
range_of _ = NoImmediate

abbrev pub is_scalar_one : One → Bool
is_scalar_one MinPosition = true
is_scalar_one _ = false

-- the rows that are scalar by nature
abbrev pub is_scalar : Form → Bool
is_scalar (form.One size op) = is_scalar_one op
is_scalar (form.Counted size op width) = true
is_scalar (form.Scalar row) = true
is_scalar (form.Memory row) = is_scalar_memory row
is_scalar _ = false

abbrev pub accesses_of : Form → ℕ
accesses_of (form.Memory row) = memory_accesses row
accesses_of _ = 0

abbrev pub access_of : Form → List Arg → ℕ → ℕ → Option Access
access_of (form.Memory row) args imm k = memory_access row args imm k
access_of _ args imm k = None

-- f of a register, of a row on 32 bytes block by block; and so on
abbrev pub one_value : Size → (List ℕ → List ℕ) → List Arg → Arg
one_value Xmm f (arg.R16 a ∷ []) = arg.R16 (f a)
one_value Ymm f (arg.R32 a ∷ []) = arg.R32 (by_blocks f a)
one_value _ f _ = arg.Nothing

abbrev pub two_value : Size → (List ℕ → List ℕ → List ℕ) → List Arg → Arg
two_value Xmm f (arg.R16 a ∷ arg.R16 b ∷ []) = arg.R16 (f a b)
two_value Ymm f (arg.R32 a ∷ arg.R32 b ∷ []) = arg.R32 (by_blocks2 f a b)
two_value _ f _ = arg.Nothing

-- the count is the low 64 bits of the second register
abbrev pub counted_value : Size → (ℕ → List ℕ → List ℕ) → List Arg → Arg
counted_value Xmm f (arg.R16 a ∷ arg.R16 count ∷ []) = arg.R16 (f (lane 8 count 0) a)
counted_value Ymm f (arg.R32 a ∷ arg.R16 count ∷ []) = arg.R32 (by_blocks (f (lane 8 count 0)) a)
counted_value _ f _ = arg.Nothing

abbrev pub one_imm_value : Size → (List ℕ → List ℕ) → List Arg → Arg
one_imm_value Xmm f (arg.R16 a ∷ arg.Nothing ∷ []) = arg.R16 (f a)
one_imm_value Ymm f (arg.R32 a ∷ arg.Nothing ∷ []) = arg.R32 (by_blocks f a)
one_imm_value _ f _ = arg.Nothing

-- the immediate of the high block: `mpsadbw` has bits 5..3 there in place of 2..0, and a blend of dwords goes on with bit 4
abbrev pub high_imm : TwoImm → ℕ → ℕ
high_imm SumsOfFour imm = imm / 8
high_imm BlendDwords imm = imm / 16
high_imm _ imm = imm

abbrev pub two_imm_value : Size → TwoImm → List Arg → ℕ → Arg
two_imm_value Xmm op (arg.R16 a ∷ arg.R16 b ∷ arg.Nothing ∷ []) imm = arg.R16 (two_imm_of op a b imm)
two_imm_value Ymm op (arg.R32 a ∷ arg.R32 b ∷ arg.Nothing ∷ []) imm =
    arg.R32 (two_imm_of op (take 16 a) (take 16 b) imm ++ two_imm_of op (drop 16 a) (drop 16 b) (high_imm op imm))
two_imm_value _ op _ imm = arg.Nothing

abbrev pub blend_value : Size → List Arg → Arg
blend_value Xmm (arg.R16 a ∷ arg.R16 b ∷ arg.R16 mask ∷ []) = arg.R16 (blend_bytes a b mask)
blend_value Ymm (arg.R32 a ∷ arg.R32 b ∷ arg.R32 mask ∷ []) = arg.R32 (by_blocks3 blend_bytes a b mask)
blend_value _ _ = arg.Nothing

-- f n of a register of 16 bytes, n being the bytes of the result
abbrev pub across_blocks_value : Size → (ℕ → List ℕ → List ℕ) → List Arg → Arg
across_blocks_value Xmm f (arg.R16 a ∷ []) = arg.R16 (f 16 a)
across_blocks_value Ymm f (arg.R16 a ∷ []) = arg.R32 (f 32 a)
across_blocks_value _ f _ = arg.Nothing

-- the value of a row of the form
abbrev pub value_of : Form → List Arg → ℕ → Arg
value_of (form.One size op) args imm = one_value size (one_of op) args
value_of (form.Two size op) args imm = two_value size (two_of op) args
value_of (form.Counted size op width) args imm = counted_value size (shifted op (bytes_of width)) args
value_of (form.OneImm size op) args imm = one_imm_value size (λ a. one_imm_of op a imm) args
value_of (form.TwoImm size op) args imm = two_imm_value size op args imm
value_of (form.BlendBytes size) args imm = blend_value size args
value_of (form.Extend size signs widths) args imm = across_blocks_value size (λ n. extended signs n (narrow_of widths) (wide_of widths)) args
value_of (form.Broadcast size width) args imm = across_blocks_value size (λ n. broadcast n (bytes_of width)) args
value_of (form.Across row) args imm = across_value row args imm
value_of (form.Scalar row) args imm = scalar_value row args imm
value_of (form.Memory row) args imm = memory_value row args
