-- Rows that work across the blocks of 32 bytes, by the "Operation" of each in the Intel Intrinsics Guide.
use Rattle.std.specs.Prelude.{ℕ, ◌/◌, ◌%◌, ◌^◌, List, [], ◌∷◌, ◌++◌, take, drop, replicate, ◌==◌, if◌then◌else◌}
use Rattle.lane_core.specs.Register.{lane, build}
use Rattle.lane_core.specs.declared.table.Arg.{Arg}
use Rattle.lane_core.specs.declared.table.Arg.TheVariants as arg
use Rattle.lane_core.specs.declared.table.ParamKind.TheVariants as kind
use Rattle.lane_core.specs.declared.table.ImmRange.{ImmRange}
use Rattle.lane_core.specs.declared.table.ImmRange.TheVariants.{NoImmediate, Span}
use Rattle.lane_core.specs.declared.table.Sig.{Sig}
use Rattle.lane_core.specs.Table.{signature}
use Rattle.intel_forms.specs.declared.across.Across.{Across}
use Rattle.intel_forms.specs.declared.across.Across.TheVariants.{BroadcastHalf, ZeroExtend, LowHalf, PermuteDwords, PermuteQwords, PermuteHalves, ExtractHalf, InsertHalf}

abbrev pub across_signature : Across → Sig
across_signature BroadcastHalf = signature (kind.Reg 32) (kind.Reg 16 ∷ [])
across_signature ZeroExtend = signature (kind.Reg 32) (kind.Reg 16 ∷ [])
across_signature LowHalf = signature (kind.Reg 16) (kind.Reg 32 ∷ [])
across_signature PermuteDwords = signature (kind.Reg 32) (kind.Reg 32 ∷ kind.Reg 32 ∷ [])
across_signature PermuteQwords = signature (kind.Reg 32) (kind.Reg 32 ∷ kind.Immediate ∷ [])
across_signature PermuteHalves = signature (kind.Reg 32) (kind.Reg 32 ∷ kind.Reg 32 ∷ kind.Immediate ∷ [])
across_signature ExtractHalf = signature (kind.Reg 16) (kind.Reg 32 ∷ kind.Immediate ∷ [])
across_signature InsertHalf = signature (kind.Reg 32) (kind.Reg 32 ∷ kind.Reg 16 ∷ kind.Immediate ∷ [])

abbrev pub across_range : Across → ImmRange
across_range PermuteQwords = Span 0 255
across_range PermuteHalves = Span 0 255
across_range ExtractHalf = Span 0 1
across_range InsertHalf = Span 0 1
across_range _ = NoImmediate

-- "id := idx[i+2:i]*32; dst[i+31:i] := a[id+31:id]"
unfoldable pub permute_dwords : List ℕ → List ℕ → List ℕ
permute_dwords a index = build 4 8 (λ k. lane 4 a (lane 4 index k % 8))

-- "SELECT4(a[255:0], imm8[2i+1:2i])"
unfoldable pub permute_qwords : List ℕ → ℕ → List ℕ
permute_qwords a imm = build 8 4 (λ k. lane 8 a (imm / 4 ^ k % 4))

-- "CASE(control[1:0]) 0: src1[127:0], 1: src1[255:128], 2: src2[127:0], 3: src2[255:128]; IF control[3]: 0"
abbrev pub half_by : List ℕ → List ℕ → ℕ → List ℕ
half_by a b control =
    if control / 8 % 2 == 1 then replicate 16 0 else
    (if control % 4 == 0 then take 16 a else (if control % 4 == 1 then drop 16 a else (if control % 4 == 2 then take 16 b else drop 16 b)))

-- "dst[127:0] := SELECT4(a, b, imm8[3:0]); dst[255:128] := SELECT4(a, b, imm8[7:4])"
abbrev pub permute_halves : List ℕ → List ℕ → ℕ → List ℕ
permute_halves a b imm = half_by a b (imm % 16) ++ half_by a b (imm / 16)

-- "CASE imm8[0] OF 0: a[127:0], 1: a[255:128]"
abbrev pub extract_half : List ℕ → ℕ → List ℕ
extract_half a imm = if imm % 2 == 0 then take 16 a else drop 16 a

-- "dst := a; CASE imm8[0] OF 0: dst[127:0] := b, 1: dst[255:128] := b"
abbrev pub insert_half : List ℕ → List ℕ → ℕ → List ℕ
insert_half a b imm = if imm % 2 == 0 then b ++ drop 16 a else take 16 a ++ b

-- a register in both halves, below zeros, and a low half
abbrev pub broadcast_half_value : List Arg → Arg
broadcast_half_value (arg.R16 a ∷ []) = arg.R32 (a ++ a)
broadcast_half_value _ = arg.Nothing

abbrev pub zero_extend_value : List Arg → Arg
zero_extend_value (arg.R16 a ∷ []) = arg.R32 (a ++ replicate 16 0)
zero_extend_value _ = arg.Nothing

abbrev pub low_half_value : List Arg → Arg
low_half_value (arg.R32 a ∷ []) = arg.R16 (take 16 a)
low_half_value _ = arg.Nothing

abbrev pub permute_dwords_value : List Arg → Arg
permute_dwords_value (arg.R32 a ∷ arg.R32 index ∷ []) = arg.R32 (permute_dwords a index)
permute_dwords_value _ = arg.Nothing

abbrev pub permute_qwords_value : List Arg → ℕ → Arg
permute_qwords_value (arg.R32 a ∷ arg.Nothing ∷ []) imm = arg.R32 (permute_qwords a imm)
permute_qwords_value _ imm = arg.Nothing

abbrev pub permute_halves_value : List Arg → ℕ → Arg
permute_halves_value (arg.R32 a ∷ arg.R32 b ∷ arg.Nothing ∷ []) imm = arg.R32 (permute_halves a b imm)
permute_halves_value _ imm = arg.Nothing

abbrev pub extract_half_value : List Arg → ℕ → Arg
extract_half_value (arg.R32 a ∷ arg.Nothing ∷ []) imm = arg.R16 (extract_half a imm)
extract_half_value _ imm = arg.Nothing

abbrev pub insert_half_value : List Arg → ℕ → Arg
insert_half_value (arg.R32 a ∷ arg.R16 b ∷ arg.Nothing ∷ []) imm = arg.R32 (insert_half a b imm)
insert_half_value _ imm = arg.Nothing

abbrev pub across_value : Across → List Arg → ℕ → Arg
across_value BroadcastHalf args imm = broadcast_half_value args
across_value ZeroExtend args imm = zero_extend_value args
across_value LowHalf args imm = low_half_value args
across_value PermuteDwords args imm = permute_dwords_value args
across_value PermuteQwords args imm = permute_qwords_value args imm
across_value PermuteHalves args imm = permute_halves_value args imm
across_value ExtractHalf args imm = extract_half_value args imm
across_value InsertHalf args imm = insert_half_value args imm
