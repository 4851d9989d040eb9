-- What holds of every form: the signature counts its parameters, the value is of the result's kind, and accesses lie in the row's register.
use Rattle.std.proofs.Common.{◌≡◌, ℕ, ◌≤◌, List, [], ◌∷◌, length, take, drop, arith, refl}
use Rattle.std.specs.Prelude.{IfSome}
use Rattle.lane_core.specs.Register.{IsRegister, IsSize, lane}
use Rattle.lane_core.specs.declared.table.Arg.{Arg}
use Rattle.lane_core.specs.declared.table.Arg.TheVariants as arg
use Rattle.lane_core.specs.declared.table.ParamKind.TheVariants as kind
use Rattle.lane_core.specs.Table.{Fits, FitsKind, FitsKinds, FitsResult}
use Rattle.lane_core.proofs.Laws.{IsRegister-join}
use Rattle.intel_lanes.specs.declared.blocks.TwoImm.{TwoImm}
use Rattle.intel_lanes.specs.Lanes.{bytes_of}
use Rattle.intel_lanes.specs.Blocks.{one_of, two_of, shifted, one_imm_of, extended, broadcast}
use Rattle.intel_lanes.specs.Laws.{dword, word, qword, xmm, ymm, width_is, one_is, two_is, shifted_is, one_imm_is, two_imm_is, blend_is, extended_is, broadcast_is}
use Rattle.lane_core.specs.Register.{IsWidth}
use Rattle.intel_forms.specs.declared.sizes.Size.{Size}
use Rattle.intel_forms.specs.declared.sizes.Size.TheVariants.{Xmm, Ymm}
use Rattle.intel_forms.specs.declared.forms.Extension.{Extension}
use Rattle.intel_forms.specs.declared.forms.Extension.TheVariants.{ByteWord, ByteDword, ByteQword, WordDword, WordQword, DwordQword}
use Rattle.intel_forms.specs.declared.forms.Form.{Form}
use Rattle.intel_forms.specs.declared.forms.Form.TheVariants as form
use Rattle.intel_forms.specs.Sizes.{size_of, register}
use Rattle.intel_forms.specs.Memory.{memory_register}
use Rattle.intel_forms.specs.Forms.{narrow_of, wide_of, signature_of, access_of, high_imm, one_value, two_value, counted_value, one_imm_value, two_imm_value, blend_value, across_blocks_value, value_of}
use Rattle.intel_forms.specs.AcrossLaws.{across_counts, across_gives}
use Rattle.intel_forms.specs.ScalarLaws.{scalar_counts, scalar_gives}
use Rattle.intel_forms.specs.MemoryLaws.{memory_counts, memory_gives, memory_inside, Inside}

-- the signature counts its parameters
pub counts_parameters : (f : Form) → ((signature_of f).count ≤ 32) × (length (signature_of f).params ≡ 32)
counts_parameters (form.Across row) = across_counts row
counts_parameters (form.Scalar row) = scalar_counts row
counts_parameters (form.Memory row) = memory_counts row
counts_parameters _ = (omega arith, refl)

-- a form gives its kind where its formula gives registers
one_fits : (size : Size) (f : List ℕ → List ℕ) → ((a : List ℕ) → IsRegister 16 (f a)) → (args : List Arg) → FitsKinds (register size ∷ []) args → FitsKind (register size) (one_value size f args)
one_fits Xmm f whole (arg.R16 a ∷ []) h = (refl, whole a)
one_fits Xmm f whole _ h = grind (arith, h)
one_fits Ymm f whole (arg.R32 a ∷ []) h = (refl, IsRegister-join _ _ (whole (take 16 a)) (whole (drop 16 a)))
one_fits Ymm f whole _ h = grind (arith, h)

two_fits : (size : Size) (f : List ℕ → List ℕ → List ℕ) → ((a b : List ℕ) → IsRegister 16 (f a b)) → (args : List Arg) → FitsKinds (register size ∷ register size ∷ []) args
    → FitsKind (register size) (two_value size f args)
two_fits Xmm f whole (arg.R16 a ∷ arg.R16 b ∷ []) h = (refl, whole a b)
two_fits Xmm f whole _ h = grind (arith, h)
two_fits Ymm f whole (arg.R32 a ∷ arg.R32 b ∷ []) h = (refl, IsRegister-join _ _ (whole (take 16 a) (take 16 b)) (whole (drop 16 a) (drop 16 b)))
two_fits Ymm f whole _ h = grind (arith, h)

counted_fits : (size : Size) (f : ℕ → List ℕ → List ℕ) → ((n : ℕ) (a : List ℕ) → IsRegister 16 (f n a)) → (args : List Arg) → FitsKinds (register size ∷ kind.Reg 16 ∷ []) args
    → FitsKind (register size) (counted_value size f args)
counted_fits Xmm f whole (arg.R16 a ∷ arg.R16 count ∷ []) h = (refl, whole (lane 8 count 0) a)
counted_fits Xmm f whole _ h = grind (arith, h)
counted_fits Ymm f whole (arg.R32 a ∷ arg.R16 count ∷ []) h =
    let n = lane 8 count 0 in (refl, IsRegister-join _ _ (whole n (take 16 a)) (whole n (drop 16 a)))
counted_fits Ymm f whole _ h = grind (arith, h)

one_imm_fits : (size : Size) (f : List ℕ → List ℕ) → ((a : List ℕ) → IsRegister 16 (f a)) → (args : List Arg) → FitsKinds (register size ∷ kind.Immediate ∷ []) args
    → FitsKind (register size) (one_imm_value size f args)
one_imm_fits Xmm f whole (arg.R16 a ∷ arg.Nothing ∷ []) h = (refl, whole a)
one_imm_fits Xmm f whole _ h = grind (arith, h)
one_imm_fits Ymm f whole (arg.R32 a ∷ arg.Nothing ∷ []) h = (refl, IsRegister-join _ _ (whole (take 16 a)) (whole (drop 16 a)))
one_imm_fits Ymm f whole _ h = grind (arith, h)

two_imm_fits : (size : Size) (op : TwoImm) (imm : ℕ) (args : List Arg) → FitsKinds (register size ∷ register size ∷ kind.Immediate ∷ []) args
    → FitsKind (register size) (two_imm_value size op args imm)
two_imm_fits Xmm op imm (arg.R16 a ∷ arg.R16 b ∷ arg.Nothing ∷ []) h = (refl, two_imm_is op a b imm)
two_imm_fits Xmm op imm _ h = grind (arith, h)
two_imm_fits Ymm op imm (arg.R32 a ∷ arg.R32 b ∷ arg.Nothing ∷ []) h =
    (refl, IsRegister-join _ _ (two_imm_is op (take 16 a) (take 16 b) imm) (two_imm_is op (drop 16 a) (drop 16 b) (high_imm op imm)))
two_imm_fits Ymm op imm _ h = grind (arith, h)

blend_fits : (size : Size) (args : List Arg) → FitsKinds (register size ∷ register size ∷ register size ∷ []) args → FitsKind (register size) (blend_value size args)
blend_fits Xmm (arg.R16 a ∷ arg.R16 b ∷ arg.R16 mask ∷ []) h = (refl, blend_is a b mask)
blend_fits Xmm _ h = grind (arith, h)
blend_fits Ymm (arg.R32 a ∷ arg.R32 b ∷ arg.R32 mask ∷ []) h =
    (refl, IsRegister-join _ _ (blend_is (take 16 a) (take 16 b) (take 16 mask)) (blend_is (drop 16 a) (drop 16 b) (drop 16 mask)))
blend_fits Ymm _ h = grind (arith, h)

across_blocks_fits : (size : Size) (f : ℕ → List ℕ → List ℕ) → ((n : ℕ) (a : List ℕ) → IsSize n → IsRegister n (f n a)) → (args : List Arg) → FitsKinds (kind.Reg 16 ∷ []) args
    → FitsKind (register size) (across_blocks_value size f args)
across_blocks_fits Xmm f whole (arg.R16 a ∷ []) h = (refl, whole 16 a xmm)
across_blocks_fits Xmm f whole _ h = grind (arith, h)
across_blocks_fits Ymm f whole (arg.R16 a ∷ []) h = (refl, whole 32 a ymm)
across_blocks_fits Ymm f whole _ h = grind (arith, h)

wide_is : (widths : Extension) → IsWidth (wide_of widths)
wide_is ByteWord = word
wide_is ByteDword = dword
wide_is ByteQword = qword
wide_is WordDword = dword
wide_is WordQword = qword
wide_is DwordQword = qword

-- the value is of the result's kind
pub gives_its_kind : (f : Form) (args : List Arg) (imm : ℕ) → Fits (signature_of f) args → FitsResult (signature_of f).result (value_of f args imm)
gives_its_kind (form.One size op) args imm fit = one_fits size (one_of op) (one_is op) args fit
gives_its_kind (form.Two size op) args imm fit = two_fits size (two_of op) (two_is op) args fit
gives_its_kind (form.Counted size op width) args imm fit = counted_fits size (shifted op (bytes_of width)) (shifted_is op width) args fit
gives_its_kind (form.OneImm size op) args imm fit = one_imm_fits size (λ a. one_imm_of op a imm) (λ a. one_imm_is op a imm) args fit
gives_its_kind (form.TwoImm size op) args imm fit = two_imm_fits size op imm args fit
gives_its_kind (form.BlendBytes size) args imm fit = blend_fits size args fit
gives_its_kind (form.Extend size signs widths) args imm fit =
    across_blocks_fits size (λ n. extended signs n (narrow_of widths) (wide_of widths)) (λ n a. extended_is signs n (narrow_of widths) (wide_of widths) a (wide_is widths)) args fit
gives_its_kind (form.Broadcast size width) args imm fit =
    across_blocks_fits size (λ n. broadcast n (bytes_of width)) (λ n a. broadcast_is n (bytes_of width) a (width_is width)) args fit
gives_its_kind (form.Across row) args imm fit = across_gives row args imm fit
gives_its_kind (form.Scalar row) args imm fit = scalar_gives row args imm fit
gives_its_kind (form.Memory row) args imm fit = memory_gives row args fit

-- the bytes of the register into which a row reads or from which it stores
abbrev pub register_of : Form → ℕ
register_of (form.Memory row) = size_of (memory_register row)
register_of _ = 0

-- accesses lie in that register
pub accesses_inside : (f : Form) (args : List Arg) (imm k : ℕ) → IfSome (access_of f args imm k) (Inside (register_of f))
accesses_inside (form.Memory row) args imm k = memory_inside row args imm k
accesses_inside _ args imm k = tt
