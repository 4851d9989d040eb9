-- What holds of every row with integers.
use Rattle.std.proofs.Common.{◌≡◌, ℕ, ◌<◌, ◌≤◌, ◌^◌, ◌/◌, ◌%◌, List, [], ◌∷◌, length, Bool, true, false, arith, refl}
use Rattle.lane_core.specs.Register.{IsRegister, IsWidth, IsSize, lane, signed}
use Rattle.lane_core.specs.declared.table.Arg.{Arg}
use Rattle.lane_core.specs.declared.table.Arg.TheVariants as arg
use Rattle.lane_core.specs.declared.table.ParamKind.TheVariants as kind
use Rattle.lane_core.specs.Table.{Fits, FitsKind, FitsKinds, FitsResult, IsNumber}
use Rattle.lane_core.proofs.Laws.{IsRegister-build, IsRegister-put, IsRegister-join}
use Rattle.lane_core.proofs.Lanes.{lane_below}
use Rattle.lane_core.proofs.Signed.{wrapped_below}
use Rattle.intel_lanes.specs.declared.lanes.Width.{Width}
use Rattle.intel_lanes.specs.declared.lanes.Width.TheVariants.{Byte, Word, Dword, Qword}
use Rattle.intel_lanes.specs.Lanes.{bytes_of}
use Rattle.intel_lanes.specs.Laws.{qword, width_is, xmm, ymm}
use Rattle.intel_forms.specs.declared.sizes.Size.{Size}
use Rattle.intel_forms.specs.declared.sizes.Size.TheVariants.{Xmm, Ymm}
use Rattle.intel_forms.specs.declared.scalars.Scalar.{Scalar}
use Rattle.intel_forms.specs.declared.scalars.Scalar.TheVariants as row
use Rattle.intel_forms.specs.declared.scalars.Test.{Test}
use Rattle.intel_forms.specs.declared.scalars.Test.TheVariants.{Zero, Carry, Neither}
use Rattle.intel_forms.specs.Sizes.{register, result_type}
use Rattle.intel_forms.specs.Scalars.{scalar_signature, scalar_value, first_number, all_lanes, each_lane, each_lane_reversed, to_low_lane, extracted, inserted, byte_signs, top_bits, bit, tested, is_ones, set_all_value, set_value, set_reversed_value, set_halves_value, set_halves_reversed_value, from_vector_value, extract_value, insert_value, signs_value, tested_value, ones_value}

integers_count : (size : Size) (width : Width) → ((scalar_signature (row.Set size width)).count ≤ 32) × (length (scalar_signature (row.Set size width)).params ≡ 32)
integers_count Xmm Byte = (omega arith, refl)
integers_count Xmm Word = (omega arith, refl)
integers_count Xmm Dword = (omega arith, refl)
integers_count Xmm Qword = (omega arith, refl)
integers_count Ymm Byte = (omega arith, refl)
integers_count Ymm Word = (omega arith, refl)
integers_count Ymm Dword = (omega arith, refl)
integers_count Ymm Qword = (omega arith, refl)

pub scalar_counts : (r : Scalar) → ((scalar_signature r).count ≤ 32) × (length (scalar_signature r).params ≡ 32)
scalar_counts (row.Set size width) = integers_count size width
scalar_counts (row.SetReversed size width) = integers_count size width
scalar_counts _ = (omega arith, refl)

all_lanes_is : (n w x : ℕ) → IsWidth w → IsSize n → IsRegister n (all_lanes n w x)
unfolding all_lanes
all_lanes_is n w x h s = IsRegister-build w n _ h s

each_lane_is : (n w : ℕ) (args : List Arg) → IsWidth w → IsSize n → IsRegister n (each_lane n w args)
unfolding each_lane
each_lane_is n w args h s = IsRegister-build w n _ h s

each_lane_reversed_is : (n w : ℕ) (args : List Arg) → IsWidth w → IsSize n → IsRegister n (each_lane_reversed n w args)
unfolding each_lane_reversed
each_lane_reversed_is n w args h s = IsRegister-build w n _ h s

to_low_lane_is : (w x : ℕ) → IsWidth w → IsRegister 16 (to_low_lane w x)
unfolding to_low_lane
to_low_lane_is w x h = IsRegister-build w 16 _ h xmm

inserted_16 : (width : Width) (a : List ℕ) (x imm : ℕ) → IsRegister 16 a → IsRegister 16 (inserted 16 width a x imm)
inserted_16 Byte a x imm h = IsRegister-put 1 16 _ x a (omega arith) h
inserted_16 Word a x imm h = IsRegister-put 2 16 _ x a (omega arith) h
inserted_16 Dword a x imm h = IsRegister-put 4 16 _ x a (omega arith) h
inserted_16 Qword a x imm h = IsRegister-put 8 16 _ x a (omega arith) h

inserted_32 : (width : Width) (a : List ℕ) (x imm : ℕ) → IsRegister 32 a → IsRegister 32 (inserted 32 width a x imm)
inserted_32 Byte a x imm h = IsRegister-put 1 32 _ x a (omega arith) h
inserted_32 Word a x imm h = IsRegister-put 2 32 _ x a (omega arith) h
inserted_32 Dword a x imm h = IsRegister-put 4 32 _ x a (omega arith) h
inserted_32 Qword a x imm h = IsRegister-put 8 32 _ x a (omega arith) h

-- integers are below 2 ^ 64
extracted_below : (n : ℕ) (width : Width) (a : List ℕ) (imm : ℕ) → IsRegister n a → extracted n width a imm < 2 ^ 64
extracted_below n Byte a imm h = omega (arith, lane_below 1 a (imm % (n / 1)) h.bytes)
extracted_below n Word a imm h = omega (arith, lane_below 2 a (imm % (n / 2)) h.bytes)
extracted_below n Dword a imm h = let b = wrapped_below 8 (signed 4 (lane 4 a (imm % (n / 4)))) in omega (arith, b)
extracted_below n Qword a imm h = omega (arith, lane_below 8 a (imm % (n / 8)) h.bytes)

signs_below : (n : ℕ) (a : List ℕ) → byte_signs n a < 2 ^ 64
signs_below n a = let b = wrapped_below 8 (signed 4 (top_bits n a)) in omega (arith, b)

bit_below : (b : Bool) → bit b < 2 ^ 64
bit_below true = omega arith
bit_below false = omega arith

tested_below : (test : Test) (n : ℕ) (a b : List ℕ) → tested test n a b < 2 ^ 64
tested_below Zero n a b = bit_below _
tested_below Carry n a b = bit_below _
tested_below Neither n a b = bit_below _

set_all_fits : (size : Size) (w x : ℕ) → IsWidth w → FitsKind (register size) (set_all_value size w x)
set_all_fits Xmm w x h = (refl, all_lanes_is 16 w x h xmm)
set_all_fits Ymm w x h = (refl, all_lanes_is 32 w x h ymm)

set_fits : (size : Size) (w : ℕ) (args : List Arg) → IsWidth w → FitsKind (register size) (set_value size w args)
set_fits Xmm w args h = (refl, each_lane_is 16 w args h xmm)
set_fits Ymm w args h = (refl, each_lane_is 32 w args h ymm)

set_reversed_fits : (size : Size) (w : ℕ) (args : List Arg) → IsWidth w → FitsKind (register size) (set_reversed_value size w args)
set_reversed_fits Xmm w args h = (refl, each_lane_reversed_is 16 w args h xmm)
set_reversed_fits Ymm w args h = (refl, each_lane_reversed_is 32 w args h ymm)

set_halves_fits : (args : List Arg) → FitsKinds (kind.Reg 16 ∷ kind.Reg 16 ∷ []) args → FitsKind (kind.Reg 32) (set_halves_value args)
set_halves_fits (arg.R16 hi ∷ arg.R16 lo ∷ []) h = (refl, IsRegister-join lo hi h.1.0.1 h.0.1)
set_halves_fits _ h = grind (arith, h)

set_halves_reversed_fits : (args : List Arg) → FitsKinds (kind.Reg 16 ∷ kind.Reg 16 ∷ []) args → FitsKind (kind.Reg 32) (set_halves_reversed_value args)
set_halves_reversed_fits (arg.R16 lo ∷ arg.R16 hi ∷ []) h = (refl, IsRegister-join lo hi h.0.1 h.1.0.1)
set_halves_reversed_fits _ h = grind (arith, h)

from_vector_fits : (width : Width) (args : List Arg) → FitsKinds (kind.Reg 16 ∷ []) args → IsNumber (from_vector_value width args)
from_vector_fits width (arg.R16 a ∷ []) h = extracted_below 16 width a 0 h.0.1
from_vector_fits width _ h = grind (arith, h)

extract_fits : (size : Size) (width : Width) (args : List Arg) (imm : ℕ) → FitsKinds (register size ∷ kind.Immediate ∷ []) args → IsNumber (extract_value size width args imm)
extract_fits Xmm width (arg.R16 a ∷ arg.Nothing ∷ []) imm h = extracted_below 16 width a imm h.0.1
extract_fits Xmm width _ imm h = grind (arith, h)
extract_fits Ymm width (arg.R32 a ∷ arg.Nothing ∷ []) imm h = extracted_below 32 width a imm h.0.1
extract_fits Ymm width _ imm h = grind (arith, h)

insert_fits : (size : Size) (width : Width) (args : List Arg) (imm : ℕ) → FitsKinds (register size ∷ kind.Scalar (result_type width) ∷ kind.Immediate ∷ []) args
    → FitsKind (register size) (insert_value size width args imm)
insert_fits Xmm width (arg.R16 a ∷ arg.Int x ∷ arg.Nothing ∷ []) imm h = (refl, inserted_16 width a x imm h.0.1)
insert_fits Xmm width _ imm h = grind (arith, h)
insert_fits Ymm width (arg.R32 a ∷ arg.Int x ∷ arg.Nothing ∷ []) imm h = (refl, inserted_32 width a x imm h.0.1)
insert_fits Ymm width _ imm h = grind (arith, h)

signs_fits : (size : Size) (args : List Arg) → FitsKinds (register size ∷ []) args → IsNumber (signs_value size args)
signs_fits Xmm (arg.R16 a ∷ []) h = signs_below 16 a
signs_fits Xmm _ h = grind (arith, h)
signs_fits Ymm (arg.R32 a ∷ []) h = signs_below 32 a
signs_fits Ymm _ h = grind (arith, h)

tested_fits : (size : Size) (test : Test) (args : List Arg) → FitsKinds (register size ∷ register size ∷ []) args → IsNumber (tested_value size test args)
tested_fits Xmm test (arg.R16 a ∷ arg.R16 b ∷ []) h = tested_below test 16 a b
tested_fits Xmm test _ h = grind (arith, h)
tested_fits Ymm test (arg.R32 a ∷ arg.R32 b ∷ []) h = tested_below test 32 a b
tested_fits Ymm test _ h = grind (arith, h)

ones_fits : (args : List Arg) → FitsKinds (kind.Reg 16 ∷ []) args → IsNumber (ones_value args)
ones_fits (arg.R16 a ∷ []) h = bit_below (is_ones a)
ones_fits _ h = grind (arith, h)

pub scalar_gives : (r : Scalar) (args : List Arg) (imm : ℕ) → Fits (scalar_signature r) args → FitsResult (scalar_signature r).result (scalar_value r args imm)
scalar_gives (row.SetZero size) args imm fit = set_all_fits size 8 0 qword
scalar_gives (row.SetAll size width) args imm fit = set_all_fits size (bytes_of width) (first_number args) (width_is width)
scalar_gives (row.Set size width) args imm fit = set_fits size (bytes_of width) args (width_is width)
scalar_gives (row.SetReversed size width) args imm fit = set_reversed_fits size (bytes_of width) args (width_is width)
scalar_gives row.SetHalves args imm fit = set_halves_fits args fit
scalar_gives row.SetHalvesReversed args imm fit = set_halves_reversed_fits args fit
scalar_gives (row.ToVector width) args imm fit = (refl, to_low_lane_is (bytes_of width) (first_number args) (width_is width))
scalar_gives (row.FromVector width) args imm fit = from_vector_fits width args fit
scalar_gives (row.Extract size width) args imm fit = extract_fits size width args imm fit
scalar_gives (row.Insert size width) args imm fit = insert_fits size width args imm fit
scalar_gives (row.ByteSigns size) args imm fit = signs_fits size args fit
scalar_gives (row.Tested size test) args imm fit = tested_fits size test args fit
scalar_gives row.TestedOnes args imm fit = ones_fits args fit
