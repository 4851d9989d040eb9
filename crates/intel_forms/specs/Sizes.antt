-- The sizes of registers, and the types that rows take and give.
use Rattle.std.specs.Prelude.{ℕ}
use Rattle.lane_core.specs.declared.number.IntType.{IntType}
use Rattle.lane_core.specs.declared.number.IntType.TheVariants.{Char, Short, Int, LLong}
use Rattle.lane_core.specs.declared.vector.Pointee.{Pointee}
use Rattle.lane_core.specs.declared.vector.Pointee.TheVariants as pointee
use Rattle.lane_core.specs.declared.table.ParamKind.{ParamKind}
use Rattle.lane_core.specs.declared.table.ParamKind.TheVariants as kind
use Rattle.intel_lanes.specs.declared.lanes.Width.{Width}
use Rattle.intel_lanes.specs.declared.lanes.Width.TheVariants.{Byte, Word, Dword, Qword}
use Rattle.intel_forms.specs.declared.sizes.Size.{Size}
use Rattle.intel_forms.specs.declared.sizes.Size.TheVariants.{Xmm, Ymm}

-- the bytes of a register
abbrev pub size_of : Size → ℕ
size_of Xmm = 16
size_of Ymm = 32

-- `__m128i` or `__m256i`
abbrev pub register : Size → ParamKind
register size = kind.Reg (size_of size)

-- the same behind a pointer
abbrev pub vector_type : Size → Pointee
vector_type Xmm = pointee.M128
vector_type Ymm = pointee.M256

-- the type of an integer for a lane: `char`, `short`, `int`, `long long`
abbrev pub lane_type : Width → IntType
lane_type Byte = Char
lane_type Word = Short
lane_type Dword = Int
lane_type Qword = LLong

-- the type of a single lane that a row takes or gives: `int` or `long long`
abbrev pub result_type : Width → IntType
result_type Qword = LLong
result_type _ = Int
