-- How types are written where `arm_neon.h` and `stdint.h` are included (C11 6.7.2, 6.7.7 and 7.20.1.1; Arm's Neon reference).
-- The types of Intel's vectors stand in no unit that is written, and have their own names here.
use Rattle.std.specs.Prelude.{ℕ, List, [], ◌++◌, Bool, true, false, codes, decimal}
use Rattle.lane_core.specs.declared.number.IntType.{IntType}
use Rattle.lane_core.specs.declared.number.IntType.TheVariants as ints
use Rattle.lane_core.specs.declared.vector.NeonLane.{NeonLane}
use Rattle.lane_core.specs.declared.vector.NeonLane.TheVariants.{U8, U16, U32, U64, S8, S16, S32, S64}
use Rattle.lane_core.specs.declared.vector.Pointee.{Pointee}
use Rattle.lane_core.specs.declared.vector.Pointee.TheVariants as pointees
use Rattle.c_tree.specs.declared.types.CType.{CType}
use Rattle.c_tree.specs.declared.types.CType.TheVariants.{Void, Int, M128, M256, Neon, Pair, Pointer, Array}

-- plain `char` is signed
abbrev pub integer_text : IntType → List ℕ
integer_text ints.Boolean = codes "_Bool"
integer_text ints.Char = codes "signed char"
integer_text ints.SChar = codes "signed char"
integer_text ints.UChar = codes "uint8_t"
integer_text ints.Short = codes "int16_t"
integer_text ints.UShort = codes "uint16_t"
integer_text ints.Int = codes "int"
integer_text ints.UInt = codes "unsigned"
integer_text ints.Long = codes "int64_t"
integer_text ints.ULong = codes "uint64_t"
integer_text ints.LLong = codes "long long"
integer_text ints.ULLong = codes "unsigned long long"

-- a Neon vector of these lanes, which has 128 bits if true, else 64
abbrev pub vector_text : NeonLane → Bool → List ℕ
vector_text U8 true = codes "uint8x16_t"
vector_text U16 true = codes "uint16x8_t"
vector_text U32 true = codes "uint32x4_t"
vector_text U64 true = codes "uint64x2_t"
vector_text S8 true = codes "int8x16_t"
vector_text S16 true = codes "int16x8_t"
vector_text S32 true = codes "int32x4_t"
vector_text S64 true = codes "int64x2_t"
vector_text U8 false = codes "uint8x8_t"
vector_text U16 false = codes "uint16x4_t"
vector_text U32 false = codes "uint32x2_t"
vector_text U64 false = codes "uint64x1_t"
vector_text S8 false = codes "int8x8_t"
vector_text S16 false = codes "int16x4_t"
vector_text S32 false = codes "int32x2_t"
vector_text S64 false = codes "int64x1_t"

-- what is pointed to, or an array's elements
abbrev pub pointee_text : Pointee → List ℕ
pointee_text pointees.Void = codes "void"
pointee_text (pointees.Int t) = integer_text t
pointee_text pointees.M128 = codes "__m128i"
pointee_text pointees.M256 = codes "__m256i"

-- the type that a declaration begins with: a pointer's `*` and an array's brackets stand with the name
abbrev pub base_text : CType → List ℕ
base_text Void = codes "void"
base_text (Int t) = integer_text t
base_text M128 = codes "__m128i"
base_text M256 = codes "__m256i"
base_text (Neon lane wide) = vector_text lane wide
base_text Pair = codes "uint8x16x2_t"
base_text (Pointer p constant) = pointee_text p
base_text (Array p n constant) = pointee_text p

-- `const`, where it stands, and a space
abbrev pub const_text : Bool → List ℕ
const_text true = codes "const "
const_text false = []

-- whether the type's base is const by the type alone
abbrev pub is_base_const : CType → Bool
is_base_const (Pointer p constant) = constant
is_base_const (Array p n constant) = constant
is_base_const _ = false

-- what follows the base in a type's name
abbrev pub behind_base : CType → List ℕ
behind_base (Pointer p constant) = codes " *"
behind_base (Array p n constant) = codes " [" ++ (decimal n ++ codes "]")
behind_base _ = []

-- a type's name, as in a cast
abbrev pub type_text : CType → List ℕ
type_text t = const_text (is_base_const t) ++ (base_text t ++ behind_base t)
