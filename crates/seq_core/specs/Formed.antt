-- The types of terms, and when a sequence is well formed.
use Rattle.std.specs.Prelude.{◌≡◌, ◌<◌, IsTrue, List, [], ◌∷◌, ◌++◌, Bool, true, false, Option, Some, None, slice_get, if◌then◌else◌, ℤ, pos, negsuc}
use Rattle.std.specs.Option.{unwrap_or}
use Rattle.lane_core.specs.declared.number.IntType.{IntType}
use Rattle.lane_core.specs.declared.number.IntType.TheVariants as int
use Rattle.lane_core.specs.declared.number.Num.{Num}
use Rattle.lane_core.specs.declared.number.BinOp.{BinOp}
use Rattle.lane_core.specs.declared.vector.NeonLane.TheVariants.{U8}
use Rattle.lane_core.specs.declared.vector.Pointee.{Pointee}
use Rattle.lane_core.specs.declared.table.ParamKind.{ParamKind}
use Rattle.lane_core.specs.declared.table.ParamKind.TheVariants as kind
use Rattle.lane_core.specs.Register.{IsRegister}
use Rattle.lane_core.specs.Table.{params_of, InImmRange}
use Rattle.scalar_core.specs.Operators.{is_comparison, is_shift}
use Rattle.c_tree.specs.declared.types.CType.{CType}
use Rattle.neon_table.specs.Rows.{signature_of, range_of}
use Rattle.seq_core.specs.Terms.{Term, Terms, Param, Step, Const, Int, Call, PairOf, Half, Scalar, Convert, Choice, Shifted, ByteAt, SetByte, NoTerms, More, Sequence}

-- `uint8x16_t`, and `uint8_t`
abbrev pub vector : CType
vector = CType.Neon U8 true

abbrev pub byte : CType
byte = CType.Int int.UChar

-- the type of a row's parameter or result of that kind; Neon rows have no Intel registers
abbrev pub type_of_kind : ParamKind → CType
type_of_kind (kind.Lane t wide) = CType.Neon t wide
type_of_kind kind.Pair = CType.Pair
type_of_kind (kind.Scalar t) = CType.Int t
type_of_kind (kind.PointerTo e constant) = CType.Pointer e constant
type_of_kind k = CType.Void

-- the types of a row's operands: those of its parameters without the constant
abbrev pub operand_types : List ParamKind → List CType
operand_types [] = []
operand_types (kind.Immediate ∷ ks) = operand_types ks
operand_types (k ∷ ks) = type_of_kind k ∷ operand_types ks

-- the pointer's target is const
abbrev pub is_to_const : CType → Bool
is_to_const (CType.Pointer e constant) = constant
is_to_const t = true

-- a pointer to bytes, const where the other is
abbrev pub to_bytes : CType → CType
to_bytes t = CType.Pointer (Pointee.Int int.UChar) (is_to_const t)

-- `int` for a comparison, else the left operand's type (C11 6.5.8p6, 6.5.9p3)
abbrev pub operator_type : BinOp → CType → CType
operator_type o t = if is_comparison o then CType.Int int.Int else t

-- the type of a term over those of the parameters and of the earlier steps; `void` where it has no value
abbrev pub type_of : List CType → List CType → Term → CType
type_of ps ss (Param n) = unwrap_or (slice_get ps n) CType.Void
type_of ps ss (Step n) = unwrap_or (slice_get ss n) CType.Void
type_of ps ss (Const r) = vector
type_of ps ss (Int n) = CType.Int n.ty
type_of ps ss (Call op all imm) = type_of_kind (signature_of op).result
type_of ps ss (PairOf a b) = CType.Pair
type_of ps ss (Half a k) = vector
type_of ps ss (Scalar o a b) = operator_type o (type_of ps ss a)
type_of ps ss (Convert t a) = CType.Int t
type_of ps ss (Choice c a b) = type_of ps ss a
type_of ps ss (Shifted a b) = to_bytes (type_of ps ss a)
type_of ps ss (ByteAt a) = byte
type_of ps ss (SetByte a b) = byte

abbrev pub types_of : List CType → List CType → Terms → List CType
types_of ps ss NoTerms = []
types_of ps ss (More t rest) = type_of ps ss t ∷ types_of ps ss rest

-- a type that values outside memory have in a written unit
abbrev pub IsCarrier : CType → Type 0
IsCarrier (CType.Int t) = Unit {0}
IsCarrier (CType.Neon lanes wide) = Unit {0}
IsCarrier CType.Pair = Unit {0}
IsCarrier (CType.Pointer e constant) = Unit {0}
IsCarrier _ = ⊥

abbrev pub AreCarriers : List CType → Type 0
AreCarriers [] = Unit {0}
AreCarriers (t ∷ ts) = IsCarrier t × AreCarriers ts

abbrev pub IsInteger : CType → Type 0
IsInteger (CType.Int t) = Unit {0}
IsInteger _ = ⊥

-- an integer type that is written by its own name: not plain `char`, which is signed in one dialect and unsigned in the other (C11 6.2.5p15)
abbrev pub IsNamed : IntType → Type 0
IsNamed int.Char = ⊥
IsNamed _ = Unit {0}

-- an operand of type u may be converted to the integer type t
abbrev pub IsConverted : IntType → CType → Type 0
IsConverted t (CType.Int u) = IsNamed t
IsConverted t _ = ⊥

-- an integer type that promotion leaves (C11 6.3.1.1p2)
abbrev pub is_promoted : IntType → Bool
is_promoted int.Int = true
is_promoted int.UInt = true
is_promoted int.Long = true
is_promoted int.ULong = true
is_promoted int.LLong = true
is_promoted int.ULLong = true
is_promoted _ = false

-- a number that is not negative
abbrev pub IsNatural : ℤ → Type 0
IsNatural (pos n) = Unit {0}
IsNatural (negsuc n) = ⊥

-- a number that an integer constant of C has: of a promoted type, and not negative (C11 6.4.4.1)
abbrev pub IsConstant : Num → Type 0
IsConstant n = IsTrue (is_promoted n.ty) × IsNatural n.value

abbrev pub IsPromoted : CType → Type 0
IsPromoted (CType.Int t) = IsTrue (is_promoted t)
IsPromoted _ = ⊥

-- the second operand beside a first of type t: a count of its own type for a shift, else of the same type (C11 6.5.7p3, 6.3.1.8)
abbrev pub IsBeside : Bool → CType → CType → Type 0
IsBeside true t u = IsPromoted u
IsBeside false t u = u ≡ t

abbrev pub StandsBeside : BinOp → CType → CType → Type 0
StandsBeside o t u = IsBeside (is_shift o) t u

-- what a choice may give: a promoted integer, or another value (C11 6.5.15p5, p6)
abbrev pub IsChoosable : CType → Type 0
IsChoosable (CType.Int t) = IsTrue (is_promoted t)
IsChoosable t = IsCarrier t

abbrev pub IsPointer : CType → Type 0
IsPointer (CType.Pointer e constant) = Unit {0}
IsPointer _ = ⊥

-- a pointer to bytes, that may be written unless it is const
abbrev pub IsBytePointer : CType → Type 0
IsBytePointer (CType.Pointer (Pointee.Int int.UChar) constant) = Unit {0}
IsBytePointer _ = ⊥

abbrev pub IsWrittenPointer : CType → Type 0
IsWrittenPointer (CType.Pointer (Pointee.Int int.UChar) false) = Unit {0}
IsWrittenPointer _ = ⊥

-- each parameter and step that is named is there and has a value, each part has the type that its place needs, each call has one operand
-- for each parameter but the constant, and each constant of a call is in its range
abbrev mutual
  pub IsFormed : List CType → List CType → Term → Type 0
  IsFormed ps ss (Param n) = IsCarrier (type_of ps ss (Param n))
  IsFormed ps ss (Step n) = IsCarrier (type_of ps ss (Step n))
  IsFormed ps ss (Const r) = IsRegister 16 r
  IsFormed ps ss (Int n) = IsConstant n
  IsFormed ps ss (Call op all imm) = (types_of ps ss all ≡ operand_types (params_of (signature_of op))) × InImmRange (range_of op) imm × AreFormed ps ss all
  IsFormed ps ss (PairOf a b) = (type_of ps ss a ≡ vector) × (type_of ps ss b ≡ vector) × IsFormed ps ss a × IsFormed ps ss b
  IsFormed ps ss (Half a k) = (type_of ps ss a ≡ CType.Pair) × (k < 2) × IsFormed ps ss a
  IsFormed ps ss (Scalar o a b) = IsPromoted (type_of ps ss a) × StandsBeside o (type_of ps ss a) (type_of ps ss b) × IsFormed ps ss a × IsFormed ps ss b
  IsFormed ps ss (Convert t a) = IsConverted t (type_of ps ss a) × IsFormed ps ss a
  IsFormed ps ss (Choice c a b) = IsInteger (type_of ps ss c) × IsChoosable (type_of ps ss a) × (type_of ps ss b ≡ type_of ps ss a) × IsFormed ps ss c × IsFormed ps ss a × IsFormed ps ss b
  IsFormed ps ss (Shifted a b) = IsPointer (type_of ps ss a) × IsInteger (type_of ps ss b) × IsFormed ps ss a × IsFormed ps ss b
  IsFormed ps ss (ByteAt a) = IsBytePointer (type_of ps ss a) × IsFormed ps ss a
  IsFormed ps ss (SetByte a b) = IsWrittenPointer (type_of ps ss a) × (type_of ps ss b ≡ byte) × IsFormed ps ss a × IsFormed ps ss b

  pub AreFormed : List CType → List CType → Terms → Type 0
  AreFormed ps ss NoTerms = Unit {0}
  AreFormed ps ss (More t rest) = IsFormed ps ss t × AreFormed ps ss rest

-- the value behind the steps is one
abbrev pub IsResult : List CType → List CType → Option Term → Type 0
IsResult ps ss None = Unit {0}
IsResult ps ss (Some t) = IsCarrier (type_of ps ss t) × IsFormed ps ss t

-- the steps, each over those before it, and the value
abbrev pub FormedFrom : List CType → List CType → List Term → Option Term → Type 0
FormedFrom ps ss [] result = IsResult ps ss result
FormedFrom ps ss (t ∷ rest) result = IsFormed ps ss t × FormedFrom ps (ss ++ type_of ps ss t ∷ []) rest result

abbrev pub WellFormed : Sequence → Type 0
WellFormed s = AreCarriers s.params × FormedFrom s.params [] s.steps s.result

-- the type of the value behind the steps; `void` where there is none
abbrev pub given_type : List CType → List CType → Option Term → CType
given_type ps ss None = CType.Void
given_type ps ss (Some t) = type_of ps ss t

abbrev pub type_behind : List CType → List CType → List Term → Option Term → CType
type_behind ps ss [] result = given_type ps ss result
type_behind ps ss (t ∷ rest) result = type_behind ps (ss ++ type_of ps ss t ∷ []) rest result

abbrev pub sequence_type : Sequence → CType
sequence_type s = type_behind s.params [] s.steps s.result
