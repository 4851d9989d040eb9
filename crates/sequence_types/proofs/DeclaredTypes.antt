-- The types of terms that are values may be declared: none is an array, `void` or a pointer to it, and none has plain `char` in it.
use Rattle.std.proofs.Common.{◌≡◌, ℕ, zero, suc, ◌≤◌, Bool, true, false, List, [], ◌∷◌, refl, subst, arith}
use Rattle.std.specs.Prelude.{IsTrue, slice_get, if◌then◌else◌}
use Rattle.std.specs.Option.{unwrap_or}
use Rattle.lane_core.specs.declared.number.IntType.{IntType}
use Rattle.lane_core.specs.declared.number.IntType.TheVariants as int
use Rattle.lane_core.specs.declared.number.BinOp.{BinOp}
use Rattle.lane_core.specs.declared.table.ParamKind.{ParamKind}
use Rattle.lane_core.specs.declared.table.ParamKind.TheVariants as kind
use Rattle.scalar_core.specs.Operators.{is_comparison}
use Rattle.const_imm.specs.Sizes.{integer_size}
use Rattle.c_tree.specs.declared.types.CType.{CType}
use Rattle.neon_table.specs.Rows.{form_of, signature_of}
use Rattle.expression_types.specs.Typed.{IsArray}
use Rattle.object_types.specs.Objects.{known}
use Rattle.object_types.specs.Typed.{IsObjectType, IsOpen, IsSmall}
use Rattle.seq_core.specs.Rows.{is_nothing}
use Rattle.seq_core.specs.Actions.{is_void}
use Rattle.seq_core.specs.Terms as term
use Rattle.seq_core.specs.Terms.{Term}
use Rattle.seq_core.specs.Formed.{type_of_kind, type_of, operator_type, is_promoted, IsCarrier, IsNamed, IsConverted, IsPromoted, IsChoosable, IsFormed}
use Rattle.sequence_types.specs.Claims.{IsDeclarable}
use Rattle.sequence_types.proofs.RowKinds.{is_given, result_given}

-- ---- what holds of such types

pub no_array : (t : CType) → IsCarrier t → IsArray t → ⊥
no_array (CType.Array e n c) h i = h
no_array _ h i = i

pub object_type : (t : CType) → IsCarrier t → IsObjectType t
object_type (CType.Int t) h = tt
object_type (CType.Neon l wide) h = tt
object_type CType.Pair h = tt
object_type (CType.Pointer e c) h = tt
object_type _ h = absurd h

pub not_open : (t : CType) → IsCarrier t → IsOpen t → ⊥
not_open (CType.Array e n c) h i = h
not_open _ h i = i

integer_small : (t : IntType) → integer_size t ≤ 65536
integer_small int.Boolean = omega arith
integer_small _ = omega arith

pub small : (t : CType) → IsCarrier t → IsSmall t
small (CType.Int t) h = (integer_size t, refl, integer_small t)
small (CType.Neon l true) h = (16, refl, omega arith)
small (CType.Neon l false) h = (8, refl, omega arith)
small CType.Pair h = (32, refl, omega arith)
small (CType.Pointer e c) h = (8, refl, omega arith)
small _ h = absurd h

pub known_plainly : (t : CType) → IsCarrier t → known false t ≡ record { ty = t; constant = false }
known_plainly (CType.Array e n c) h = absurd h
known_plainly _ h = refl

pub not_void : (t : CType) → IsCarrier t → t ≡ CType.Void → ⊥
not_void t h e = subst IsCarrier e h

-- ---- the types of terms

integer_declarable : (t : IntType) → IsNamed t → IsDeclarable (CType.Int t)
integer_declarable int.Char h = absurd h
integer_declarable _ h = record { carrier = tt; read = refl; pointer = λ v. v }

pub promoted_named : (t : IntType) → IsTrue (is_promoted t) → IsNamed t
promoted_named int.Char h = absurd (cc)
promoted_named _ h = tt

kind_declarable : (k : ParamKind) → is_given k ≡ true → IsCarrier (type_of_kind k) → IsDeclarable (type_of_kind k)
kind_declarable (kind.Lane l wide) g h = record { carrier = tt; read = refl; pointer = λ v. v }
kind_declarable kind.Pair g h = record { carrier = tt; read = refl; pointer = λ v. v }
kind_declarable (kind.Scalar int.Char) g h = absurd (cc)
kind_declarable (kind.Scalar t) g h = integer_declarable t tt
kind_declarable (kind.PointerTo e c) g h = absurd (cc)
kind_declarable _ g h = absurd h

kind_carrier : (k : ParamKind) → is_given k ≡ true → is_nothing k ≡ false → IsCarrier (type_of_kind k)
kind_carrier (kind.Lane l wide) g n = tt
kind_carrier kind.Pair g n = tt
kind_carrier (kind.Scalar t) g n = tt
kind_carrier (kind.PointerTo e c) g n = tt
kind_carrier kind.Nothing g n = absurd (cc)
kind_carrier _ g n = absurd (cc)

kind_void : (k : ParamKind) → is_nothing k ≡ true → IsCarrier (type_of_kind k) → ⊥
kind_void kind.Nothing n h = h
kind_void _ n h = absurd (cc)

operator_declarable : (o : BinOp) (t : CType) → IsPromoted t → IsDeclarable (operator_type o t)
operator_declarable o (CType.Int t) h = at (is_comparison o)
  where
    at : (b : Bool) → IsDeclarable (if b then CType.Int int.Int else CType.Int t)
    at true = integer_declarable int.Int tt
    at false = integer_declarable t (promoted_named t h)
operator_declarable o _ h = absurd h

converted_declarable : (t : IntType) (s : CType) → IsConverted t s → IsDeclarable (CType.Int t)
converted_declarable t (CType.Int s) h = integer_declarable t h
converted_declarable t _ h = absurd h

choosable_carrier : (t : CType) → IsChoosable t → IsCarrier t
choosable_carrier (CType.Int t) h = tt
choosable_carrier (CType.Neon l wide) h = h
choosable_carrier CType.Pair h = h
choosable_carrier (CType.Pointer e c) h = h
choosable_carrier _ h = absurd h

-- where a type in the list is that of values, it may be declared
abbrev pub MayAllDeclare : List CType → Type 0
MayAllDeclare [] = Unit {0}
MayAllDeclare (t ∷ ts) = (IsCarrier t → IsDeclarable t) × MayAllDeclare ts

one_declarable : (ts : List CType) (n : ℕ) → MayAllDeclare ts → IsCarrier (unwrap_or (slice_get ts n) CType.Void) → IsDeclarable (unwrap_or (slice_get ts n) CType.Void)
one_declarable [] n h i = absurd i
one_declarable (t ∷ ts) zero h i = h.0 i
one_declarable (t ∷ ts) (suc n) h i = one_declarable ts n h.1 i

module _ (ps ss : List CType) (p : MayAllDeclare ps) (s : MayAllDeclare ss) where
  pub term_declarable : (t : Term) → IsFormed ps ss t → IsCarrier (type_of ps ss t) → IsDeclarable (type_of ps ss t)
  term_declarable (term.Param n) f i = one_declarable ps n p i
  term_declarable (term.Step n) f i = one_declarable ss n s i
  term_declarable (term.Const r) f i = record { carrier = tt; read = refl; pointer = λ v. v }
  term_declarable (term.Int n) f i = integer_declarable n.ty (promoted_named n.ty f.0)
  term_declarable (term.Call op all imm) f i = kind_declarable (signature_of op).result (result_given (form_of op)) i
  term_declarable (term.PairOf a b) f i = record { carrier = tt; read = refl; pointer = λ v. v }
  term_declarable (term.Half a k) f i = record { carrier = tt; read = refl; pointer = λ v. v }
  term_declarable (term.Scalar o a b) f i = operator_declarable o (type_of ps ss a) f.0
  term_declarable (term.Convert t a) f i = converted_declarable t (type_of ps ss a) f.0
  term_declarable (term.Choice c a b) f i = term_declarable a f.4 i
  term_declarable (term.Shifted a b) f i = record { carrier = tt; read = refl; pointer = λ v. v }
  term_declarable (term.ByteAt a) f i = record { carrier = tt; read = refl; pointer = λ v. v }
  term_declarable (term.SetByte a b) f i = record { carrier = tt; read = refl; pointer = λ v. v }

  -- every term but a call of a storing row has the type of a value
  pub term_carrier : (t : Term) → IsFormed ps ss t → is_void t ≡ false → IsCarrier (type_of ps ss t)
  term_carrier (term.Param n) f v = f
  term_carrier (term.Step n) f v = f
  term_carrier (term.Const r) f v = tt
  term_carrier (term.Int n) f v = tt
  term_carrier (term.Call op all imm) f v = kind_carrier (signature_of op).result (result_given (form_of op)) v
  term_carrier (term.PairOf a b) f v = tt
  term_carrier (term.Half a k) f v = tt
  term_carrier (term.Scalar o a b) f v = (operator_declarable o (type_of ps ss a) f.0).carrier
  term_carrier (term.Convert t a) f v = tt
  term_carrier (term.Choice c a b) f v = choosable_carrier (type_of ps ss a) f.1
  term_carrier (term.Shifted a b) f v = tt
  term_carrier (term.ByteAt a) f v = tt
  term_carrier (term.SetByte a b) f v = tt

  pub void_carrier : (t : Term) → is_void t ≡ true → IsCarrier (type_of ps ss t) → ⊥
  void_carrier (term.Call op all imm) v i = kind_void (signature_of op).result v i
  void_carrier _ v i = absurd (cc)
