-- Laws of the types that types of a source are written as: promotion and the usual conversions (C11 6.3.1.1, 6.3.1.8) don't tell `char` and
-- `signed char` from each other.
use Rattle.std.proofs.Common.{◌≡◌, refl, sym, ap, ◌∙◌, subst, Bool, true, false, if◌then◌else◌}
use Rattle.c_text.specs.declared.tokens.Dialect.TheVariants.{X86, Neon}
use Rattle.std.specs.Prelude.{nat_lt, nat_le}
use Rattle.lane_core.specs.IntRange.{is_signed}
use Rattle.lane_core.specs.declared.number.IntType.{IntType}
use Rattle.lane_core.specs.declared.number.IntType.TheVariants as int
use Rattle.lane_core.specs.declared.number.BinOp.{BinOp}
use Rattle.lane_core.specs.declared.vector.Pointee.{Pointee}
use Rattle.lane_core.specs.declared.vector.Pointee.TheVariants as target
use Rattle.scalar_core.specs.Ranks.{promoted, unsigned_of, greater_rank, mixed_signs, balanced, common_of, rank, holds_all}
use Rattle.scalar_core.specs.Operators.{is_shift, is_comparison, left_type, right_type, binary_type}
use Rattle.c_tree.specs.declared.types.CType.{CType}
use Rattle.c_memory.specs.Matching.{written_integer, written_target, written_element, written_type}
use Rattle.type_rules.specs.Types.{read_integer, read_pointee, read_type, same_integer}
use Rattle.type_rules.specs.Rules.{IsScalar, IsVector}
use Rattle.expression_types.specs.Typed.{IsArray, IsVoidPointer}
use Rattle.seq_core.specs.Formed.{is_promoted}
use Rattle.ready_units.specs.Movable.{is_moved_type, is_moved_result}

-- ---- what is read

-- plain `char` isn't written, so the Neon dialect reads each written type as it stands
read_written : (t : IntType) → read_integer Neon (written_integer t) ≡ written_integer t
read_written int.Char = refl
read_written t = refl

read_target : (e : Pointee) → read_pointee Neon (written_target e) ≡ written_target e
read_target target.Void = refl
read_target (target.Int t) = ap target.Int (read_written t)
read_target target.M128 = refl
read_target target.M256 = refl

read_element : (e : Pointee) → read_pointee Neon (written_element e) ≡ written_element e
read_element target.Void = refl
read_element (target.Int t) = ap target.Int (read_written t)
read_element target.M128 = refl
read_element target.M256 = refl

pub read_type_written : (t : CType) → read_type Neon (written_type t) ≡ written_type t
read_type_written CType.Void = refl
read_type_written (CType.Int t) = ap CType.Int (read_written t)
read_type_written CType.M128 = refl
read_type_written CType.M256 = refl
read_type_written (CType.Neon l wide) = refl
read_type_written CType.Pair = refl
read_type_written (CType.Pointer e c) = ap (λ x. CType.Pointer x c) (read_target e)
read_type_written (CType.Array e n c) = ap (λ x. CType.Array x n c) (read_element e)

-- in a source each type is read as it stands
read_source_pointee : (e : Pointee) → read_pointee X86 e ≡ e
read_source_pointee target.Void = refl
read_source_pointee (target.Int t) = refl
read_source_pointee target.M128 = refl
read_source_pointee target.M256 = refl

pub read_source : (t : CType) → read_type X86 t ≡ t
read_source CType.Void = refl
read_source (CType.Int t) = refl
read_source CType.M128 = refl
read_source CType.M256 = refl
read_source (CType.Neon l wide) = refl
read_source CType.Pair = refl
read_source (CType.Pointer e c) = ap (λ x. CType.Pointer x c) (read_source_pointee e)
read_source (CType.Array e n c) = ap (λ x. CType.Array x n c) (read_source_pointee e)

-- ---- integers

pub promoted_written : (t : IntType) → promoted (written_integer t) ≡ promoted t
unfolding promoted
promoted_written int.Char = refl
promoted_written t = refl

pub common_written : (s t : IntType) → common_of (written_integer s) (written_integer t) ≡ common_of s t
unfolding common_of
common_written s t = ap (λ x. balanced x (promoted (written_integer t))) (promoted_written s) ∙ ap (balanced (promoted s)) (promoted_written t)

-- the types that promotion leaves
pub promoted_wide : (t : IntType) → is_promoted (promoted t) ≡ true
unfolding promoted
promoted_wide int.Boolean = refl
promoted_wide int.Char = refl
promoted_wide int.SChar = refl
promoted_wide int.UChar = refl
promoted_wide int.Short = refl
promoted_wide int.UShort = refl
promoted_wide int.Int = refl
promoted_wide int.UInt = refl
promoted_wide int.Long = refl
promoted_wide int.ULong = refl
promoted_wide int.LLong = refl
promoted_wide int.ULLong = refl

wide_choice : (b : Bool) (s t : IntType) → is_promoted s ≡ true → is_promoted t ≡ true → is_promoted (if b then s else t) ≡ true
wide_choice true s t h g = h
wide_choice false s t h g = g

wide_unsigned : (t : IntType) → is_promoted t ≡ true → is_promoted (unsigned_of t) ≡ true
wide_unsigned int.Boolean h = absurd (cc)
wide_unsigned int.Char h = absurd (cc)
wide_unsigned int.SChar h = absurd (cc)
wide_unsigned int.UChar h = absurd (cc)
wide_unsigned int.Short h = absurd (cc)
wide_unsigned int.UShort h = absurd (cc)
wide_unsigned t h = refl

wide_greater : (s t : IntType) → is_promoted s ≡ true → is_promoted t ≡ true → is_promoted (greater_rank s t) ≡ true
wide_greater s t h g = wide_choice (nat_lt (rank s) (rank t)) t s g h

wide_mixed : (s t : IntType) → is_promoted s ≡ true → is_promoted t ≡ true → is_promoted (mixed_signs s t) ≡ true
wide_mixed s t h g = wide_choice (nat_le (rank s) (rank t)) t (if holds_all s t then s else unsigned_of s) g (wide_choice (holds_all s t) s (unsigned_of s) h (wide_unsigned s h))

pub common_wide : (s t : IntType) → is_promoted (common_of s t) ≡ true
unfolding common_of
common_wide s t =
    let p = promoted_wide s in
    let q = promoted_wide t in
    let here = is_signed (promoted s) in
    let there = is_signed (promoted t) in
    let greater = greater_rank (promoted s) (promoted t) in
    let first = mixed_signs (promoted s) (promoted t) in
    let second = mixed_signs (promoted t) (promoted s) in
    wide_choice here (if there then greater else first) (if there then second else greater)
    (wide_choice there greater first (wide_greater (promoted s) (promoted t) p q) (wide_mixed (promoted s) (promoted t) p q))
    (wide_choice there second greater (wide_mixed (promoted t) (promoted s) q p) (wide_greater (promoted s) (promoted t) p q))

pub right_wide : (o : BinOp) (s t : IntType) → is_promoted (right_type o s t) ≡ true
right_wide o s t = wide_choice (is_shift o) (promoted t) (common_of s t) (promoted_wide t) (common_wide s t)

pub left_wide : (o : BinOp) (s t : IntType) → is_promoted (left_type o s t) ≡ true
left_wide o s t = wide_choice (is_shift o) (promoted s) (common_of s t) (promoted_wide s) (common_wide s t)

pub binary_wide : (o : BinOp) (s t : IntType) → is_promoted (binary_type o s t) ≡ true
binary_wide o s t = wide_choice (is_comparison o) int.Int (left_type o s t) refl (left_wide o s t)

-- such a type is written as it is, and no other is written as it
pub wide_written : (t : IntType) → is_promoted t ≡ true → written_integer t ≡ t
wide_written int.Char h = absurd (cc)
wide_written t h = refl

pub wide_same : (s t : IntType) → is_promoted t ≡ true → same_integer (written_integer s) t ≡ same_integer s t
wide_same int.Char int.Boolean h = absurd (cc)
wide_same int.Char int.Char h = absurd (cc)
wide_same int.Char int.SChar h = absurd (cc)
wide_same int.Char int.UChar h = absurd (cc)
wide_same int.Char int.Short h = absurd (cc)
wide_same int.Char int.UShort h = absurd (cc)
wide_same int.Char t h = refl
wide_same s t h = refl

-- the types of operators
pub right_written : (o : BinOp) (s t : IntType) → right_type o (written_integer s) (written_integer t) ≡ right_type o s t
right_written o s t = ap (λ x. if is_shift o then x else common_of (written_integer s) (written_integer t)) (promoted_written t) ∙ ap (λ x. if is_shift o then promoted t else x) (common_written s t)

pub left_written : (o : BinOp) (s t : IntType) → left_type o (written_integer s) (written_integer t) ≡ left_type o s t
left_written o s t = ap (λ x. if is_shift o then x else common_of (written_integer s) (written_integer t)) (promoted_written s) ∙ ap (λ x. if is_shift o then promoted s else x) (common_written s t)

pub binary_written : (o : BinOp) (s t : IntType) → binary_type o (written_integer s) (written_integer t) ≡ binary_type o s t
binary_written o s t = ap (λ x. if is_comparison o then int.Int else x) (left_written o s t)

pub same_is : (s t : IntType) → same_integer s t ≡ true → s ≡ t
same_is int.Boolean int.Boolean h = refl
same_is int.Char int.Char h = refl
same_is int.SChar int.SChar h = refl
same_is int.UChar int.UChar h = refl
same_is int.Short int.Short h = refl
same_is int.UShort int.UShort h = refl
same_is int.Int int.Int h = refl
same_is int.UInt int.UInt h = refl
same_is int.Long int.Long h = refl
same_is int.ULong int.ULong h = refl
same_is int.LLong int.LLong h = refl
same_is int.ULLong int.ULLong h = refl
same_is s t h = absurd (cc)

pub same_itself : (t : IntType) → same_integer t t ≡ true
same_itself int.Boolean = refl
same_itself t = refl

-- ---- kinds of types

pub scalar_written : (t : CType) → IsScalar t → IsScalar (written_type t)
scalar_written (CType.Int t) h = tt
scalar_written (CType.Pointer e c) h = tt
scalar_written t h = absurd h

pub vector_written : (t : CType) → IsVector t → IsVector (written_type t)
vector_written CType.M128 h = tt
vector_written CType.M256 h = tt
vector_written (CType.Neon l wide) h = tt
vector_written CType.Pair h = tt
vector_written t h = absurd h

pub no_void : (t : CType) → t ≡ CType.Void → written_type t ≡ CType.Void
no_void t h = ap written_type h

-- a type that is moved is neither an array's nor a pointer
pub no_array : (t : CType) → is_moved_result t ≡ true → IsArray (written_type t) → ⊥
no_array CType.Void h a = absurd a
no_array (CType.Int s) h a = absurd a
no_array CType.M128 h a = absurd a
no_array CType.M256 h a = absurd (cc)
no_array (CType.Neon l wide) h a = absurd (cc)
no_array CType.Pair h a = absurd (cc)
no_array (CType.Pointer e c) h a = absurd (cc)
no_array (CType.Array e n c) h a = absurd (cc)

pub no_pointer : (t : CType) → is_moved_result t ≡ true → IsVoidPointer (written_type t) → ⊥
no_pointer CType.Void h a = absurd a
no_pointer (CType.Int s) h a = absurd a
no_pointer CType.M128 h a = absurd a
no_pointer CType.M256 h a = absurd (cc)
no_pointer (CType.Neon l wide) h a = absurd (cc)
no_pointer CType.Pair h a = absurd (cc)
no_pointer (CType.Pointer e c) h a = absurd (cc)
no_pointer (CType.Array e n c) h a = absurd (cc)
