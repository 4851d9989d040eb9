-- Laws of numbers: operators give the same for a `signed char` as for the `char` that it stands for, and what they give is written as it is.
use Rattle.std.proofs.Common.{◌≡◌, Bool, true, false, refl, sym, ap, ◌∙◌, subst, if◌then◌else◌}
use Rattle.lane_core.specs.declared.number.IntType.{IntType}
use Rattle.lane_core.specs.declared.number.IntType.TheVariants.{Boolean, Char, SChar, UChar, Short, UShort, Int, UInt, Long, ULong, LLong, ULLong}
use Rattle.lane_core.specs.declared.number.Num.{Num}
use Rattle.lane_core.specs.declared.number.BinOp.{BinOp}
use Rattle.lane_core.specs.declared.number.UnOp.{UnOp}
use Rattle.lane_core.specs.declared.number.UnOp.TheVariants as sign
use Rattle.scalar_core.specs.Ranks.{promoted, common_of}
use Rattle.scalar_core.specs.RankLaws.{promoted_common}
use Rattle.scalar_core.specs.Numbers.{converted}
use Rattle.scalar_core.specs.Operators.{operate, left_type, right_type, binary_type, binary_of, is_shift, is_comparison, unary_type, unary_of, operate_unary}
use Rattle.c_memory.specs.Matching.{written_integer}

promoted_written : (t : IntType) → promoted (written_integer t) ≡ promoted t
unfolding promoted
promoted_written Boolean = refl
promoted_written Char = refl
promoted_written SChar = refl
promoted_written UChar = refl
promoted_written Short = refl
promoted_written UShort = refl
promoted_written Int = refl
promoted_written UInt = refl
promoted_written Long = refl
promoted_written ULong = refl
promoted_written LLong = refl
promoted_written ULLong = refl

promoted_plain : (t : IntType) → written_integer (promoted t) ≡ promoted t
unfolding promoted
promoted_plain Boolean = refl
promoted_plain Char = refl
promoted_plain SChar = refl
promoted_plain UChar = refl
promoted_plain Short = refl
promoted_plain UShort = refl
promoted_plain Int = refl
promoted_plain UInt = refl
promoted_plain Long = refl
promoted_plain ULong = refl
promoted_plain LLong = refl
promoted_plain ULLong = refl

common_written : (s t : IntType) → common_of (written_integer s) (written_integer t) ≡ common_of s t
unfolding common_of
common_written s t = rw (promoted_written s, promoted_written t) refl

common_plain : (s t : IntType) → written_integer (common_of s t) ≡ common_of s t
common_plain s t = subst (λ u. written_integer u ≡ u) (promoted_common s t) (promoted_plain (common_of s t))

left_written : (o : BinOp) (s t : IntType) → left_type o (written_integer s) (written_integer t) ≡ left_type o s t
left_written o s t = at (is_shift o)
  where
    at : (v : Bool)
        → (if v then promoted (written_integer s) else common_of (written_integer s) (written_integer t)) ≡ (if v then promoted s else common_of s t)
    at true = promoted_written s
    at false = common_written s t

right_written : (o : BinOp) (s t : IntType) → right_type o (written_integer s) (written_integer t) ≡ right_type o s t
right_written o s t = at (is_shift o)
  where
    at : (v : Bool)
        → (if v then promoted (written_integer t) else common_of (written_integer s) (written_integer t)) ≡ (if v then promoted t else common_of s t)
    at true = promoted_written t
    at false = common_written s t

pub converted_by_value : (t : IntType) (m n : Num) → m.value ≡ n.value → converted t m ≡ converted t n
unfolding converted
converted_by_value t m n e = rw e refl

left_at : (o : BinOp) (s t s' t' : IntType) → s' ≡ written_integer s → t' ≡ written_integer t → left_type o s t ≡ left_type o s' t'
left_at o s t s' t' e f = rw (e, f) (sym (left_written o s t))

right_at : (o : BinOp) (s t s' t' : IntType) → s' ≡ written_integer s → t' ≡ written_integer t → right_type o s t ≡ right_type o s' t'
right_at o s t s' t' e f = rw (e, f) (sym (right_written o s t))

pub binary_written : (o : BinOp) (a b a' b' : Num) → a'.ty ≡ written_integer a.ty → b'.ty ≡ written_integer b.ty → a.value ≡ a'.value → b.value ≡ b'.value
    → binary_of o a b ≡ binary_of o a' b'
unfolding binary_of
binary_written o a b a' b' e f g h =
    ap (λ x. operate o x (converted (right_type o a.ty b.ty) b)) (converted_by_value (left_type o a.ty b.ty) a a' g ∙ ap (λ t. converted t a')
    (left_at o a.ty b.ty a'.ty b'.ty e f))
    ∙ ap (operate o (converted (left_type o a'.ty b'.ty) a')) (converted_by_value (right_type o a.ty b.ty) b b' h ∙ ap (λ t. converted t b')
    (right_at o a.ty b.ty a'.ty b'.ty e f))

pub binary_plain : (o : BinOp) (s t : IntType) → written_integer (binary_type o s t) ≡ binary_type o s t
binary_plain o s t = at (is_comparison o) (is_shift o)
  where
    at : (v w : Bool)
        → written_integer (if v then Int else (if w then promoted s else common_of s t)) ≡ (if v then Int else (if w then promoted s else common_of s t))
    at true w = refl
    at false true = promoted_plain s
    at false false = common_plain s t

promoted_at : (s s' : IntType) → s' ≡ written_integer s → promoted s ≡ promoted s'
promoted_at s s' e = rw e (sym (promoted_written s))

pub unary_written : (o : UnOp) (a a' : Num) → a'.ty ≡ written_integer a.ty → a.value ≡ a'.value → unary_of o a ≡ unary_of o a'
unfolding unary_of
unary_written o a a' e g = ap (operate_unary o) (converted_by_value (promoted a.ty) a a' g ∙ ap (λ t. converted t a') (promoted_at a.ty a'.ty e))

pub unary_plain : (o : UnOp) (t : IntType) → written_integer (unary_type o t) ≡ unary_type o t
unary_plain sign.Not t = refl
unary_plain sign.Plus t = promoted_plain t
unary_plain sign.Neg t = promoted_plain t
unary_plain sign.BitNot t = promoted_plain t
