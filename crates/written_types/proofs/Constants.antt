-- A constant expression (C11 6.6) is written as one of the same value: lengths and alignments stay.
use Rattle.std.proofs.Common.{◌≡◌, refl, sym, ap, ◌∙◌, subst, Bool, true, false, not, Option, Some, None, if◌then◌else◌}
use Rattle.std.specs.Prelude.{ℕ, option_map, ℤ, pos}
use Rattle.std.specs.Option.{option_and_then}
use Rattle.std.specs.Ordering.{int_eq}
use Rattle.c_text.specs.declared.tokens.Place.{Place}
use Rattle.lane_core.specs.declared.number.IntType.{IntType}
use Rattle.lane_core.specs.declared.number.IntType.TheVariants as int
use Rattle.lane_core.specs.declared.number.Num.{Num}
use Rattle.lane_core.specs.declared.number.BinOp.{BinOp}
use Rattle.lane_core.specs.declared.number.UnOp.{UnOp}
use Rattle.lane_core.specs.declared.number.UnOp.TheVariants as sign
use Rattle.lane_core.specs.IntRange.{InRange}
use Rattle.scalar_core.specs.TwosComplement.{bits_of, value_of_bits, wrapped}
use Rattle.scalar_core.specs.Ranks.{promoted, balanced, common_of}
use Rattle.scalar_core.specs.Numbers.{num_of, is_boolean, converted}
use Rattle.scalar_core.specs.NumberLaws.{num_of_in_range, converted_type}
use Rattle.scalar_core.specs.Operators.{is_shift, is_comparison, left_type, right_type, binary_type, binary_of, operate, unary_type, unary_of, operate_unary, truth}
use Rattle.const_imm.specs.Constant.{type_of, value_of, on_both, typed_both, is_true, and_value, or_value, choice_value}
use Rattle.c_memory.specs.Matching.{written_integer, written_type}
use Rattle.written_forms.specs.Moved.{number, size}
use Rattle.written_types.proofs.Types.{promoted_written}

-- the same value, of types that promotion makes the same; where there is none, anything
abbrev pub Keeps : Option Num → Option Num → Type 0
Keeps None o = Unit {0}
Keeps (Some m) None = ⊥
Keeps (Some m) (Some n) = (promoted n.ty ≡ promoted m.ty) × (n.value ≡ m.value)

abbrev pub KeepsType : Option IntType → Option IntType → Type 0
KeepsType None o = Unit {0}
KeepsType (Some s) None = ⊥
KeepsType (Some s) (Some t) = promoted t ≡ promoted s

keeps_itself : (o : Option Num) → Keeps o o
keeps_itself None = tt
keeps_itself (Some n) = (refl, refl)

keeps_equal : (o p : Option Num) → p ≡ o → Keeps o p
keeps_equal o p h = subst (Keeps o) (sym h) (keeps_itself o)

-- ---- numbers

converted_alike : (s t : IntType) (m n : Num) → s ≡ t → n.value ≡ m.value → converted s n ≡ converted t m
unfolding converted
converted_alike s t m n h g =
    ap (λ z. num_of s (if is_boolean s then (if int_eq z (pos 0) then pos 0 else pos 1) else z)) g ∙ ap (λ u. num_of u (if is_boolean u then (if int_eq m.value (pos 0) then pos 0 else pos 1) else m.value)) h

common_alike : (s s' t t' : IntType) → promoted s' ≡ promoted s → promoted t' ≡ promoted t → common_of s' t' ≡ common_of s t
unfolding common_of
common_alike s s' t t' h g = ap (λ x. balanced x (promoted t')) h ∙ ap (balanced (promoted s)) g

left_alike : (o : BinOp) (s s' t t' : IntType) → promoted s' ≡ promoted s → promoted t' ≡ promoted t → left_type o s' t' ≡ left_type o s t
left_alike o s s' t t' h g = ap (λ x. if is_shift o then x else common_of s' t') h ∙ ap (λ x. if is_shift o then promoted s else x) (common_alike s s' t t' h g)

right_alike : (o : BinOp) (s s' t t' : IntType) → promoted s' ≡ promoted s → promoted t' ≡ promoted t → right_type o s' t' ≡ right_type o s t
right_alike o s s' t t' h g = ap (λ x. if is_shift o then x else common_of s' t') g ∙ ap (λ x. if is_shift o then promoted t else x) (common_alike s s' t t' h g)

binary_alike : (o : BinOp) (m m' n n' : Num) → promoted m'.ty ≡ promoted m.ty → promoted n'.ty ≡ promoted n.ty → m'.value ≡ m.value → n'.value ≡ n.value → binary_of o m' n' ≡ binary_of o m n
unfolding binary_of
binary_alike o m m' n n' h g e f =
    ap (λ x. operate o x (converted (right_type o m'.ty n'.ty) n')) (converted_alike (left_type o m'.ty n'.ty) (left_type o m.ty n.ty) m m' (left_alike o m.ty m'.ty n.ty n'.ty h g) e)
    ∙ ap (operate o (converted (left_type o m.ty n.ty) m)) (converted_alike (right_type o m'.ty n'.ty) (right_type o m.ty n.ty) n n' (right_alike o m.ty m'.ty n.ty n'.ty h g) f)

unary_alike : (o : UnOp) (m m' : Num) → promoted m'.ty ≡ promoted m.ty → m'.value ≡ m.value → unary_of o m' ≡ unary_of o m
unfolding unary_of
unary_alike o m m' h e = ap (operate_unary o) (converted_alike (promoted m'.ty) (promoted m.ty) m m' h e)

true_alike : (m n : Num) → n.value ≡ m.value → is_true n ≡ is_true m
true_alike m n h = ap (λ z. not (int_eq z (pos 0))) h

-- a value of `char` is one of `signed char`
written_range : (t : IntType) (z : ℤ) → InRange t z → InRange (written_integer t) z
written_range int.Char z h = h
written_range t z h = h

pub number_keeps : (n : Num) → Keeps (Some n) (Some (number n))
unfolding num_of
number_keeps n = (promoted_written n.ty, num_of_in_range (written_integer n.ty) n.value (written_range n.ty n.value n.in_range))

number_type : (t : IntType) (z : ℤ) → (num_of t z).ty ≡ t
unfolding num_of
number_type t z = refl

written_value : (t : IntType) (n : Num) → (converted (written_integer t) n).value ≡ (converted t n).value
unfolding converted num_of wrapped value_of_bits bits_of
written_value int.Char n = refl
written_value t n = refl

-- ---- forms

pub keeps_unary : (o : UnOp) (a b : Option Num) → Keeps a b → Keeps (option_and_then (unary_of o) a) (option_and_then (unary_of o) b)
keeps_unary o None b h = tt
keeps_unary o (Some m) None h = absurd h
keeps_unary o (Some m) (Some n) h = keeps_equal (unary_of o m) (unary_of o n) (unary_alike o m n h.0 h.1)

pub keeps_binary : (o : BinOp) (a a' b b' : Option Num) → Keeps a a' → Keeps b b' → Keeps (on_both (binary_of o) a b) (on_both (binary_of o) a' b')
keeps_binary o None a' b b' h g = tt
keeps_binary o (Some m) None b b' h g = absurd h
keeps_binary o (Some m) (Some m') None b' h g = tt
keeps_binary o (Some m) (Some m') (Some n) None h g = absurd g
keeps_binary o (Some m) (Some m') (Some n) (Some n') h g = keeps_equal (binary_of o m n) (binary_of o m' n') (binary_alike o m m' n n' h.0 g.0 h.1 g.1)

keeps_test : (b b' : Option Num) → Keeps b b' → Keeps (option_map (λ y. truth (is_true y)) b) (option_map (λ y. truth (is_true y)) b')
keeps_test None b' h = tt
keeps_test (Some m) None h = absurd h
keeps_test (Some m) (Some n) h = keeps_equal (Some (truth (is_true m))) (Some (truth (is_true n))) (ap (λ z. Some (truth z)) (true_alike m n h.1))

keeps_fixed : (n : Num) (t t' : Option IntType) → KeepsType t t' → Keeps (option_map (λ s. n) t) (option_map (λ s. n) t')
keeps_fixed n None t' h = tt
keeps_fixed n (Some s) None h = absurd h
keeps_fixed n (Some s) (Some t) h = (refl, refl)

keeps_either : (x y : Bool) (o o' p p' : Option Num) → y ≡ x → Keeps o o' → Keeps p p' → Keeps (if x then o else p) (if y then o' else p')
keeps_either x y o o' p p' e h g = subst (λ z. Keeps (if x then o else p) (if z then o' else p')) (sym e) (at x)
  where
    at : (b : Bool) → Keeps (if b then o else p) (if b then o' else p')
    at true = h
    at false = g

pub keeps_and : (a a' : Option Num) (t t' : Option IntType) (b b' : Option Num) → Keeps a a' → KeepsType t t' → Keeps b b' → Keeps (and_value a t b) (and_value a' t' b')
keeps_and None a' t t' b b' h i g = tt
keeps_and (Some m) None t t' b b' h i g = absurd h
keeps_and (Some m) (Some n) t t' b b' h i g = keeps_either (is_true m) (is_true n) _ _ _ _ (true_alike m n h.1) (keeps_test b b' g) (keeps_fixed (truth false) t t' i)

pub keeps_or : (a a' : Option Num) (t t' : Option IntType) (b b' : Option Num) → Keeps a a' → KeepsType t t' → Keeps b b' → Keeps (or_value a t b) (or_value a' t' b')
keeps_or None a' t t' b b' h i g = tt
keeps_or (Some m) None t t' b b' h i g = absurd h
keeps_or (Some m) (Some n) t t' b b' h i g = keeps_either (is_true m) (is_true n) _ _ _ _ (true_alike m n h.1) (keeps_fixed (truth true) t t' i) (keeps_test b b' g)

pub keeps_converted : (u v : IntType) (o p : Option Num) → v ≡ u → Keeps o p → Keeps (option_map (converted u) o) (option_map (converted v) p)
keeps_converted u v None p e h = tt
keeps_converted u v (Some m) None e h = absurd h
keeps_converted u v (Some m) (Some n) e h = keeps_equal (Some (converted u m)) (Some (converted v n)) (ap Some (converted_alike v u m n e h.1))

-- the common type of two types that are kept
abbrev SameCommon : Option IntType → Option IntType → Type 0
SameCommon None o = Unit {0}
SameCommon (Some s) None = ⊥
SameCommon (Some s) (Some t) = t ≡ s

same_common : (s s' t t' : Option IntType) → KeepsType s s' → KeepsType t t' → SameCommon (typed_both common_of s t) (typed_both common_of s' t')
same_common None s' t t' h g = tt
same_common (Some s) None t t' h g = absurd h
same_common (Some s) (Some s') None t' h g = tt
same_common (Some s) (Some s') (Some t) None h g = absurd g
same_common (Some s) (Some s') (Some t) (Some t') h g = common_alike s s' t t' h g

keeps_arms : (x y : Bool) (t t' : Option IntType) (a a' b b' : Option Num) → y ≡ x → SameCommon t t' → Keeps a a' → Keeps b b'
    → Keeps (option_and_then (λ ty. option_map (converted ty) (if x then a else b)) t) (option_and_then (λ ty. option_map (converted ty) (if y then a' else b')) t')
keeps_arms x y None t' a a' b b' e i h g = tt
keeps_arms x y (Some t) None a a' b b' e i h g = absurd i
keeps_arms x y (Some t) (Some t') a a' b b' e i h g = keeps_converted t t' (if x then a else b) (if y then a' else b') i (keeps_either x y a a' b b' e h g)

pub keeps_choice : (c c' : Option Num) (s s' t t' : Option IntType) (a a' b b' : Option Num) → Keeps c c' → KeepsType s s' → KeepsType t t' → Keeps a a' → Keeps b b'
    → Keeps (choice_value c (typed_both common_of s t) a b) (choice_value c' (typed_both common_of s' t') a' b')
keeps_choice None c' s s' t t' a a' b b' i j k h g = tt
keeps_choice (Some m) None s s' t t' a a' b b' i j k h g = absurd i
keeps_choice (Some m) (Some n) s s' t t' a a' b b' i j k h g =
    keeps_arms (is_true m) (is_true n) (typed_both common_of s t) (typed_both common_of s' t') a a' b b' (true_alike m n i.1) (same_common s s' t t' j k) h g

-- a cast to a written type
pub keeps_cast : (u : IntType) (o p : Option Num) → Keeps o p → Keeps (option_map (converted u) o) (option_map (converted (written_integer u)) p)
keeps_cast u None p h = tt
keeps_cast u (Some m) None h = absurd h
keeps_cast u (Some m) (Some n) h = (
  ap promoted (converted_type (written_integer u) n) ∙ promoted_written u ∙ ap promoted (sym (converted_type u m)),
  written_value u n ∙ ap (λ z. z.value) (converted_alike u u m n refl h.1),
)

pub keeps_size : (p : Place) (o : Option ℕ) → Keeps (option_map (λ n. num_of int.ULong (pos n)) o) (value_of (size p o))
keeps_size p None = tt
keeps_size p (Some n) = (refl, refl)

-- the value of what keeps a value
pub kept_value : (o p : Option Num) (m : Num) → Keeps o p → o ≡ Some m → (n : Num) × (p ≡ Some n) × (n.value ≡ m.value)
kept_value None p m h e = absurd (cc)
kept_value (Some k) None m h e = absurd h
kept_value (Some k) (Some n) m h e = (n, refl, h.1 ∙ ap (λ z. z.value) (let same : k ≡ m = cc in same))

-- ---- types

pub type_unary : (o : UnOp) (s t : Option IntType) → KeepsType s t → KeepsType (option_map (unary_type o) s) (option_map (unary_type o) t)
type_unary o None t h = tt
type_unary o (Some s) None h = absurd h
type_unary sign.Not (Some s) (Some t) h = refl
type_unary sign.Plus (Some s) (Some t) h = ap promoted h
type_unary sign.Neg (Some s) (Some t) h = ap promoted h
type_unary sign.BitNot (Some s) (Some t) h = ap promoted h

type_both : (f : IntType → IntType → IntType) → ((s s' t t' : IntType) → promoted s' ≡ promoted s → promoted t' ≡ promoted t → promoted (f s' t') ≡ promoted (f s t))
    → (s s' t t' : Option IntType) → KeepsType s s' → KeepsType t t' → KeepsType (typed_both f s t) (typed_both f s' t')
type_both f c None s' t t' h g = tt
type_both f c (Some s) None t t' h g = absurd h
type_both f c (Some s) (Some s') None t' h g = tt
type_both f c (Some s) (Some s') (Some t) None h g = absurd g
type_both f c (Some s) (Some s') (Some t) (Some t') h g = c s s' t t' h g

pub type_binary : (o : BinOp) (s s' t t' : Option IntType) → KeepsType s s' → KeepsType t t' → KeepsType (typed_both (binary_type o) s t) (typed_both (binary_type o) s' t')
type_binary o = type_both (binary_type o) (λ s s' t t' h g. ap (λ x. promoted (if is_comparison o then int.Int else x)) (left_alike o s s' t t' h g))

pub type_logical : (s s' t t' : Option IntType) → KeepsType s s' → KeepsType t t' → KeepsType (typed_both (λ x y. int.Int) s t) (typed_both (λ x y. int.Int) s' t')
type_logical = type_both (λ x y. int.Int) (λ s s' t t' h g. refl)

pub type_choice : (r r' s s' t t' : Option IntType) → KeepsType r r' → KeepsType s s' → KeepsType t t'
    → KeepsType (typed_both (λ x y. y) r (typed_both common_of s t)) (typed_both (λ x y. y) r' (typed_both common_of s' t'))
type_choice r r' s s' t t' i h g =
    type_both (λ x y. y) (λ a b c d e f. f) r r' (typed_both common_of s t) (typed_both common_of s' t') i
    (type_both common_of (λ a b c d e f. ap promoted (common_alike a b c d e f)) s s' t t' h g)

pub type_size : (p : Place) (o : Option ℕ) → KeepsType (Some int.ULong) (type_of (size p o))
type_size p None = ap promoted (number_type int.ULong (pos 0))
type_size p (Some n) = ap promoted (number_type int.ULong (pos n))

pub type_cast : (u v : IntType) (s t : Option IntType) → promoted v ≡ promoted u → KeepsType s t → KeepsType (option_map (λ x. u) s) (option_map (λ x. v) t)
type_cast u v None t e h = tt
type_cast u v (Some s) None e h = absurd h
type_cast u v (Some s) (Some t) e h = e
