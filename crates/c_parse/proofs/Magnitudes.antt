-- Constants, as they stand in trees.
use Rattle.std.proofs.Common.{◌≡◌, ◌+◌, Some, None, refl, sym, ◌∙◌, ap, true, false, Bool, T, arith}
use Rattle.std.proofs.Props.{props}
use Rattle.std.proofs.lemmas.Int.{ints, to_z-of_z}
use Rattle.std.proofs.lemmas.Bool.{le-leb, lt-leb, leb-false, ltb-true, ltb-false}
use Rattle.std.specs.Prelude.{ℤ, pos, negsuc, ◌-ℤ◌, int_le, int_lt, FitsSigned}
use Rattle.std.specs.Int.{w128, cast_signed, cast_unsigned}
use Rattle.c_text.specs.declared.tokens.Place.{Place}
use Rattle.lane_core.specs.IntRange.{InRange, least, greatest}
use Rattle.lane_core.specs.declared.number.IntType.{IntType}
use Rattle.lane_core.specs.declared.number.IntType.TheVariants.{Boolean, Char, SChar, UChar, Short, UShort, Int, UInt, Long, ULong, LLong, ULLong}
use Rattle.lane_core.specs.declared.number.Num.{Num}
use Rattle.c_parse.specs.Reading.{number_where, number, signed_tree, constant_tree}

-- two numbers with the same type and the same value are equal
abbrev made : (t : IntType) (z : ℤ) → InRange t z → Num
made t z p = record { ty = t; value = z; in_range = p }

made_same : (t : IntType) (z : ℤ) (p q : InRange t z) → made t z p ≡ made t z q
made_same t z p q = let one : IsProp (InRange t z) = hlevel props in ap (made t z) (one p q)

is_true : (b : Bool) → T b → b ≡ true
is_true true t = refl
is_true false t = absurd t

number_where_is : (t : IntType) (z : ℤ) (h : InRange t z) (low high : Bool) (p : int_le (least t) z ≡ low) (q : int_le z (greatest t) ≡ high) → low ≡ true → high ≡ true →
    number_where t z low high p q ≡ Some (made t z h)
number_where_is t z h true true p q a b = ap Some (made_same t z _ h)
number_where_is t z h true false p q a b = absurd (cc)
number_where_is t z h false high p q a b = absurd (cc)

-- a number is the one of its type and value
pub number_is : (t : IntType) (z : ℤ) (h : InRange t z) → number t z ≡ Some (made t z h)
unfolding number
number_is t z h = number_where_is t z h (int_le (least t) z) (int_le z (greatest t)) refl refl (is_true _ h.0.le) (is_true _ h.1.le)

pub kept : (p : Place) (n : Num) → int_le (pos 0) n.value ≡ true → constant_tree p n.ty n.value ≡ Some (signed_tree false p n)
kept p n e = go n.value n.in_range e
  where
    go : (z : ℤ) (h : InRange n.ty z) → int_le (pos 0) z ≡ true → constant_tree p n.ty z ≡ Some (signed_tree false p (made n.ty z h))
    go (pos k) h e = rw (number_is n.ty (pos k) h) refl
    go (negsuc k) h e = absurd (cc)

-- a value as it comes out of a step on 128 bits
abbrev step : ℤ → ℤ
step z = cast_signed w128 (cast_unsigned w128 z)

fits : (t : IntType) (z : ℤ) → InRange t z → FitsSigned w128 z
fits Boolean z h = omega (arith, ints, h.0, h.1)
fits Char z h = omega (arith, ints, h.0, h.1)
fits SChar z h = omega (arith, ints, h.0, h.1)
fits UChar z h = omega (arith, ints, h.0, h.1)
fits Short z h = omega (arith, ints, h.0, h.1)
fits UShort z h = omega (arith, ints, h.0, h.1)
fits Int z h = omega (arith, ints, h.0, h.1)
fits UInt z h = omega (arith, ints, h.0, h.1)
fits Long z h = omega (arith, ints, h.0, h.1)
fits ULong z h = omega (arith, ints, h.0, h.1)
fits LLong z h = omega (arith, ints, h.0, h.1)
fits ULLong z h = omega (arith, ints, h.0, h.1)

negative : (p : Place) (t : IntType) (z : ℤ) (m : Num) → int_le (pos 0) z ≡ false → int_lt z (negsuc 127) ≡ false → m.ty ≡ Int → m.value ≡ pos 0 -ℤ z → constant_tree p t z ≡ Some (signed_tree true p m)
negative p t (pos k) m e f g h = let less = leb-false 0 k e in absurd (omega arith)
negative p t (negsuc k) m e f g h =
    let value : pos (k + 1) ≡ m.value = omega (arith, ints, h) in
    let same : number Int (pos (k + 1)) ≡ Some m = ap (λ t. number t (pos (k + 1))) (sym g) ∙ ap (number m.ty) value ∙ number_is m.ty m.value m.in_range in
    rw (le-leb k 127 (ltb-false 127 k f), same) refl

pub negated : (p : Place) (n m : Num) → int_le (pos 0) (step n.value) ≡ false → int_lt (step n.value) (negsuc 127) ≡ false → m.ty ≡ Int → m.value ≡ step (pos 0 -ℤ step n.value) →
    constant_tree p n.ty n.value ≡ Some (signed_tree true p m)
negated p n m e f g h =
    let same : step n.value ≡ n.value = to_z-of_z w128 n.value (fits n.ty n.value n.in_range) in
    let low = rw same at e in
    let high = rw same at f in
    let turned : step (pos 0 -ℤ n.value) ≡ pos 0 -ℤ n.value = to_z-of_z w128 (pos 0 -ℤ n.value) (small n.value low high) in
    negative p n.ty n.value m low high g (h ∙ ap (λ z. step (pos 0 -ℤ z)) same ∙ turned)
  where
    small : (z : ℤ) → int_le (pos 0) z ≡ false → int_lt z (negsuc 127) ≡ false → FitsSigned w128 (pos 0 -ℤ z)
    small (pos k) e f = let less = leb-false 0 k e in absurd (omega arith)
    small (negsuc k) e f = let top = ltb-false 127 k f in omega (arith, ints, top)

pub too_small : (p : Place) (n : Num) → int_lt n.value (negsuc 127) ≡ true → constant_tree p n.ty n.value ≡ None
too_small p n e = go n.value e
  where
    go : (z : ℤ) → int_lt z (negsuc 127) ≡ true → constant_tree p n.ty z ≡ None
    go (pos k) e = absurd (cc)
    go (negsuc k) e = rw (lt-leb k 127 (ltb-true 127 k e)) refl
