-- A constant of the grammar: it isn't negative, and has a type that constants have.
use Rattle.std.proofs.Common.{◌≡◌, ℕ, ◌+◌, List, [], ◌∷◌, length, drop, Bool, true, false, cond, Option, Some, None, refl, ap, subst, arith}
use Rattle.std.specs.Prelude.{nat_le, ◌==◌, ℤ, pos, negsuc, int_le, find, take_while, option_map, option_and_then}
use Rattle.std.proofs.lemmas.Bool.{le-ltb}
use Rattle.c_text.specs.declared.tokens.Place.{Place}
use Rattle.c_text.specs.declared.tokens.Token.{Token}
use Rattle.c_text.specs.declared.tokens.TokenKind.{TokenKind}
use Rattle.c_text.specs.declared.tokens.TokenKind.TheVariants.{Name, Number, Quote, Str, Mark, Lone}
use Rattle.lane_core.specs.IntRange.{least, greatest}
use Rattle.lane_core.specs.declared.number.IntType.{IntType}
use Rattle.lane_core.specs.declared.number.IntType.TheVariants.{Int}
use Rattle.lane_core.specs.declared.number.Num.{Num}
use Rattle.lane_core.specs.declared.number.UnOp.TheVariants.{Neg}
use Rattle.c_constants.specs.declared.integer.Base.{Base}
use Rattle.c_constants.specs.declared.integer.Base.TheVariants.{Decimal}
use Rattle.c_constants.specs.declared.integer.Suffix.{Suffix}
use Rattle.c_constants.specs.declared.integer.Suffix.TheVariants.{Plain, U, L, Ul, Ll, Ull}
use Rattle.c_constants.specs.Constant.{constant_of}
use Rattle.c_constants.specs.CharacterConstant.{signed_byte, member_value, between_marks}
use Rattle.c_constants.specs.IntegerConstant.{is_digit, radix_of, number_of, suffix_of, base_of, behind_prefix, types_of, fits, first_fit, integer_in}
use Rattle.c_tree.specs.Tree.{Tree, Const, Unary}
use Rattle.c_parse.specs.Reading.{◌>>=◌, number_where, number, node, signed_tree, constant_tree, constant_at}
use Rattle.round_trip.specs.Good.{IsConstantType, GoodConstant}
use Rattle.read_units.specs.Read.{Read}

-- The type of an integer constant is one of its list (C11 6.4.4.1p5).
abbrev AllConstant : List IntType → Type 0
AllConstant [] = Unit {0}
AllConstant (t ∷ ts) = IsConstantType t × AllConstant ts

listed : (s : Suffix) (base : Base) → AllConstant (types_of s base)
listed Plain Decimal = (tt, (tt, (tt, tt)))
listed Plain base = (tt, (tt, (tt, (tt, (tt, (tt, tt))))))
listed U base = (tt, (tt, (tt, tt)))
listed L Decimal = (tt, (tt, tt))
listed L base = (tt, (tt, (tt, (tt, tt))))
listed Ul base = (tt, (tt, tt))
listed Ll Decimal = (tt, tt)
listed Ll base = (tt, (tt, tt))
listed Ull base = (tt, tt)

abbrev type_in : (o : Option (IntType × ℤ)) → IntType
type_in None = Int
type_in (Some c) = c.0

same_type : (u t : IntType) (y z : ℤ) → ◌≡◌ {A = Option (IntType × ℤ)} (Some (u, y)) (Some (t, z)) → u ≡ t
same_type u t y z e = ap type_in e

first_type : (n : ℕ) (ts : List IntType) (t : IntType) (z : ℤ) → AllConstant ts → first_fit n ts ≡ Some (t, z) → IsConstantType t
first_type n [] t z g e = absurd (cc)
first_type n (u ∷ us) t z g e = go (fits n u) (first_type n us t z g.1) e
  where
    go : (b : Bool) → (first_fit n us ≡ Some (t, z) → IsConstantType t) → option_map {U = IntType × ℤ} (λ t. (t, pos n)) (cond b (Some u) (find (fits n) us)) ≡ Some (t, z) → IsConstantType t
    go true more e = subst IsConstantType (same_type u t (pos n) z e) g.0
    go false more e = more e

digits_type : (b : Bool) (n : ℕ) (base : Base) (o : Option Suffix) (t : IntType) (z : ℤ) → cond {A = Option (IntType × ℤ)} b None (option_and_then (λ s. first_fit n (types_of s base)) o) ≡ Some (t, z) → IsConstantType t
digits_type true n base o t z e = absurd (cc)
digits_type false n base None t z e = absurd (cc)
digits_type false n base (Some s) t z e = first_type n (types_of s base) t z (listed s base) e

integer_type : (base : Base) (body : List ℕ) (t : IntType) (z : ℤ) → integer_in base body ≡ Some (t, z) → IsConstantType t
integer_type base body t z e =
    let digits = take_while (is_digit base) body in
    digits_type (length digits == 0) (number_of (radix_of base) digits) base (suffix_of (drop (length digits) body)) t z e

character_type : (o : Option ℕ) (t : IntType) (z : ℤ) → option_map {U = IntType × ℤ} (λ value. (Int, signed_byte value)) o ≡ Some (t, z) → IsConstantType t
character_type None t z e = absurd (cc)
character_type (Some b) t z e = subst IsConstantType (same_type Int t (signed_byte b) z e) tt

constant_type : (kind : TokenKind) (text : List ℕ) (t : IntType) (z : ℤ) → constant_of kind text ≡ Some (t, z) → IsConstantType t
unfolding constant_of
constant_type Name text t z e = absurd (cc)
constant_type Number text t z e = integer_type (base_of text) (behind_prefix text) t z e
constant_type Quote text t z e = character_type (option_and_then member_value (between_marks text)) t z e
constant_type Str text t z e = absurd (cc)
constant_type Mark text t z e = absurd (cc)
constant_type Lone text t z e = absurd (cc)

-- The number of a type and a value has these.
abbrev Has : IntType → ℤ → Option Num → Type 0
Has t z None = Unit {0}
Has t z (Some m) = (m.ty ≡ t) × (m.value ≡ z)

where_has : (t : IntType) (z : ℤ) (low high : Bool) (p : int_le (least t) z ≡ low) (q : int_le z (greatest t) ≡ high) → Has t z (number_where t z low high p q)
where_has t z true true p q = (refl, refl)
where_has t z true false p q = tt
where_has t z false high p q = tt

number_has : (t : IntType) (z : ℤ) → Has t z (number t z)
unfolding number
number_has t z = where_has t z (int_le (least t) z) (int_le z (greatest t)) refl refl

good_number : (n : ℕ) (t : IntType) (m : Num) → IsConstantType t → m.ty ≡ t → m.value ≡ pos n → GoodConstant m
good_number n t m g ty value = (rw (value, le-ltb n 0 (omega arith)) refl, rw ty g)

same_tree : (a b : Tree) → Some a ≡ Some b → a ≡ b
same_tree a b e = cc

natural_good : (p : Place) (t : IntType) (n : ℕ) (o : Option Num) (c : Tree) → IsConstantType t → Has t (pos n) o → option_map (signed_tree false p) o ≡ Some c → Read c
natural_good p t n None c g h e = absurd (cc)
natural_good p t n (Some m) c g h e = subst Read (same_tree (node p (Const m)) c e) (good_number n t m g h.0 h.1)

negative_good : (p : Place) (n : ℕ) (o : Option Num) (c : Tree) → Has Int (pos n) o → option_map (signed_tree true p) o ≡ Some c → Read c
negative_good p n None c h e = absurd (cc)
negative_good p n (Some m) c h e = subst Read (same_tree (node p (Unary Neg (node p (Const m)))) c e) (good_number n Int m tt h.0 h.1)

tree_good : (p : Place) (t : IntType) (z : ℤ) (c : Tree) → IsConstantType t → constant_tree p t z ≡ Some c → Read c
tree_good p t (pos n) c g e = natural_good p t n (number t (pos n)) c g (number_has t (pos n)) e
tree_good p t (negsuc n) c g e = go (nat_le n 127) e
  where
    go : (b : Bool) → cond b (option_map (signed_tree true p) (number Int (pos (n + 1)))) None ≡ Some c → Read c
    go true e = negative_good p (n + 1) (number Int (pos (n + 1))) c (number_has Int (pos (n + 1))) e
    go false e = absurd (cc)

-- what a token was read as is a constant that is written as it is read
pub constant_read : (t : Token) (c : Tree) → constant_at t ≡ Some c → Read c
unfolding constant_at
constant_read t c e = go (constant_of t.kind t.text) refl e
  where
    go : (o : Option (IntType × ℤ)) → constant_of t.kind t.text ≡ o → (o >>= λ x. constant_tree t.place x.0 x.1) ≡ Some c → Read c
    go None is e = absurd (cc)
    go (Some x) is e = tree_good t.place x.0 x.1 c (constant_type t.kind t.text x.0 x.1 is) e
