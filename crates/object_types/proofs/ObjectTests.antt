-- Tests of declared objects' parts and what they say.
use Rattle.std.proofs.Common.{◌≡◌, ◌∙◌, ℕ, zero, suc, ◌^◌, ◌≤◌, ◌⊎◌, inl, inr, Bool, true, false, not, ◌&&◌, ◌||◌, if◌then◌else◌, nat_eq, is_some, Option, Some, None, ℤ, pos, negsuc, int_le, unsigned_abs, refl, ap, subst, arith}
use Rattle.std.proofs.lemmas.Bool.{eqb-true, leb-true, le-leb}
use Rattle.std.proofs.lemmas.Bool.Decides.{Decides-int_eq}
use Rattle.std.specs.Ordering.{int_eq}
use Rattle.lane_core.specs.declared.vector.Pointee.{Pointee}
use Rattle.lane_core.specs.declared.vector.Pointee.TheVariants as target
use Rattle.const_imm.specs.Sizes.{size_of}
use Rattle.c_tree.specs.declared.types.CType.{CType}
use Rattle.c_tree.specs.declared.types.CType.TheVariants.{Void, Pointer, Array}
use Rattle.c_tree.specs.Same.{unnumbered}
use Rattle.type_rules.specs.Types.{is_object, is_void_pointer}
use Rattle.type_rules.specs.Rules.{IsObject}
use Rattle.expression_types.specs.Typed.{IsArray, IsVoidPointer}
use Rattle.object_types.specs.Objects.{is_object_type, is_low_alignment, is_high_alignment, is_alignment, is_small, is_open, with_number}
use Rattle.object_types.specs.Typed.{IsObjectType, IsOpen, IsSmall, IsAlignmentValue, DeclaredType, array, open_array, no_array}

pub either : (x y : Bool) → (x || y) ≡ true → (x ≡ true) ⊎ (y ≡ true)
either true y h = inl refl
either false true h = inr refl
either false false h = cc

pub both : (x y : Bool) → (x && y) ≡ true → (x ≡ true) × (y ≡ true)
both true true h = (refl, refl)
both true false h = cc
both false y h = cc

by_right : (x y : Bool) → y ≡ true → (x || y) ≡ true
by_right true y h = refl
by_right false y h = h

pub unnegated : (b : Bool) → not b ≡ false → b ≡ true
unnegated true h = refl
unnegated false h = cc

pub absent : {A : Type 0} (m : Option A) → is_some m ≡ false → m ≡ None
absent None h = refl
absent (Some x) h = cc

-- types of objects, and no pointers to void
pointee-says : (e : Pointee) → is_object e ≡ true → IsObject e
pointee-says target.Void h = cc
pointee-says _ h = tt

pointee-holds : (e : Pointee) → IsObject e → is_object e ≡ true
pointee-holds target.Void h = absurd h
pointee-holds _ h = refl

pub object-says : (t : CType) → is_object_type t ≡ true → IsObjectType t
object-says Void h = cc
object-says (Array e n c) h = pointee-says e h
object-says _ h = tt

pub object-holds : (t : CType) → IsObjectType t → is_object_type t ≡ true
object-holds Void h = absurd h
object-holds (Array e n c) h = pointee-holds e h
object-holds _ h = refl

pub void-pointer-says : (t : CType) → is_void_pointer t ≡ false → IsVoidPointer t → ⊥
void-pointer-says (Pointer target.Void c) h v = let no : true ≡ false = h in cc
void-pointer-says _ h v = v

pub void-pointer-holds : (t : CType) → (IsVoidPointer t → ⊥) → is_void_pointer t ≡ false
void-pointer-holds (Pointer target.Void c) h = absurd (h tt)
void-pointer-holds _ h = refl

-- a number of elements, from a constant
pub count-says : (z : ℤ) (n : ℕ) → int_le (pos 1) z ≡ true → unsigned_abs z ≡ n → (z ≡ pos n) × (1 ≤ n)
count-says (pos k) n h e = (ap pos e, subst (λ x. 1 ≤ x) e (leb-true 1 k h))
count-says (negsuc k) n h e = cc

pub count-holds : (n : ℕ) → 1 ≤ n → int_le (pos 1) (pos n) ≡ true
count-holds n h = le-leb 1 n h

-- sizes
pub size-says : (m : Option ℕ) → is_small m ≡ true → (n : ℕ) × (m ≡ Some n) × (n ≤ 65536)
size-says (Some n) h = (n, refl, leb-true n 65536 h)
size-says None h = cc

pub small-holds : (t : CType) → IsSmall t → is_small (size_of t) ≡ true
small-holds t h = ap is_small h.1 ∙ le-leb h.0 65536 h.2

-- arrays with no number yet
pub open-says : (t : CType) → is_open t ≡ true → IsOpen t
open-says (Array e n c) h = by (nat_eq n 0) refl h
  where
    by : (b : Bool) → nat_eq n 0 ≡ b → not (is_some (if b then None else Some n)) ≡ true → n ≡ 0
    by true e h = eqb-true n 0 e
    by false e h = cc
open-says _ h = cc

pub open-holds : (t : CType) → IsOpen t → is_open t ≡ true
open-holds (Array e n c) h = ap (λ k. is_open (Array e k c)) h
open-holds _ h = absurd h

pub closed-says : (t : CType) → is_open t ≡ false → IsOpen t → ⊥
closed-says t h o = let p = open-holds t o in cc

pub closed-holds : (t : CType) → (IsOpen t → ⊥) → is_open t ≡ false
closed-holds t h = by (is_open t) refl
  where
    by : (b : Bool) → is_open t ≡ b → b ≡ false
    by true e = absurd (h (open-says t e))
    by false e = refl

-- alignments
is_value : (z : ℤ) (n k : ℕ) → int_eq z (pos n) ≡ true → k ≤ 6 → n ≡ 2 ^ k → IsAlignmentValue z
is_value z n k h b e = (k, b, (Decides-int_eq z (pos n)).0 h ∙ ap pos e)

one_or_two : (z : ℤ) → (int_eq z (pos 1) || int_eq z (pos 2)) ≡ true → IsAlignmentValue z
one_or_two z h = by (either (int_eq z (pos 1)) (int_eq z (pos 2)) h)
  where
    by : (int_eq z (pos 1) ≡ true) ⊎ (int_eq z (pos 2) ≡ true) → IsAlignmentValue z
    by (inl e) = is_value z 1 0 e (omega arith) refl
    by (inr e) = is_value z 2 1 e (omega arith) refl

up_to_four : (z : ℤ) → (int_eq z (pos 1) || int_eq z (pos 2) || int_eq z (pos 4)) ≡ true → IsAlignmentValue z
up_to_four z h = by (either (int_eq z (pos 1) || int_eq z (pos 2)) (int_eq z (pos 4)) h)
  where
    by : ((int_eq z (pos 1) || int_eq z (pos 2)) ≡ true) ⊎ (int_eq z (pos 4) ≡ true) → IsAlignmentValue z
    by (inl e) = one_or_two z e
    by (inr e) = is_value z 4 2 e (omega arith) refl

low-says : (z : ℤ) → is_low_alignment z ≡ true → IsAlignmentValue z
low-says z h = by (either (int_eq z (pos 1) || int_eq z (pos 2) || int_eq z (pos 4)) (int_eq z (pos 8)) h)
  where
    by : ((int_eq z (pos 1) || int_eq z (pos 2) || int_eq z (pos 4)) ≡ true) ⊎ (int_eq z (pos 8) ≡ true) → IsAlignmentValue z
    by (inl e) = up_to_four z e
    by (inr e) = is_value z 8 3 e (omega arith) refl

half_high : (z : ℤ) → (int_eq z (pos 16) || int_eq z (pos 32)) ≡ true → IsAlignmentValue z
half_high z h = by (either (int_eq z (pos 16)) (int_eq z (pos 32)) h)
  where
    by : (int_eq z (pos 16) ≡ true) ⊎ (int_eq z (pos 32) ≡ true) → IsAlignmentValue z
    by (inl e) = is_value z 16 4 e (omega arith) refl
    by (inr e) = is_value z 32 5 e (omega arith) refl

high-says : (z : ℤ) → is_high_alignment z ≡ true → IsAlignmentValue z
high-says z h = by (either (int_eq z (pos 16) || int_eq z (pos 32)) (int_eq z (pos 64)) h)
  where
    by : ((int_eq z (pos 16) || int_eq z (pos 32)) ≡ true) ⊎ (int_eq z (pos 64) ≡ true) → IsAlignmentValue z
    by (inl e) = half_high z e
    by (inr e) = is_value z 64 6 e (omega arith) refl

pub alignment-says : (z : ℤ) → is_alignment z ≡ true → IsAlignmentValue z
alignment-says z h = by (either (is_low_alignment z) (is_high_alignment z) h)
  where
    by : (is_low_alignment z ≡ true) ⊎ (is_high_alignment z ≡ true) → IsAlignmentValue z
    by (inl e) = low-says z e
    by (inr e) = high-says z e

powers : (k : ℕ) → k ≤ 6 → is_alignment (pos (2 ^ k)) ≡ true
powers zero h = refl
powers (suc zero) h = refl
powers (suc (suc zero)) h = refl
powers (suc (suc (suc zero))) h = refl
powers (suc (suc (suc (suc zero)))) h = refl
powers (suc (suc (suc (suc (suc zero))))) h = refl
powers (suc (suc (suc (suc (suc (suc zero)))))) h = refl
powers (suc (suc (suc (suc (suc (suc (suc k))))))) h = absurd (omega arith)

pub alignment-holds : (z : ℤ) → IsAlignmentValue z → is_alignment z ≡ true
alignment-holds z h = ap is_alignment h.2 ∙ powers h.0 h.1

-- the type that a declarator gives
pub declared-says : (t : CType) (n : Option ℕ) → DeclaredType t n (with_number n (unnumbered t))
declared-says (Array e m c) (Some n) = array e m c n
declared-says (Array e m c) None = open_array e m c
declared-says t (Some n) = no_array t (Some n) (λ x. x)
declared-says t None = no_array t None (λ x. x)

plain : (t : CType) (n : Option ℕ) → (IsArray t → ⊥) → with_number n (unnumbered t) ≡ t
plain (Array e m c) n h = absurd (h tt)
plain t (Some n) h = refl
plain t None h = refl

pub declared-holds : (t : CType) (n : Option ℕ) (u : CType) → DeclaredType t n u → with_number n (unnumbered t) ≡ u
declared-holds t n u (array e m c k) = refl
declared-holds t n u (open_array e m c) = refl
declared-holds t n u (no_array v k h) = plain v k h
