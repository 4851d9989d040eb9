-- Laws of the relation of values between a source and the unit that is written for it: what operators, conversions, loads and stores ask.
use Rattle.std.proofs.Common.{◌≡◌, ℕ, ◌<◌, ◌≤◌, ◌^◌, List, length, Bool, true, false, not, ◌&&◌, ◌==◌, Option, Some, None, refl, sym, ap, ◌∙◌, subst, arith}
use Rattle.std.proofs.Common.{slice_get, nat_lt, nat_le, if◌then◌else◌}
use Rattle.std.specs.Prelude.{ℤ, pos, ◌-ℤ◌, ◌*ℤ◌, neg_ℤ, int_div, option_map}
use Rattle.std.specs.Option.{option_and_then}
use Rattle.std.specs.Ordering.{int_eq}
use Rattle.std.proofs.lemmas.Bool.{and_parts}
use Rattle.std.proofs.lemmas.Bool.Decides.{nat_tests}
use Rattle.lane_core.specs.declared.number.IntType.{IntType}
use Rattle.lane_core.specs.declared.number.IntType.TheVariants as int
use Rattle.lane_core.specs.declared.number.Num.{Num}
use Rattle.lane_core.specs.declared.number.BinOp.{BinOp}
use Rattle.lane_core.specs.declared.number.BinOp.TheVariants as op
use Rattle.lane_core.specs.declared.number.UnOp.{UnOp}
use Rattle.lane_core.specs.declared.number.UnOp.TheVariants as sign
use Rattle.lane_core.specs.declared.vector.Pointee.{Pointee}
use Rattle.scalar_core.specs.Operators.{truth, binary_type, binary_of, unary_type, unary_of, HasType}
use Rattle.scalar_core.specs.OperatorLaws.{binary_typed, unary_typed}
use Rattle.scalar_core.specs.Numbers.{num_of, converted, is_boolean}
use Rattle.scalar_core.specs.TwosComplement.{bits_of, value_of_bits, wrapped}
use Rattle.const_imm.specs.Constant.{is_true}
use Rattle.c_tree.specs.declared.types.CType.{CType}
use Rattle.c_memory.specs.declared.blocks.Block.{Block}
use Rattle.c_memory.specs.declared.memory.Pointer.{Pointer}
use Rattle.c_memory.specs.declared.memory.Pointer.TheVariants.{Null, At}
use Rattle.c_memory.specs.declared.value.Value.{Value}
use Rattle.c_memory.specs.Matching.{written_integer}
use Rattle.c_memory.specs.MeaningValues.{is_alive, at_distance, in_block, moved, stepped, stride, distance_in, in_one_block, equal_pointers, is_same_pointer}
use Rattle.c_memory.specs.MeaningValues.{is_usable, ordered, pointers_give, pointer_and_integer, integer_and_pointer, operate, holds, as_int, operate_before}
use Rattle.c_memory.specs.MeaningValues.{converted_value}
use Rattle.simulation.specs.Alike.{Options, Blocks}
use Rattle.simulation.specs.BlockLaws.{Paired, get_alike}
use Rattle.simulation.specs.WrittenValues.{IsNear, WrittenValues}
use Rattle.simulation.specs.ExpressionLaws.{pointer_in, Tests, OperatesBefore, Operates, Converts, Points}
use Rattle.simulation.specs.SameLaws.{operate_same, holds_same}
use Rattle.simulation.specs.WrittenNumbers.{binary_written, binary_plain, unary_written, unary_plain}

-- ---- what the values of a type are

pub data AreNumbers : Value → Value → Type 0 where
  numbers : (m n : Num) → n.ty ≡ written_integer m.ty → m.value ≡ n.value → AreNumbers (Value.Int m) (Value.Int n)

pub are_numbers : (s : IntType) (v w : Value) → WrittenValues (CType.Int s) v w → AreNumbers v w
are_numbers s (Value.Int m) (Value.Int n) h = numbers m n h.0 h.1
are_numbers s v w h = absurd h

pub data ArePointers : Value → Value → Type 0 where
  pointers : (p : Pointer) → IsNear p → ArePointers (Value.At p) (Value.At p)

pub are_pointers : (e : Pointee) (constant : Bool) (v w : Value) → WrittenValues (CType.Pointer e constant) v w → ArePointers v w
are_pointers e constant (Value.At p) (Value.At q) h = subst (λ z. ArePointers (Value.At p) (Value.At z)) h.1 (pointers p h.0)
are_pointers e constant v w h = absurd h

-- a number that is written as it is
plain_number : (u t : IntType) (o : Option Num) → written_integer t ≡ t → HasType t o
    → Options (WrittenValues (CType.Int u)) (option_map Value.Int o) (option_map Value.Int o)
plain_number u t None e h = tt
plain_number u t (Some n) e h = (subst (λ s. s ≡ written_integer s) (sym h) (sym e), refl)

-- a number of a type that is written as it is
pub written_constant : (u t : IntType) (a : Num) → a.ty ≡ t → written_integer t ≡ t → WrittenValues (CType.Int u) (Value.Int a) (Value.Int a)
written_constant u t a h e = (subst (λ s. s ≡ written_integer s) (sym h) (sym e), refl)

truth_type : (b : Bool) → (truth b).ty ≡ int.Int
unfolding truth num_of
truth_type b = refl

-- a truth value
pub written_truth : (r : IntType) (b : Bool) → WrittenValues (CType.Int r) (as_int b) (as_int b)
written_truth r b = (truth_type b ∙ ap written_integer (sym (truth_type b)), refl)

long_type : (z : ℤ) → (num_of int.Long z).ty ≡ int.Long
unfolding num_of
long_type z = refl

written_long : (r : IntType) (z : ℤ) → WrittenValues (CType.Int r) (Value.Int (num_of int.Long z)) (Value.Int (num_of int.Long z))
written_long r z = (long_type z ∙ ap written_integer (sym (long_type z)), refl)

same_true : (m n : Num) → m.value ≡ n.value → is_true m ≡ is_true n
same_true m n e = rw e refl

same_option : {A : Type 0} (o : Option A) → Options ◌≡◌ o o
same_option None = tt
same_option (Some a) = refl

-- ---- pointers

in_near : (n : ℕ) (m w : List Block) (o : Option Block) (r : Option Block) (k offset : ℕ) (q : Pointer) → Paired o r → in_block o k offset ≡ Some q → IsNear q
in_near n m w None r k offset q h e = absurd (cc)
in_near n m w (Some b) None k offset q h e = absurd h
in_near n m w (Some b) (Some c) k offset q h e = at (b.alive && not (nat_lt (length b.bytes) offset)) refl e
  where
    at : (v : Bool) → (b.alive && not (nat_lt (length b.bytes) offset)) ≡ v → (if v then Some (At k offset) else None) ≡ Some q → IsNear q
    at false i j = absurd (cc)
    at true i j =
        let inside = (and_parts b.alive (not (nat_lt (length b.bytes) offset)) i).1 in
        let long : offset ≤ length b.bytes = grind (arith, nat_tests, inside) in
        let small : length b.bytes < 2 ^ 63 = h.1.size in
        let same : At k offset ≡ q = cc in
        subst IsNear same (omega arith)

-- a pointer that moves stays near
moved_near : (n : ℕ) (m w : List Block) (p q : Pointer) (distance : ℤ) → Blocks n m w → moved m p distance ≡ Some q → IsNear q
moved_near n m w Null q distance h e = absurd (cc)
moved_near n m w (At k offset) q distance h e = at (at_distance offset distance) e
  where
    at : (o : Option ℕ) → option_and_then (in_block (slice_get m k) k) o ≡ Some q → IsNear q
    at None i = absurd (cc)
    at (Some place) i = in_near n m w (slice_get m k) (slice_get w k) k place q (get_alike n m w k h) i

pointers_related : (e : Pointee) (constant : Bool) (o : Option Pointer) → ((q : Pointer) → o ≡ Some q → IsNear q)
    → Options (WrittenValues (CType.Pointer e constant)) (option_map Value.At o) (option_map Value.At o)
pointers_related e constant None h = tt
pointers_related e constant (Some q) h = (h q refl, refl)

stepped_related : (n : ℕ) (m w : List Block) (e : Pointee) (constant : Bool) (p : Pointer) (size : Option ℕ) (count : ℤ) → Blocks n m w
    → Options (WrittenValues (CType.Pointer e constant)) (stepped m p size count) (stepped m p size count)
stepped_related n m w e constant p None count h = tt
stepped_related n m w e constant p (Some k) count h =
    pointers_related e constant (moved m p (count *ℤ pos k)) (λ q i. moved_near n m w p q (count *ℤ pos k) h i)

-- what two pointers give is a number
distance_related : (r : IntType) (k x y : ℕ) → Options (WrittenValues (CType.Int r)) (distance_in k x y) (distance_in k x y)
distance_related r k x y = at _
  where
    at : (v : Bool)
        → Options (WrittenValues (CType.Int r)) (if v then Some (Value.Int (num_of int.Long (int_div (pos x -ℤ pos y) (pos k)))) else None)
        (if v then Some (Value.Int (num_of int.Long (int_div (pos x -ℤ pos y) (pos k)))) else None)
    at true = written_long r (int_div (pos x -ℤ pos y) (pos k))
    at false = tt

block_related : (r : IntType) (m : List Block) (f : ℕ → ℕ → Option Value) (p q : Pointer)
    → ((x y : ℕ) → Options (WrittenValues (CType.Int r)) (f x y) (f x y))
    → Options (WrittenValues (CType.Int r)) (in_one_block m f p q) (in_one_block m f p q)
block_related r m f (At k x) (At l y) h = at (k == l && is_alive (slice_get m k))
  where
    at : (v : Bool) → Options (WrittenValues (CType.Int r)) (if v then f x y else None) (if v then f x y else None)
    at true = h x y
    at false = tt
block_related r m f Null q h = tt
block_related r m f (At k x) Null h = tt

equal_related : (r : IntType) (m : List Block) (wanted : Bool) (p q : Pointer)
    → Options (WrittenValues (CType.Int r)) (equal_pointers m wanted p q) (equal_pointers m wanted p q)
equal_related r m wanted p q = at (is_usable m p && is_usable m q)
  where
    at : (v : Bool) → Options (WrittenValues (CType.Int r)) (if v then Some (Value.Int (truth (if is_same_pointer p q then wanted else not wanted))) else None)
        (if v then Some (Value.Int (truth (if is_same_pointer p q then wanted else not wanted))) else None)
    at true = written_truth r (if is_same_pointer p q then wanted else not wanted)
    at false = tt

order_related : (r : IntType) (m : List Block) (f : ℕ → ℕ → Bool) (p q : Pointer) → Options (WrittenValues (CType.Int r)) (ordered m f p q) (ordered m f p q)
order_related r m f p q = block_related r m (λ x y. Some (Value.Int (truth (f x y)))) p q (λ x y. written_truth r (f x y))

difference_related : (r : IntType) (m : List Block) (size : Option ℕ) (p q : Pointer)
    → Options (WrittenValues (CType.Int r)) (option_and_then (λ n. in_one_block m (distance_in n) p q) size)
    (option_and_then (λ n. in_one_block m (distance_in n) p q) size)
difference_related r m None p q = tt
difference_related r m (Some k) p q = block_related r m (distance_in k) p q (distance_related r k)

both_related : (r : IntType) (m : List Block) (o : BinOp) (size : Option ℕ) (p q : Pointer)
    → Options (WrittenValues (CType.Int r)) (pointers_give m o size p q) (pointers_give m o size p q)
both_related r m op.Sub size p q = difference_related r m size p q
both_related r m op.Eq size p q = equal_related r m true p q
both_related r m op.Ne size p q = equal_related r m false p q
both_related r m op.Lt size p q = order_related r m nat_lt p q
both_related r m op.Gt size p q = order_related r m (λ x y. nat_lt y x) p q
both_related r m op.Le size p q = order_related r m nat_le p q
both_related r m op.Ge size p q = order_related r m (λ x y. nat_le y x) p q
both_related r m _ size p q = tt

pointer_number_related : (n : ℕ) (m w : List Block) (e : Pointee) (constant : Bool) (o : BinOp) (size : Option ℕ) (p : Pointer) (a b : Num)
    → a.value ≡ b.value → Blocks n m w
    → Options (WrittenValues (CType.Pointer e constant)) (pointer_and_integer m o size p a) (pointer_and_integer m o size p b)
pointer_number_related n m w e constant op.Add size p a b i h = rw i (stepped_related n m w e constant p size b.value h)
pointer_number_related n m w e constant op.Sub size p a b i h = rw i (stepped_related n m w e constant p size (neg_ℤ b.value) h)
pointer_number_related n m w e constant _ size p a b i h = tt

number_pointer_related : (n : ℕ) (m w : List Block) (e : Pointee) (constant : Bool) (o : BinOp) (size : Option ℕ) (p : Pointer) (a b : Num)
    → a.value ≡ b.value → Blocks n m w
    → Options (WrittenValues (CType.Pointer e constant)) (integer_and_pointer m o size a p) (integer_and_pointer m o size b p)
number_pointer_related n m w e constant op.Add size p a b i h = rw i (stepped_related n m w e constant p size b.value h)
number_pointer_related n m w e constant _ size p a b i h = tt

-- ---- conversions

-- `char` and `signed char` have the same values
wrapped_written : (t : IntType) (z : ℤ) → wrapped (written_integer t) z ≡ wrapped t z
unfolding wrapped value_of_bits bits_of
wrapped_written int.Boolean z = refl
wrapped_written int.Char z = refl
wrapped_written int.SChar z = refl
wrapped_written int.UChar z = refl
wrapped_written int.Short z = refl
wrapped_written int.UShort z = refl
wrapped_written int.Int z = refl
wrapped_written int.UInt z = refl
wrapped_written int.Long z = refl
wrapped_written int.ULong z = refl
wrapped_written int.LLong z = refl
wrapped_written int.ULLong z = refl

pub num_written : (r t : IntType) (z : ℤ) → WrittenValues (CType.Int r) (Value.Int (num_of t z)) (Value.Int (num_of (written_integer t) z))
unfolding num_of
num_written r t z = (refl, sym (wrapped_written t z))

pub boolean_written : (t : IntType) → is_boolean (written_integer t) ≡ is_boolean t
boolean_written int.Boolean = refl
boolean_written int.Char = refl
boolean_written int.SChar = refl
boolean_written int.UChar = refl
boolean_written int.Short = refl
boolean_written int.UShort = refl
boolean_written int.Int = refl
boolean_written int.UInt = refl
boolean_written int.Long = refl
boolean_written int.ULong = refl
boolean_written int.LLong = refl
boolean_written int.ULLong = refl

converted_written : (r t : IntType) (a b : Num) → a.value ≡ b.value
    → WrittenValues (CType.Int r) (Value.Int (converted t a)) (Value.Int (converted (written_integer t) b))
unfolding converted
converted_written r t a b e = rw (e, boolean_written t) (num_written r t (if is_boolean t then (if int_eq b.value (pos 0) then pos 0 else pos 1) else b.value))

module _ (n : ℕ) where
  -- ---- conditions

  pub written_tests : (s : IntType) → Tests n WrittenValues (CType.Int s)
  written_tests s m w u v h k = at u v (are_numbers s u v k)
    where
      at : (u v : Value) → AreNumbers u v → Options ◌≡◌ (holds m u) (holds w v)
      at u v (numbers a b e f) = same_true a b f

  pub written_pointer_tests : (e : Pointee) (constant : Bool) → Tests n WrittenValues (CType.Pointer e constant)
  written_pointer_tests e constant m w u v h k = at u v (are_pointers e constant u v k)
    where
      at : (u v : Value) → ArePointers u v → Options ◌≡◌ (holds m u) (holds w v)
      at u v (pointers p near) = subst (λ o. Options ◌≡◌ (holds m (Value.At p)) o) (holds_same n m w h (Value.At p)) (same_option (holds m (Value.At p)))

  pub written_points : (e : Pointee) (constant : Bool) → Points n WrittenValues (CType.Pointer e constant)
  written_points e constant u v k = at u v (are_pointers e constant u v k)
    where
      at : (u v : Value) → ArePointers u v → Options ◌≡◌ (pointer_in u) (pointer_in v)
      at u v (pointers p near) = refl

  -- ---- operators between numbers

  pub written_operates : (o : BinOp) (s t r p q : IntType) → Operates n WrittenValues o (CType.Int s) (CType.Int t) (CType.Int r) o (CType.Int p) (CType.Int q)
  written_operates o s t r p q m w u v x y h k l = at u v x y (are_numbers s u v k) (are_numbers t x y l)
    where
      at : (u v x y : Value) → AreNumbers u v → AreNumbers x y
          → Options (WrittenValues (CType.Int r)) (operate m o (CType.Int s) (CType.Int t) u x) (operate w o (CType.Int p) (CType.Int q) v y)
      at u v x y (numbers a b e f) (numbers c d g i) =
          rw (sym (binary_written o a c b d e g f i)) (plain_number r (binary_type o a.ty c.ty) (binary_of o a c) (binary_plain o a.ty c.ty)
          (binary_typed o a c))

  pub written_before : (o : UnOp) (s r : IntType) → OperatesBefore n WrittenValues o (CType.Int s) (CType.Int r)
  written_before o s r m w u v h k = at o u v (are_numbers s u v k)
    where
      at : (o : UnOp) (u v : Value) → AreNumbers u v → Options (WrittenValues (CType.Int r)) (operate_before m o u) (operate_before w o v)
      at sign.Not u v (numbers a b e f) = rw f (written_truth r (not (is_true b)))
      at sign.Plus u v (numbers a b e f) =
          rw (sym (unary_written sign.Plus a b e f)) (plain_number r (unary_type sign.Plus a.ty) (unary_of sign.Plus a) (unary_plain sign.Plus a.ty)
          (unary_typed sign.Plus a))
      at sign.Neg u v (numbers a b e f) =
          rw (sym (unary_written sign.Neg a b e f)) (plain_number r (unary_type sign.Neg a.ty) (unary_of sign.Neg a) (unary_plain sign.Neg a.ty)
          (unary_typed sign.Neg a))
      at sign.BitNot u v (numbers a b e f) =
          rw (sym (unary_written sign.BitNot a b e f)) (plain_number r (unary_type sign.BitNot a.ty) (unary_of sign.BitNot a) (unary_plain sign.BitNot a.ty)
          (unary_typed sign.BitNot a))

  -- ---- operators with pointers; those of both units point to elements of one size

  pub written_moves : (o : BinOp) (e f : Pointee) (i j r : Bool) (t q : IntType) → stride (CType.Pointer e i) ≡ stride (CType.Pointer f j)
      → Operates n WrittenValues o (CType.Pointer e i) (CType.Int t) (CType.Pointer e r) o (CType.Pointer f j) (CType.Int q)
  written_moves o e f i j r t q same m w u v x y h k l = at u v x y (are_pointers e i u v k) (are_numbers t x y l)
    where
      at : (u v x y : Value) → ArePointers u v → AreNumbers x y
          → Options (WrittenValues (CType.Pointer e r)) (operate m o (CType.Pointer e i) (CType.Int t) u x) (operate w o (CType.Pointer f j) (CType.Int q) v y)
      at u v x y (pointers p near) (numbers a b g z) =
          rw (sym (operate_same n m w h o (CType.Pointer f j) (CType.Int q) (Value.At p) (Value.Int b)), sym same)
          (pointer_number_related n m w e r o (stride (CType.Pointer e i)) p a b z h)

  pub written_moves_back : (o : BinOp) (e f : Pointee) (i j r : Bool) (t q : IntType) → stride (CType.Pointer e i) ≡ stride (CType.Pointer f j)
      → Operates n WrittenValues o (CType.Int t) (CType.Pointer e i) (CType.Pointer e r) o (CType.Int q) (CType.Pointer f j)
  written_moves_back o e f i j r t q same m w u v x y h k l = at u v x y (are_numbers t u v k) (are_pointers e i x y l)
    where
      at : (u v x y : Value) → AreNumbers u v → ArePointers x y
          → Options (WrittenValues (CType.Pointer e r)) (operate m o (CType.Int t) (CType.Pointer e i) u x) (operate w o (CType.Int q) (CType.Pointer f j) v y)
      at u v x y (numbers a b g z) (pointers p near) =
          rw (sym (operate_same n m w h o (CType.Int q) (CType.Pointer f j) (Value.Int b) (Value.At p)), sym same)
          (number_pointer_related n m w e r o (stride (CType.Pointer e i)) p a b z h)

  -- the difference and the comparison of pointers
  pub written_pointers : (o : BinOp) (e f e' f' : Pointee) (i j i' j' : Bool) (r : IntType) → stride (CType.Pointer e i) ≡ stride (CType.Pointer f j)
      → Operates n WrittenValues o (CType.Pointer e i) (CType.Pointer e' i') (CType.Int r) o (CType.Pointer f j) (CType.Pointer f' j')
  written_pointers o e f e' f' i j i' j' r same m w u v x y h k l = at u v x y (are_pointers e i u v k) (are_pointers e' i' x y l)
    where
      at : (u v x y : Value) → ArePointers u v → ArePointers x y
          → Options (WrittenValues (CType.Int r)) (operate m o (CType.Pointer e i) (CType.Pointer e' i') u x)
          (operate w o (CType.Pointer f j) (CType.Pointer f' j') v y)
      at u v x y (pointers p near) (pointers q close) =
          rw (sym (operate_same n m w h o (CType.Pointer f j) (CType.Pointer f' j') (Value.At p) (Value.At q)), sym same)
          (both_related r m o (stride (CType.Pointer e i)) p q)

  -- ---- conversions

  pub written_converts : (s t q : IntType) → q ≡ written_integer t → Converts n WrittenValues (CType.Int s) (CType.Int t) (CType.Int q)
  written_converts s t q e u v k = at u v (are_numbers s u v k)
    where
      at : (u v : Value) → AreNumbers u v → Options (WrittenValues (CType.Int t)) (converted_value (CType.Int t) u) (converted_value (CType.Int q) v)
      at u v (numbers a b f g) = rw e (converted_written t t a b g)

  -- a pointer stays
  pub written_pointer_converts : (e f g : Pointee) (i j k : Bool) → Converts n WrittenValues (CType.Pointer e i) (CType.Pointer f j) (CType.Pointer g k)
  written_pointer_converts e f g i j k u v h = at u v (are_pointers e i u v h)
    where
      at : (u v : Value) → ArePointers u v
          → Options (WrittenValues (CType.Pointer f j)) (converted_value (CType.Pointer f j) u) (converted_value (CType.Pointer g k) v)
      at u v (pointers p near) = (near, refl)

  null_related : (f : Pointee) (j : Bool) (v : Bool)
      → Options (WrittenValues (CType.Pointer f j)) (if v then None else Some (Value.At Null)) (if v then None else Some (Value.At Null))
  null_related f j true = tt
  null_related f j false = (tt, refl)

  -- the number 0 becomes the null pointer
  pub written_null_converts : (s : IntType) (f g : Pointee) (j k : Bool) → Converts n WrittenValues (CType.Int s) (CType.Pointer f j) (CType.Pointer g k)
  written_null_converts s f g j k u v h = at u v (are_numbers s u v h)
    where
      at : (u v : Value) → AreNumbers u v
          → Options (WrittenValues (CType.Pointer f j)) (converted_value (CType.Pointer f j) u) (converted_value (CType.Pointer g k) v)
      at u v (numbers a b e i) = rw (same_true a b i) (null_related f j (is_true b))
