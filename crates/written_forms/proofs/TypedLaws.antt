-- Laws of typed values: operators, conversions and steps give values of the types that C says.
use Rattle.std.proofs.Common.{◌≡◌, ℕ, Bool, true, not, Option, Some, None, refl, subst}
use Rattle.std.specs.Prelude.{option_map, IfSome}
use Rattle.lane_core.specs.declared.number.IntType.{IntType}
use Rattle.lane_core.specs.declared.number.IntType.TheVariants as int
use Rattle.lane_core.specs.declared.number.Num.{Num}
use Rattle.lane_core.specs.declared.number.BinOp.{BinOp}
use Rattle.lane_core.specs.declared.number.UnOp.{UnOp}
use Rattle.lane_core.specs.declared.number.UnOp.TheVariants as sign
use Rattle.scalar_core.specs.Numbers.{num_of}
use Rattle.scalar_core.specs.NumberLaws.{converted_type, num_of_parts}
use Rattle.scalar_core.specs.Operators.{truth, HasType, binary_type, binary_of, unary_type, unary_of}
use Rattle.scalar_core.specs.OperatorLaws.{binary_typed, unary_typed}
use Rattle.const_imm.specs.Constant.{is_true}
use Rattle.c_tree.specs.declared.types.CType.{CType}
use Rattle.c_memory.specs.declared.value.Value.{Value}
use Rattle.c_memory.specs.Matching.{written_integer}
use Rattle.c_memory.specs.Values.{IsOfType}
use Rattle.c_memory.specs.MeaningValues.{operate, operate_before, as_int, converted_value}
use Rattle.simulation.specs.Alike.{Options}
use Rattle.simulation.specs.WrittenValues.{WrittenValues}
use Rattle.simulation.specs.ExpressionLaws.{Tests, OperatesBefore, Operates, OperatesInto, Converts, Steps, operates_into, steps_by}
use Rattle.simulation.specs.WrittenLaws.{written_tests, written_operates, written_before, written_converts, written_truth, num_written, AreNumbers, numbers, are_numbers}
use Rattle.written_forms.specs.TypedValues.{TypedValues}

-- related values of which the first is of the type
pub with_type : (t : CType) (o r : Option Value) → Options (WrittenValues t) o r → IfSome o (IsOfType t) → Options (TypedValues t) o r
with_type t None r h k = tt
with_type t (Some v) (Some w) h k = (h, k)
with_type t (Some v) None h k = absurd h

as_value : (t : IntType) (o : Option Num) → HasType t o → IfSome (option_map Value.Int o) (IsOfType (CType.Int t))
as_value t None h = tt
as_value t (Some n) h = h

-- what a value of an integer type is
pub data IsNumber (t : IntType) : Value → Type 0 where
  number : (m : Num) → m.ty ≡ t → IsNumber t (Value.Int m)

pub is_number : (t : IntType) (v : Value) → IsOfType (CType.Int t) v → IsNumber t v
is_number t (Value.Int m) h = number m h
is_number t v h = absurd h

truth_type : (b : Bool) → (truth b).ty ≡ int.Int
unfolding truth num_of
truth_type b = refl

pub typed_truth : (b : Bool) → TypedValues (CType.Int int.Int) (as_int b) (as_int b)
typed_truth b = (written_truth int.Int b, truth_type b)

-- a constant as it is written
pub typed_constant : (n : Num) → TypedValues (CType.Int n.ty) (Value.Int n) (Value.Int (num_of (written_integer n.ty) n.value))
typed_constant n =
    (subst (λ m. WrittenValues (CType.Int n.ty) (Value.Int m) (Value.Int (num_of (written_integer n.ty) n.value))) (num_of_parts n) (num_written n.ty n.ty n.value), refl)

module _ (n : ℕ) where
  pub typed_tests : (s : IntType) → Tests n TypedValues (CType.Int s)
  typed_tests s m w u v h k = written_tests n s m w u v h k.0

  typed_operates_on : (o : BinOp) (s t p q : IntType) → Operates n TypedValues o (CType.Int s) (CType.Int t) (CType.Int (binary_type o s t)) o (CType.Int p) (CType.Int q)
  typed_operates_on o s t p q m w u v x y h k l =
      with_type (CType.Int (binary_type o s t)) (operate m o (CType.Int s) (CType.Int t) u x) (operate w o (CType.Int p) (CType.Int q) v y)
      (written_operates n o s t (binary_type o s t) p q m w u v x y h k.0 l.0) (at u x (is_number s u k.1) (is_number t x l.1))
    where
      at : (u x : Value) → IsNumber s u → IsNumber t x → IfSome (operate m o (CType.Int s) (CType.Int t) u x) (IsOfType (CType.Int (binary_type o s t)))
      at u x (number a e) (number b f) =
          subst (λ i. IfSome (option_map Value.Int (binary_of o a b)) (IsOfType (CType.Int (binary_type o i t)))) e
          (subst (λ j. IfSome (option_map Value.Int (binary_of o a b)) (IsOfType (CType.Int (binary_type o a.ty j)))) f
          (as_value (binary_type o a.ty b.ty) (binary_of o a b) (binary_typed o a b)))

  -- the types of the operands of the second unit don't count between integers
  pub typed_operates : (o : BinOp) (s t : IntType) (p q : CType) → Operates n TypedValues o (CType.Int s) (CType.Int t) (CType.Int (binary_type o s t)) o p q
  typed_operates o s t p q m w u v x y h k l =
      subst (λ z. Options (TypedValues (CType.Int (binary_type o s t))) (operate m o (CType.Int s) (CType.Int t) u x) z)
      (at u v x y (are_numbers s u v k.0) (are_numbers t x y l.0)) (typed_operates_on o s t int.Int int.Int m w u v x y h k l)
    where
      at : (u v x y : Value) → AreNumbers u v → AreNumbers x y → operate w o (CType.Int int.Int) (CType.Int int.Int) v y ≡ operate w o p q v y
      at u v x y (numbers a b e f) (numbers i j g z) = refl

  pub typed_before : (o : UnOp) (s : IntType) → OperatesBefore n TypedValues o (CType.Int s) (CType.Int (unary_type o s))
  typed_before o s m w u v h k =
      with_type (CType.Int (unary_type o s)) (operate_before m o u) (operate_before w o v) (written_before n o s (unary_type o s) m w u v h k.0)
      (at o u (is_number s u k.1))
    where
      of_one : (o : UnOp) (a : Num) → a.ty ≡ s → IfSome (option_map Value.Int (unary_of o a)) (IsOfType (CType.Int (unary_type o s)))
      of_one o a e = subst (λ i. IfSome (option_map Value.Int (unary_of o a)) (IsOfType (CType.Int (unary_type o i)))) e
          (as_value (unary_type o a.ty) (unary_of o a) (unary_typed o a))

      at : (o : UnOp) (u : Value) → IsNumber s u → IfSome (operate_before m o u) (IsOfType (CType.Int (unary_type o s)))
      at sign.Not u (number a e) = truth_type (not (is_true a))
      at sign.Plus u (number a e) = of_one sign.Plus a e
      at sign.Neg u (number a e) = of_one sign.Neg a e
      at sign.BitNot u (number a e) = of_one sign.BitNot a e

  pub typed_converts : (s t : IntType) → Converts n TypedValues (CType.Int s) (CType.Int t) (CType.Int (written_integer t))
  typed_converts s t u v k =
      with_type (CType.Int t) (converted_value (CType.Int t) u) (converted_value (CType.Int (written_integer t)) v)
      (written_converts n s t (written_integer t) refl u v k.0) (at u (is_number s u k.1))
    where
      at : (u : Value) → IsNumber s u → IfSome (converted_value (CType.Int t) u) (IsOfType (CType.Int t))
      at u (number a e) = converted_type t a

  -- an operator whose value is converted to the type of an object that is written so
  pub typed_into : (o : BinOp) (s t : IntType) (q : CType) → OperatesInto n TypedValues o (CType.Int s) (CType.Int t) (CType.Int s) o (CType.Int (written_integer s)) q
      (CType.Int (written_integer s))
  typed_into o s t q =
      operates_into n TypedValues o (CType.Int s) (CType.Int t) (CType.Int (binary_type o s t)) (CType.Int s) o (CType.Int (written_integer s)) q
      (CType.Int (written_integer s)) (typed_operates o s t (CType.Int (written_integer s)) q) (typed_converts (binary_type o s t) s)

  pub typed_steps : (s : IntType) (up : Bool) → Steps n TypedValues (CType.Int s) (CType.Int (written_integer s)) up
  typed_steps s up =
      steps_by n TypedValues (CType.Int s) (CType.Int (written_integer s)) up (λ o. typed_into o s int.Int (CType.Int int.Int)) (typed_truth true)
