-- What the parts of an expression of an `#if` line are worth: a type, which is `long` or `unsigned long`, and a value where C defines one (C11 6.10.1p4, 6.6).
use Rattle.std.specs.Prelude.{◌==◌, Bool, true, false, not, ◌||◌, if◌then◌else◌, Option, Some, None, option_map, option_and_then, ℕ, List, ℤ, pos, int_lt}
use Rattle.std.specs.List.{list_any}
use Rattle.std.specs.Ordering.{int_eq}
use Rattle.std.specs.Str.{byte}
use Rattle.lane_core.specs.declared.number.IntType.{IntType}
use Rattle.lane_core.specs.declared.number.IntType.TheVariants.{Long, ULong}
use Rattle.lane_core.specs.declared.number.Num.{Num}
use Rattle.lane_core.specs.declared.number.BinOp.{BinOp}
use Rattle.lane_core.specs.declared.number.UnOp.{UnOp}
use Rattle.lane_core.specs.IntRange.{is_signed, greatest}
use Rattle.scalar_core.specs.Ranks.{common_of}
use Rattle.scalar_core.specs.Numbers.{num_of, converted}
use Rattle.scalar_core.specs.Operators.{binary_of, unary_of, binary_type, unary_type}
use Rattle.c_conditions.specs.declared.worths.Worth.{Worth}
use Rattle.c_conditions.specs.declared.signs.Infix.{Infix}
use Rattle.c_conditions.specs.declared.signs.Infix.TheVariants.{OrElse, AndThen, Operator}

-- the type that stands for an integer type: all signed ones act as `long`, and all unsigned ones as `unsigned long` (6.10.1p4)
abbrev pub widest : IntType → IntType
widest t = if is_signed t then Long else ULong

-- what a result of this type is worth
abbrev pub worth_of : IntType → Option Num → Worth
worth_of t o = record { ty = widest t; value = option_map (converted (widest t)) o }

-- a number that is known
abbrev pub known : IntType → ℤ → Worth
known t z = record { ty = t; value = Some (num_of t z) }

-- a number of a type that C leaves undefined
abbrev pub undefined : IntType → Worth
undefined t = record { ty = t; value = None }

abbrev pub truth_of : Bool → Worth
truth_of b = known Long (if b then pos 1 else pos 0)

abbrev pub is_zero : Num → Bool
is_zero n = int_eq n.value (pos 0)

-- 1 where the value isn't 0, and 0 where it is
abbrev pub truth_in : Worth → Worth
truth_in v = elim v.value [ None ↦ undefined Long | Some n ↦ truth_of (not (is_zero n)) ]

-- `&&`: the right operand is evaluated only where the left one isn't 0 (6.5.13)
abbrev pub both : Worth → Worth → Worth
both a b = elim a.value [ None ↦ undefined Long | Some n ↦ if is_zero n then truth_of false else truth_in b ]

-- `||`: the right operand is evaluated only where the left one is 0 (6.5.14)
abbrev pub either : Worth → Worth → Worth
either a b = elim a.value [ None ↦ undefined Long | Some n ↦ if is_zero n then truth_in b else truth_of true ]

-- an operator whose operands are both evaluated (6.5.5 to 6.5.12)
abbrev pub operated : BinOp → Worth → Worth → Worth
operated op a b = worth_of (binary_type op a.ty b.ty) (option_and_then (λ x. option_and_then (λ y. binary_of op x y) b.value) a.value)

abbrev pub joined : Infix → Worth → Worth → Worth
joined OrElse a b = either a b
joined AndThen a b = both a b
joined (Operator op) a b = operated op a b

-- an operator before its operand (6.5.3.3)
abbrev pub operated_before : UnOp → Worth → Worth
operated_before op a = worth_of (unary_type op a.ty) (option_and_then (λ x. unary_of op x) a.value)

-- `c ? a : b`: one of the two is evaluated, and has the common type of both (6.5.15p4, p5)
abbrev pub chosen : Worth → Worth → Worth → Worth
chosen c a b =
    let t = common_of a.ty b.ty in
    elim c.value [ None ↦ undefined t | Some n ↦ record { ty = t; value = option_map (converted t) (if is_zero n then b.value else a.value) } ]

-- a `u` stands in the suffix: in an integer constant it stands nowhere else (6.4.4.1p1)
abbrev pub has_unsigned_suffix : List ℕ → Bool
has_unsigned_suffix text = list_any (λ b. b == byte "u" || b == byte "U") text

-- The type of an integer constant. Where every signed type has the numbers of `long`, the first type of the list in 6.4.4.1p5 that has the number is a
-- signed one, but for a constant with a `u` and for a number that only `unsigned long` has. So `0x80000000` is signed here (6.10.1, footnote 167).
abbrev pub type_of_constant : List ℕ → ℤ → IntType
type_of_constant text z = if has_unsigned_suffix text || int_lt (greatest Long) z then ULong else Long
