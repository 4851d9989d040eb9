-- How operators are spelled (C11 6.5).
use Rattle.std.specs.Prelude.{ℕ, List, Bool, true, false, codes}
use Rattle.lane_core.specs.declared.number.BinOp.{BinOp}
use Rattle.lane_core.specs.declared.number.BinOp.TheVariants.{Mul, Div, Rem, Add, Sub, Shl, Shr, Lt, Gt, Le, Ge, Eq, Ne, BitAnd, BitXor, BitOr}
use Rattle.lane_core.specs.declared.number.UnOp.{UnOp}
use Rattle.lane_core.specs.declared.number.UnOp.TheVariants.{Plus, Neg, BitNot, Not}

-- an operator between two operands (C11 6.5.5 to 6.5.12)
abbrev pub operator_text : BinOp → List ℕ
operator_text Mul = codes "*"
operator_text Div = codes "/"
operator_text Rem = codes "%"
operator_text Add = codes "+"
operator_text Sub = codes "-"
operator_text Shl = codes "<<"
operator_text Shr = codes ">>"
operator_text Lt = codes "<"
operator_text Gt = codes ">"
operator_text Le = codes "<="
operator_text Ge = codes ">="
operator_text Eq = codes "=="
operator_text Ne = codes "!="
operator_text BitAnd = codes "&"
operator_text BitXor = codes "^"
operator_text BitOr = codes "|"

-- an operator before its operand (C11 6.5.3.3)
abbrev pub prefix_text : UnOp → List ℕ
prefix_text Plus = codes "+"
prefix_text Neg = codes "-"
prefix_text BitNot = codes "~"
prefix_text Not = codes "!"

-- a step upwards or downwards (C11 6.5.2.4, 6.5.3.1)
abbrev pub step_text : Bool → List ℕ
step_text true = codes "++"
step_text false = codes "--"
