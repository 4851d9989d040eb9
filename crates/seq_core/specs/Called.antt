-- The rows that a sequence calls, and the sequences without scalar parts.
use Rattle.std.specs.Prelude.{List, [], ◌∷◌, ◌++◌, Bool, true, false, ◌&&◌, ◌||◌, not, Option, Some, None, if◌then◌else◌}
use Rattle.neon_table.specs.declared.NeonOp.{NeonOp}
use Rattle.neon_table.specs.Rows.{form_of}
use Rattle.seq_core.specs.Rows.{is_reinterpreting, is_broadcasting, is_by_element}
use Rattle.seq_core.specs.Terms.{Term, Terms, Param, Step, Const, Int, Call, PairOf, Half, Scalar, Convert, Choice, Shifted, ByteAt, SetByte, NoTerms, More, Sequence}

abbrev pub are_constants : Terms → Bool
are_constants NoTerms = true
are_constants (More (Int n) rest) = are_constants rest
are_constants (More t rest) = false

-- a vector of a constant integer is a constant
abbrev pub is_constant : NeonOp → Terms → Bool
is_constant op all = is_broadcasting (form_of op) && are_constants all

-- reinterpretations and constants aren't counted
abbrev pub is_counted : NeonOp → Terms → Bool
is_counted op all = not (is_reinterpreting (form_of op)) && not (is_constant op all)

abbrev mutual
  -- the rows that a term calls and that are counted, in the order of evaluation; of a choice those of both parts
  pub rows_in : Term → List NeonOp
  rows_in (Call op all imm) = rows_in_all all ++ (if is_counted op all then op ∷ [] else [])
  rows_in (PairOf a b) = rows_in a ++ rows_in b
  rows_in (Half a k) = rows_in a
  rows_in (Scalar o a b) = rows_in a ++ rows_in b
  rows_in (Convert t a) = rows_in a
  rows_in (Choice c a b) = rows_in c ++ (rows_in a ++ rows_in b)
  rows_in (Shifted a b) = rows_in a ++ rows_in b
  rows_in (ByteAt a) = rows_in a
  rows_in (SetByte a b) = rows_in a ++ rows_in b
  rows_in t = []

  pub rows_in_all : Terms → List NeonOp
  rows_in_all NoTerms = []
  rows_in_all (More t rest) = rows_in t ++ rows_in_all rest

abbrev pub rows_in_steps : List Term → List NeonOp
rows_in_steps [] = []
rows_in_steps (t ∷ rest) = rows_in t ++ rows_in_steps rest

abbrev pub rows_in_result : Option Term → List NeonOp
rows_in_result None = []
rows_in_result (Some t) = rows_in t

-- the rows that a sequence calls and that are counted
abbrev pub rows_called : Sequence → List NeonOp
rows_called s = rows_in_steps s.steps ++ rows_in_result s.result

abbrev mutual
  -- the term has neither a scalar row nor a scalar operator, and touches no byte by itself
  pub is_plain : Term → Bool
  is_plain (Param n) = true
  is_plain (Step n) = true
  is_plain (Const r) = true
  is_plain (Int n) = true
  is_plain (Call op all imm) = is_constant op all || (not (is_by_element (form_of op)) && (not (is_broadcasting (form_of op)) && are_plain all))
  is_plain (PairOf a b) = is_plain a && is_plain b
  is_plain (Half a k) = is_plain a
  is_plain t = false

  pub are_plain : Terms → Bool
  are_plain NoTerms = true
  are_plain (More t rest) = is_plain t && are_plain rest

abbrev pub steps_plain : List Term → Option Term → Bool
steps_plain [] None = true
steps_plain [] (Some t) = is_plain t
steps_plain (t ∷ rest) result = is_plain t && steps_plain rest result

abbrev pub plain : Sequence → Bool
plain s = steps_plain s.steps s.result
