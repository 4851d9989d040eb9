-- The value of a term and of a sequence that touch no memory: rows by their formulas, integers by C.
use Rattle.std.specs.Prelude.{ℕ, zero, suc, Bool, true, false, ◌&&◌, List, [], ◌∷◌, ◌++◌, Option, Some, None, option_map, slice_get, if◌then◌else◌, pos}
use Rattle.std.specs.Option.{option_and_then}
use Rattle.lane_core.specs.declared.number.IntType.{IntType}
use Rattle.lane_core.specs.declared.number.BinOp.{BinOp}
use Rattle.lane_core.specs.declared.table.Arg.{Arg}
use Rattle.lane_core.specs.declared.table.ParamKind.{ParamKind}
use Rattle.lane_core.specs.declared.table.ParamKind.TheVariants as kind
use Rattle.lane_core.specs.Table.{params_of}
use Rattle.scalar_core.specs.Numbers.{num_of, converted}
use Rattle.scalar_core.specs.Operators.{binary_of}
use Rattle.const_imm.specs.Constant.{is_true}
use Rattle.c_tree.specs.declared.types.CType.{CType}
use Rattle.c_memory.specs.declared.memory.Pointer.TheVariants.{Null}
use Rattle.c_memory.specs.declared.value.Value.{Value}
use Rattle.c_memory.specs.Matching.{half}
use Rattle.c_memory.specs.MeaningRows.{argument, given, fits_kind}
use Rattle.neon_table.specs.declared.NeonOp.{NeonOp}
use Rattle.neon_table.specs.Rows.{signature_of, eval_of}
use Rattle.seq_core.specs.Rows.{is_without_memory}
use Rattle.seq_core.specs.Terms.{Term, Terms, Param, Step, Const, Int, Call, PairOf, Half, Scalar, Convert, Choice, NoTerms, More, Sequence}

-- one value for each parameter but the constant, each of its kind
abbrev pub fits_operands : List ParamKind → List Value → Bool
fits_operands [] [] = true
fits_operands (kind.Immediate ∷ ks) vs = fits_operands ks vs
fits_operands (k ∷ ks) (v ∷ vs) = fits_kind k v && fits_operands ks vs
fits_operands _ _ = false

-- the operands as a row's arguments; where its constant stands there is none
abbrev pub placed : List ParamKind → List Value → List Arg
placed (kind.Immediate ∷ ks) vs = Arg.Nothing ∷ placed ks vs
placed (k ∷ ks) (v ∷ vs) = argument v ∷ placed ks vs
placed _ _ = []

-- what a row without memory gives
abbrev pub called : NeonOp → ℕ → List Value → Option Value
called op imm vs =
    let ks = params_of (signature_of op) in
    if is_without_memory op && fits_operands ks vs then given (signature_of op).result (eval_of op (placed ks vs) imm) else None

abbrev pub paired : Value → Value → Option Value
paired (Value.R16 a) (Value.R16 b) = Some (Value.R32 (a ++ b))
paired v w = None

abbrev pub halved : ℕ → Value → Option Value
halved zero (Value.R32 r) = Some (Value.R16 (half 0 r))
halved (suc k) (Value.R32 r) = Some (Value.R16 (half 1 r))
halved k v = None

abbrev pub operated : BinOp → Value → Value → Option Value
operated o (Value.Int m) (Value.Int n) = option_map Value.Int (binary_of o m n)
operated o v w = None

abbrev pub turned : IntType → Value → Option Value
turned t (Value.Int n) = Some (Value.Int (converted t n))
turned t v = None

abbrev pub chosen : Value → Option Value → Option Value → Option Value
chosen (Value.Int n) a b = if is_true n then a else b
chosen v a b = None

-- the value of a step, where it has one
abbrev pub step_value : List (Option Value) → ℕ → Option Value
step_value ss n = option_and_then (λ o. o) (slice_get ss n)

abbrev mutual
  -- the value over those of the parameters and of the earlier steps; none where it is undefined or memory is touched
  pub value_of : List Value → List (Option Value) → Term → Option Value
  value_of ps ss (Param n) = slice_get ps n
  value_of ps ss (Step n) = step_value ss n
  value_of ps ss (Const r) = Some (Value.R16 r)
  value_of ps ss (Int n) = Some (Value.Int n)
  value_of ps ss (Call op all imm) = option_and_then (called op imm) (values_of ps ss all)
  value_of ps ss (PairOf a b) = option_and_then (λ v. option_and_then (paired v) (value_of ps ss b)) (value_of ps ss a)
  value_of ps ss (Half a k) = option_and_then (halved k) (value_of ps ss a)
  value_of ps ss (Scalar o a b) = option_and_then (λ v. option_and_then (operated o v) (value_of ps ss b)) (value_of ps ss a)
  value_of ps ss (Convert t a) = option_and_then (turned t) (value_of ps ss a)
  value_of ps ss (Choice c a b) = option_and_then (λ v. chosen v (value_of ps ss a) (value_of ps ss b)) (value_of ps ss c)
  value_of ps ss t = None

  pub values_of : List Value → List (Option Value) → Terms → Option (List Value)
  values_of ps ss NoTerms = Some []
  values_of ps ss (More t rest) = option_and_then (λ v. option_map (λ vs. v ∷ vs) (values_of ps ss rest)) (value_of ps ss t)

-- the values of steps in order, behind those before
abbrev pub steps_from : List Value → List (Option Value) → List Term → Option (List (Option Value))
steps_from ps ss [] = Some ss
steps_from ps ss (t ∷ rest) = option_and_then (λ v. steps_from ps (ss ++ Some v ∷ []) rest) (value_of ps ss t)

-- the value behind the steps, if the sequence has one
abbrev pub result_over : List Value → Option Term → List (Option Value) → Option (Option Value)
result_over ps None ss = Some None
result_over ps (Some t) ss = option_map Some (value_of ps ss t)

abbrev pub sequence_value : Sequence → List Value → Option (Option Value)
sequence_value s ps = option_and_then (result_over ps s.result) (steps_from ps [] s.steps)

-- an argument as a value of a parameter's type: an integer is read in its type, and for a pointer stands none
abbrev pub carried : CType → Arg → Option Value
carried (CType.Int t) (Arg.Int n) = Some (Value.Int (num_of t (pos n)))
carried (CType.Neon lanes false) (Arg.R8 r) = Some (Value.R8 r)
carried (CType.Neon lanes true) (Arg.R16 r) = Some (Value.R16 r)
carried CType.Pair (Arg.R32 r) = Some (Value.R32 r)
carried (CType.Pointer e constant) Arg.Nothing = Some (Value.At Null)
carried t a = None

abbrev pub all_carried : List CType → List Arg → Option (List Value)
all_carried [] [] = Some []
all_carried (t ∷ ts) (a ∷ rest) = option_and_then (λ v. option_map (λ vs. v ∷ vs) (all_carried ts rest)) (carried t a)
all_carried _ _ = None

-- a value as an argument or a result
abbrev pub as_arg : Option Value → Arg
as_arg None = Arg.Nothing
as_arg (Some v) = argument v

-- the value for these arguments; none where they aren't of the parameters' types, where memory is touched, and where a scalar step is undefined
abbrev pub evaluated : Sequence → List Arg → Option Arg
evaluated s args = option_map as_arg (option_and_then (sequence_value s) (all_carried s.params args))
