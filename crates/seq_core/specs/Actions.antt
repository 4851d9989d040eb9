-- What a term does to memory: it gives a value and leaves a memory, or is undefined. Objects and turns aren't touched, by the type.
use Rattle.std.specs.Prelude.{ℕ, Bool, false, List, [], ◌∷◌, ◌++◌, Option, Some, None, option_map, slice_get, pos, if◌then◌else◌}
use Rattle.std.specs.Option.{option_and_then}
use Rattle.lane_core.specs.declared.number.IntType.TheVariants as int
use Rattle.lane_core.specs.declared.table.ParamKind.{ParamKind}
use Rattle.lane_core.specs.declared.table.ParamKind.TheVariants as kind
use Rattle.lane_core.specs.Table.{params_of}
use Rattle.scalar_core.specs.Numbers.{num_of}
use Rattle.const_imm.specs.Constant.{is_true}
use Rattle.c_tree.specs.declared.types.CType.{CType}
use Rattle.c_memory.specs.declared.blocks.Block.{Block}
use Rattle.c_memory.specs.declared.value.Value.{Value}
use Rattle.c_memory.specs.MeaningRows.{row_result}
use Rattle.c_memory.specs.MeaningValues.{stepped}
use Rattle.c_memory.specs.MeaningObjects.{load_from, stored_at}
use Rattle.neon_table.specs.declared.NeonOp.{NeonOp}
use Rattle.neon_table.specs.Rows.{signature_of}
use Rattle.seq_core.specs.Rows.{table, is_storing}
use Rattle.seq_core.specs.Terms.{Term, Terms, Param, Step, Const, Int, Call, PairOf, Half, Scalar, Convert, Choice, Shifted, ByteAt, SetByte, NoTerms, More, Sequence}
use Rattle.seq_core.specs.Values.{step_value, paired, halved, operated, turned}

-- from a memory to what is given and the memory after it
abbrev pub Acts : Type 0 → Type 0
Acts A = List Block → Option (A × List Block)

-- one, and with what it gives the next
abbrev pub then_acts : {A B : Type 0} → Acts A → (A → Acts B) → Acts B
then_acts p f = λ m. option_and_then (λ r. f r.0 r.1) (p m)

-- what is there; the memory stays
abbrev pub just : {A : Type 0} → Option A → Acts A
just o = λ m. option_map (λ a. (a, m)) o

-- what a function of the memory gives, which stays
abbrev pub looks : {A : Type 0} → (List Block → Option A) → Acts A
looks f = λ m. just (f m) m

-- the operands' values with the row's constant in its place
abbrev pub with_value : List ParamKind → List Value → ℕ → List Value
with_value (kind.Immediate ∷ ks) vs imm = Value.Int (num_of int.Int (pos imm)) ∷ with_value ks vs imm
with_value (k ∷ ks) (v ∷ vs) imm = v ∷ with_value ks vs imm
with_value _ vs imm = vs

-- the call of a row, as the meaning of C has it
abbrev pub called_in : NeonOp → ℕ → List Value → Acts (Option Value)
called_in op imm vs = row_result table op (with_value (params_of (signature_of op)) vs imm)

-- the pointer that number of bytes further on
abbrev pub shifted : Value → Value → List Block → Option Value
shifted (Value.At p) (Value.Int n) m = stepped m p (Some 1) n.value
shifted v w m = None

-- the byte at a pointer
abbrev pub byte_at : Value → List Block → Option Value
byte_at (Value.At p) m = load_from (CType.Int int.UChar) p m
byte_at v m = None

-- the byte is written at the pointer, and is the value
abbrev pub byte_set : Value → Value → Acts Value
byte_set (Value.At p) w = λ m. option_map (λ after. (w, after)) (stored_at (CType.Int int.UChar) p w m)
byte_set v w = λ m. None

abbrev pub chosen_in : Value → Acts Value → Acts Value → Acts Value
chosen_in (Value.Int n) p q = λ m. if is_true n then p m else q m
chosen_in v p q = λ m. None

abbrev mutual
  -- the value over those of the parameters and of the earlier steps, parts from left to right
  pub value_in : List Value → List (Option Value) → Term → Acts Value
  value_in ps ss (Param n) = just (slice_get ps n)
  value_in ps ss (Step n) = just (step_value ss n)
  value_in ps ss (Const r) = just (Some (Value.R16 r))
  value_in ps ss (Int n) = just (Some (Value.Int n))
  value_in ps ss (Call op all imm) = then_acts (then_acts (values_in ps ss all) (called_in op imm)) just
  value_in ps ss (PairOf a b) = then_acts (value_in ps ss a) (λ v. then_acts (value_in ps ss b) (λ w. just (paired v w)))
  value_in ps ss (Half a k) = then_acts (value_in ps ss a) (λ v. just (halved k v))
  value_in ps ss (Scalar o a b) = then_acts (value_in ps ss a) (λ v. then_acts (value_in ps ss b) (λ w. just (operated o v w)))
  value_in ps ss (Convert t a) = then_acts (value_in ps ss a) (λ v. just (turned t v))
  value_in ps ss (Choice c a b) = then_acts (value_in ps ss c) (λ v. chosen_in v (value_in ps ss a) (value_in ps ss b))
  value_in ps ss (Shifted a b) = then_acts (value_in ps ss a) (λ v. then_acts (value_in ps ss b) (λ w. looks (shifted v w)))
  value_in ps ss (ByteAt a) = then_acts (value_in ps ss a) (λ v. looks (byte_at v))
  value_in ps ss (SetByte a b) = then_acts (value_in ps ss a) (λ v. then_acts (value_in ps ss b) (byte_set v))

  pub values_in : List Value → List (Option Value) → Terms → Acts (List Value)
  values_in ps ss NoTerms = just (Some [])
  values_in ps ss (More t rest) = then_acts (value_in ps ss t) (λ v. then_acts (values_in ps ss rest) (λ vs. just (Some (v ∷ vs))))

-- the term calls a storing row, and so has no value
abbrev pub is_void : Term → Bool
is_void (Call op all imm) = is_storing op
is_void t = false

-- what a call of a storing row does
abbrev pub storing_in : List Value → List (Option Value) → Term → Acts (Option Value)
storing_in ps ss (Call op all imm) = then_acts (then_acts (values_in ps ss all) (called_in op imm)) (λ o. just (Some None))
storing_in ps ss t = λ m. None

-- what a step does, and its value if it has one
abbrev pub step_in : List Value → List (Option Value) → Term → Acts (Option Value)
step_in ps ss t = if is_void t then storing_in ps ss t else then_acts (value_in ps ss t) (λ v. just (Some (Some v)))

-- the values of steps in order, behind those before
abbrev pub steps_in : List Value → List (Option Value) → List Term → Acts (List (Option Value))
steps_in ps ss [] = just (Some ss)
steps_in ps ss (t ∷ rest) = then_acts (step_in ps ss t) (λ o. steps_in ps (ss ++ o ∷ []) rest)

-- the value behind the steps, if the sequence has one
abbrev pub result_in : List Value → Option Term → List (Option Value) → Acts (Option Value)
result_in ps None ss = just (Some None)
result_in ps (Some t) ss = then_acts (value_in ps ss t) (λ v. just (Some (Some v)))

abbrev pub sequence_in : Sequence → List Value → Acts (Option Value)
sequence_in s ps = then_acts (steps_in ps [] s.steps) (result_in ps s.result)
