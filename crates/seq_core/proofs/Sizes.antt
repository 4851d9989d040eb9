-- No action changes the number of blocks.
use Rattle.std.proofs.Common.{◌≡◌, ℕ, List, [], ◌∷◌, ◌++◌, Bool, true, false, Option, Some, None, refl, sym, ap, ◌∙◌, arith, length}
use Rattle.std.specs.Prelude.{option_map, slice_get, slice_set, if◌then◌else◌, filter, take, drop}
use Rattle.std.specs.Option.{option_and_then}
use Rattle.std.proofs.lemmas.List.{length-set}
use Rattle.const_imm.specs.Constant.{is_true}
use Rattle.lane_core.specs.declared.number.IntType.TheVariants as int
use Rattle.lane_core.specs.declared.table.Access.{Access}
use Rattle.lane_core.specs.declared.table.Arg.{Arg}
use Rattle.lane_core.specs.Table.{params_of}
use Rattle.c_tree.specs.declared.types.CType.{CType}
use Rattle.c_memory.specs.declared.blocks.Block.{Block}
use Rattle.c_memory.specs.declared.memory.Pointer.{Pointer}
use Rattle.c_memory.specs.declared.memory.Pointer.TheVariants.{Null, At}
use Rattle.c_memory.specs.declared.value.Value.{Value}
use Rattle.c_memory.specs.Memory.{after_write, written_in}
use Rattle.c_memory.specs.MeaningRows.{first_accesses, immediate, pointer_among, arguments, access_at, is_access, write_one, write_each, with_bytes_read, row_applied, row_made, may_call, bytes_of, given}
use Rattle.c_memory.specs.MeaningObjects.{encoded, stored_at}
use Rattle.neon_table.specs.declared.NeonOp.{NeonOp}
use Rattle.neon_table.specs.Rows.{signature_of, range_of, accesses_of, access_of, eval_of}
use Rattle.seq_core.specs.Rows.{table}
use Rattle.seq_core.specs.Terms.{Term, Terms, Param, Step, Const, Int, Call, PairOf, Half, Scalar, Convert, Choice, Shifted, ByteAt, SetByte, NoTerms, More, Sequence}
use Rattle.seq_core.specs.Values.{step_value, paired, halved, operated, turned}
use Rattle.seq_core.specs.Actions.{Acts, then_acts, just, looks, with_value, called_in, shifted, byte_at, byte_set, chosen_in, value_in, values_in, is_void, storing_in, step_in, steps_in, result_in, sequence_in}

-- the number of blocks is the same afterwards
abbrev pub KeepsCount : {A : Type 0} → Acts A → Type 0
KeepsCount {A} p = (m : List Block) (a : A) (n : List Block) → p m ≡ Some (a, n) → length n ≡ length m

then_keeps : {A B : Type 0} (p : Acts A) (f : A → Acts B) → KeepsCount p → ((a : A) → KeepsCount (f a)) → KeepsCount (then_acts p f)
then_keeps {A = A} {B = B} p f h g m b n e = by_result (p m) refl e
  where
    by_result : (o : Option (A × List Block)) → p m ≡ o → option_and_then (λ r. f r.0 r.1) o ≡ Some (b, n) → length n ≡ length m
    by_result None q e2 = absurd (grind (arith, e2))
    by_result (Some r) q e2 = g r.0 r.1 b n e2 ∙ h m r.0 r.1 q

some_same : {A : Type 0} {x y : A} → Some x ≡ Some y → x ≡ y
some_same e = cc

just_keeps : {A : Type 0} (o : Option A) → KeepsCount (just o)
just_keeps {A = A} None m a n e = absurd (grind (arith, e))
just_keeps {A = A} (Some b) m a n e = sym (ap (λ (r : A × List Block). length r.1) (some_same e))

looks_keep : {A : Type 0} (f : List Block → Option A) → KeepsCount (looks f)
looks_keep f m a n e = just_keeps (f m) m a n e

set_length : (m : List Block) (k : ℕ) (b : Block) → length (slice_set m k b) ≡ length m
set_length m k b = length-set m k b

written_length : (m : List Block) (k : ℕ) (o : Option Block) (n : List Block) → option_map (λ b. slice_set m k b) o ≡ Some n → length n ≡ length m
written_length m k None n e = absurd (grind (arith, e))
written_length m k (Some b) n e = ap length (sym (some_same e)) ∙ set_length m k b

write_length : (m : List Block) (p : Pointer) (align : ℕ) (bytes : List ℕ) (n : List Block) → after_write m p align bytes ≡ Some n → length n ≡ length m
write_length m Null align bytes n e = absurd (grind (arith, e))
write_length m (At block offset) align bytes n e = written_length m block (written_in (slice_get m block) offset align bytes) n e

-- a write and then more, in an option
also : {A : Type 0} (o : Option A) (f : A → Option (List Block)) (m n : List Block) → ((a : A) → f a ≡ Some n → length n ≡ length m) → option_and_then f o ≡ Some n → length n ≡ length m
also None f m n g e = absurd (grind (arith, e))
also (Some a) f m n g e = g a e

one_length : (p : Pointer) (r : List ℕ) (a : Access) (m n : List Block) → write_one p r a m ≡ Some n → length n ≡ length m
one_length p r a m n e = by_case (is_access (length r) a) e
  where
    by_case : (b : Bool) → (if b then option_and_then (λ q. after_write m q a.align (take a.size (drop a.at r))) (access_at p a.offset) else None) ≡ Some n → length n ≡ length m
    by_case true g = also (access_at p a.offset) _ m n (λ q h. write_length m q a.align _ n h) g
    by_case false g = absurd (grind (arith, g))

first_length : (o : Option (List Block)) (f : List Block → Option (List Block)) (m n : List Block) → ((k : List Block) → o ≡ Some k → length k ≡ length m) → ((k : List Block) → f k ≡ Some n → length n ≡ length k) → option_and_then f o ≡ Some n → length n ≡ length m
first_length None f m n h g e = absurd (grind (arith, e))
first_length (Some k) f m n h g e = g k e ∙ h k refl

each_length : (p : Pointer) (r : List ℕ) (all : List Access) (m n : List Block) → write_each p r all m ≡ Some n → length n ≡ length m
each_length p r [] m n e = ap length (sym (some_same e))
each_length p r (a ∷ rest) m n e = first_length (write_one p r a m) (write_each p r rest) m n (λ k h. one_length p r a m k h) (λ k h. each_length p r rest k n h) e

mapped_length : {A : Type 0} (o : Option (List Block)) (v a : A) (m n : List Block) → ((k : List Block) → o ≡ Some k → length k ≡ length m) → option_map {U = A × List Block} (λ after. (v, after)) o ≡ Some (a, n) → length n ≡ length m
mapped_length {A = A} None v a m n g e = absurd (grind (arith, e))
mapped_length {A = A} (Some k) v a m n g e = sym (ap (λ (r : A × List Block). length r.1) (some_same e)) ∙ g k refl

called_keeps : (op : NeonOp) (imm : ℕ) (vs : List Value) → KeepsCount (called_in op imm vs)
called_keeps op imm vs m o n e = by_case (may_call (signature_of op) (range_of op) ws) e
  where
    ws : List Value
    ws = with_value (params_of (signature_of op)) vs imm

    applied : (p : Pointer) (all : List Access) (args : Option (List Arg)) (i : ℕ) → option_and_then (row_applied table op i p all m) args ≡ Some (o, n) → length n ≡ length m
    applied p all None i g = absurd (grind (arith, g))
    applied p all (Some args) i g =
        mapped_length (write_each p (bytes_of (eval_of op args i)) (filter (λ a. a.write) all) m) (given (signature_of op).result (eval_of op args i)) o m n
        (λ k h. each_length p (bytes_of (eval_of op args i)) (filter (λ a. a.write) all) m k h) g

    by_case : (b : Bool) → (if b then row_made table op ws m else None) ≡ Some (o, n) → length n ≡ length m
    by_case true g =
        applied (pointer_among ws) (first_accesses (access_of op (arguments (params_of (signature_of op)) ws) (immediate (params_of (signature_of op)) ws)) (accesses_of op))
        (with_bytes_read (signature_of op) m (pointer_among ws) (first_accesses (access_of op (arguments (params_of (signature_of op)) ws) (immediate (params_of (signature_of op)) ws)) (accesses_of op)) (arguments (params_of (signature_of op)) ws))
        (immediate (params_of (signature_of op)) ws) g
    by_case false g = absurd (grind (arith, g))

set_keeps : (v w : Value) → KeepsCount (byte_set v w)
set_keeps (Value.At p) w = λ m a n e.
    mapped_length (stored_at (CType.Int int.UChar) p w m) w a m n
    (λ k h. also (encoded (CType.Int int.UChar) w) (λ bytes. after_write m p (length bytes) bytes) m k (λ bytes g. write_length m p (length bytes) bytes k g) h) e
set_keeps _ w = λ m a n e. absurd (grind (arith, e))

branch_keeps : (b : Bool) (p q : Acts Value) → KeepsCount p → KeepsCount q → KeepsCount {A = Value} (λ m. if b then p m else q m)
branch_keeps true p q h g = h
branch_keeps false p q h g = g

chosen_keeps : (v : Value) (p q : Acts Value) → KeepsCount p → KeepsCount q → KeepsCount (chosen_in v p q)
chosen_keeps (Value.Int n) p q h g = branch_keeps (is_true n) p q h g
chosen_keeps _ p q h g = λ m a n e. absurd (grind (arith, e))

mutual
  pub value_keeps : (ps : List Value) (ss : List (Option Value)) (t : Term) → KeepsCount (value_in ps ss t)
  value_keeps ps ss (Param n) = just_keeps (slice_get ps n)
  value_keeps ps ss (Step n) = just_keeps (step_value ss n)
  value_keeps ps ss (Const r) = just_keeps (Some (Value.R16 r))
  value_keeps ps ss (Int n) = just_keeps (Some (Value.Int n))
  value_keeps ps ss (Call op all imm) = then_keeps (then_acts (values_in ps ss all) (called_in op imm)) just (then_keeps (values_in ps ss all) (called_in op imm) (values_keep ps ss all) (λ vs. called_keeps op imm vs)) (λ o. just_keeps o)
  value_keeps ps ss (PairOf a b) = then_keeps (value_in ps ss a) (λ v. then_acts (value_in ps ss b) (λ w. just (paired v w))) (value_keeps ps ss a) (λ v. then_keeps (value_in ps ss b) (λ w. just (paired v w)) (value_keeps ps ss b) (λ w. just_keeps (paired v w)))
  value_keeps ps ss (Half a k) = then_keeps (value_in ps ss a) (λ v. just (halved k v)) (value_keeps ps ss a) (λ v. just_keeps (halved k v))
  value_keeps ps ss (Scalar o a b) = then_keeps (value_in ps ss a) (λ v. then_acts (value_in ps ss b) (λ w. just (operated o v w))) (value_keeps ps ss a) (λ v. then_keeps (value_in ps ss b) (λ w. just (operated o v w)) (value_keeps ps ss b) (λ w. just_keeps (operated o v w)))
  value_keeps ps ss (Convert t a) = then_keeps (value_in ps ss a) (λ v. just (turned t v)) (value_keeps ps ss a) (λ v. just_keeps (turned t v))
  value_keeps ps ss (Choice c a b) = then_keeps (value_in ps ss c) (λ v. chosen_in v (value_in ps ss a) (value_in ps ss b)) (value_keeps ps ss c) (λ v. chosen_keeps v (value_in ps ss a) (value_in ps ss b) (value_keeps ps ss a) (value_keeps ps ss b))
  value_keeps ps ss (Shifted a b) = then_keeps (value_in ps ss a) (λ v. then_acts (value_in ps ss b) (λ w. looks (shifted v w))) (value_keeps ps ss a) (λ v. then_keeps (value_in ps ss b) (λ w. looks (shifted v w)) (value_keeps ps ss b) (λ w. looks_keep (shifted v w)))
  value_keeps ps ss (ByteAt a) = then_keeps (value_in ps ss a) (λ v. looks (byte_at v)) (value_keeps ps ss a) (λ v. looks_keep (byte_at v))
  value_keeps ps ss (SetByte a b) = then_keeps (value_in ps ss a) (λ v. then_acts (value_in ps ss b) (byte_set v)) (value_keeps ps ss a) (λ v. then_keeps (value_in ps ss b) (byte_set v) (value_keeps ps ss b) (λ w. set_keeps v w))

  pub values_keep : (ps : List Value) (ss : List (Option Value)) (all : Terms) → KeepsCount (values_in ps ss all)
  values_keep ps ss NoTerms = just_keeps (Some [])
  values_keep ps ss (More t rest) = then_keeps (value_in ps ss t) (λ v. then_acts (values_in ps ss rest) (λ vs. just (Some (v ∷ vs)))) (value_keeps ps ss t) (λ v. then_keeps (values_in ps ss rest) (λ vs. just (Some (v ∷ vs))) (values_keep ps ss rest) (λ vs. just_keeps (Some (v ∷ vs))))

storing_keeps : (ps : List Value) (ss : List (Option Value)) (t : Term) → KeepsCount (storing_in ps ss t)
storing_keeps ps ss (Call op all imm) =
    then_keeps (then_acts (values_in ps ss all) (called_in op imm)) (λ o. just (Some None)) (then_keeps (values_in ps ss all) (called_in op imm) (values_keep ps ss all) (λ vs. called_keeps op imm vs)) (λ o. just_keeps (Some None))
storing_keeps ps ss _ = λ m a n e. absurd (grind (arith, e))

pick_keeps : (b : Bool) (p q : Acts (Option Value)) → KeepsCount p → KeepsCount q → KeepsCount (if b then p else q)
pick_keeps true p q h g = h
pick_keeps false p q h g = g

step_keeps : (ps : List Value) (ss : List (Option Value)) (t : Term) → KeepsCount (step_in ps ss t)
step_keeps ps ss t =
    pick_keeps (is_void t) (storing_in ps ss t) (then_acts (value_in ps ss t) (λ v. just (Some (Some v)))) (storing_keeps ps ss t)
    (then_keeps (value_in ps ss t) (λ v. just (Some (Some v))) (value_keeps ps ss t) (λ v. just_keeps (Some (Some v))))

pub steps_keep : (ps : List Value) (ss : List (Option Value)) (all : List Term) → KeepsCount (steps_in ps ss all)
steps_keep ps ss [] = just_keeps (Some ss)
steps_keep ps ss (t ∷ rest) = then_keeps (step_in ps ss t) (λ o. steps_in ps (ss ++ o ∷ []) rest) (step_keeps ps ss t) (λ o. steps_keep ps (ss ++ o ∷ []) rest)

result_keeps : (ps : List Value) (r : Option Term) (ss : List (Option Value)) → KeepsCount (result_in ps r ss)
result_keeps ps None ss = just_keeps (Some None)
result_keeps ps (Some t) ss = then_keeps (value_in ps ss t) (λ v. just (Some (Some v))) (value_keeps ps ss t) (λ v. just_keeps (Some (Some v)))

pub sequence_keeps : (s : Sequence) (ps : List Value) → KeepsCount (sequence_in s ps)
sequence_keeps s ps = then_keeps (steps_in ps [] s.steps) (result_in ps s.result) (steps_keep ps [] s.steps) (λ ss. result_keeps ps s.result ss)
