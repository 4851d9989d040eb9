-- A term that has a value without memory does nothing to memory but give its value.
use Rattle.std.proofs.Common.{arith, ◌≡◌, List, [], ◌∷◌, ◌++◌, Option, Some, None, refl, ap, true, false, Bool}
use Rattle.std.specs.Prelude.{option_map, if◌then◌else◌, ◌&&◌}
use Rattle.std.specs.Option.{option_and_then}
use Rattle.const_imm.specs.Constant.{is_true}
use Rattle.lane_core.specs.declared.table.Arg.{Arg}
use Rattle.lane_core.specs.declared.table.ParamKind.{ParamKind}
use Rattle.lane_core.specs.declared.table.ParamKind.TheVariants as kind
use Rattle.lane_core.specs.Table.{params_of}
use Rattle.c_tree.specs.declared.types.CType.{CType}
use Rattle.c_memory.specs.declared.blocks.Block.{Block}
use Rattle.c_memory.specs.declared.value.Value.{Value}
use Rattle.c_memory.specs.MeaningRows.{given}
use Rattle.neon_table.specs.Rows.{signature_of, eval_of}
use Rattle.seq_core.specs.Rows.{is_without_memory, is_nothing}
use Rattle.seq_core.specs.Terms.{Term, Terms, Param, Step, Const, Int, Call, PairOf, Half, Scalar, Convert, Choice, Shifted, ByteAt, SetByte, NoTerms, More, Sequence}
use Rattle.seq_core.specs.Values.{fits_operands, placed, called, paired, halved, operated, turned, chosen, value_of, values_of, steps_from, result_over, sequence_value}
use Rattle.seq_core.specs.Actions.{Acts, just, chosen_in, value_in, values_in, is_void, step_in, steps_in, result_in, sequence_in}
use Rattle.seq_core.specs.Formed.{type_of, IsFormed, AreFormed, IsResult, FormedFrom, WellFormed}
use Rattle.seq_core.proofs.RowCalls.{row_gives}

-- what a bind that gives a value is made of
pub bound : {A B : Type 0} (o : Option A) (f : A → Option B) (v : B) → option_and_then f o ≡ Some v → (a : A) × (o ≡ Some a) × (f a ≡ Some v)
bound (Some a) f v h = (a, refl, h)
bound None f v h = absurd (grind (arith, h))

pub mapped : {A B : Type 0} (o : Option A) (f : A → B) (v : B) → option_map f o ≡ Some v → (a : A) × (o ≡ Some a) × (f a ≡ v)
mapped (Some a) f v h = (a, refl, cc)
mapped None f v h = absurd (grind (arith, h))

branch_gives : (b : Bool) (x y : Option Value) (p q : Acts Value) (v : Value) (m : List Block) → (x ≡ Some v → p m ≡ Some (v, m)) → (y ≡ Some v → q m ≡ Some (v, m)) → (if b then x else y) ≡ Some v → (if b then p m else q m) ≡ Some (v, m)
branch_gives true x y p q v m g k h = g h
branch_gives false x y p q v m g k h = k h

choice_gives : (w : Value) (x y : Option Value) (p q : Acts Value) (v : Value) (m : List Block) → (x ≡ Some v → p m ≡ Some (v, m)) → (y ≡ Some v → q m ≡ Some (v, m)) → chosen w x y ≡ Some v → chosen_in w p q m ≡ Some (v, m)
choice_gives (Value.Int n) x y p q v m g k h = branch_gives (is_true n) x y p q v m g k h
choice_gives _ x y p q v m g k h = absurd (grind (arith, h))

mutual
  pub pure_value : (ts us : List CType) (ps : List Value) (ss : List (Option Value)) (t : Term) → IsFormed ts us t → (v : Value) → value_of ps ss t ≡ Some v → (m : List Block) → value_in ps ss t m ≡ Some (v, m)
  pure_value ts us ps ss (Param n) f v h m = ap (λ o. just o m) h
  pure_value ts us ps ss (Step n) f v h m = ap (λ o. just o m) h
  pure_value ts us ps ss (Const r) f v h m = ap (λ o. just o m) h
  pure_value ts us ps ss (Int n) f v h m = ap (λ o. just o m) h
  pure_value ts us ps ss (Call op all imm) f v h m =
      let b = bound (values_of ps ss all) (called op imm) v h in
      rw (pure_values ts us ps ss all f.2 b.0 b.1 m, row_gives op imm b.0 v m f.1 b.2) refl
  pure_value ts us ps ss (PairOf a e) f v h m =
      let b = bound (value_of ps ss a) (λ x. option_and_then (paired x) (value_of ps ss e)) v h in
      let d = bound (value_of ps ss e) (paired b.0) v b.2 in
      rw (pure_value ts us ps ss a f.2 b.0 b.1 m, pure_value ts us ps ss e f.3 d.0 d.1 m, d.2) refl
  pure_value ts us ps ss (Half a k) f v h m =
      let b = bound (value_of ps ss a) (halved k) v h in
      rw (pure_value ts us ps ss a f.2 b.0 b.1 m, b.2) refl
  pure_value ts us ps ss (Scalar o a e) f v h m =
      let b = bound (value_of ps ss a) (λ x. option_and_then (operated o x) (value_of ps ss e)) v h in
      let d = bound (value_of ps ss e) (operated o b.0) v b.2 in
      rw (pure_value ts us ps ss a f.2 b.0 b.1 m, pure_value ts us ps ss e f.3 d.0 d.1 m, d.2) refl
  pure_value ts us ps ss (Convert t a) f v h m =
      let b = bound (value_of ps ss a) (turned t) v h in
      rw (pure_value ts us ps ss a f.1 b.0 b.1 m, b.2) refl
  pure_value ts us ps ss (Choice c a e) f v h m =
      let b = bound (value_of ps ss c) (λ x. chosen x (value_of ps ss a) (value_of ps ss e)) v h in
      rw (pure_value ts us ps ss c f.3 b.0 b.1 m)
      (choice_gives b.0 (value_of ps ss a) (value_of ps ss e) (value_in ps ss a) (value_in ps ss e) v m (λ g. pure_value ts us ps ss a f.4 v g m) (λ g. pure_value ts us ps ss e f.5 v g m) b.2)
  pure_value ts us ps ss (Shifted a e) f v h m = absurd (grind (arith, h))
  pure_value ts us ps ss (ByteAt a) f v h m = absurd (grind (arith, h))
  pure_value ts us ps ss (SetByte a e) f v h m = absurd (grind (arith, h))

  pub pure_values : (ts us : List CType) (ps : List Value) (ss : List (Option Value)) (all : Terms) → AreFormed ts us all → (vs : List Value) → values_of ps ss all ≡ Some vs → (m : List Block) → values_in ps ss all m ≡ Some (vs, m)
  pure_values ts us ps ss NoTerms f vs h m = ap (λ o. just o m) h
  pure_values ts us ps ss (More t rest) f vs h m =
      let b = bound (value_of ps ss t) (λ v. option_map (λ ws. v ∷ ws) (values_of ps ss rest)) vs h in
      let d = mapped (values_of ps ss rest) (λ ws. b.0 ∷ ws) vs b.2 in
      rw (pure_value ts us ps ss t f.0 b.0 b.1 m, pure_values ts us ps ss rest f.1 d.0 d.1 m) (ap (λ ws. Some (ws, m)) d.2)

-- a call of a storing row has no value
given_nothing : (k : ParamKind) (a : Arg) (v : Value) → is_nothing k ≡ true → given k a ≡ Some v → ⊥
given_nothing kind.Nothing a v e h = grind (arith, h)
given_nothing _ a v e h = grind (arith, e)

storing_none : (b : Bool) (k : ParamKind) (a : Arg) (v : Value) → is_nothing k ≡ true → (if b then given k a else None) ≡ Some v → ⊥
storing_none true k a v e h = given_nothing k a v e h
storing_none false k a v e h = grind (arith, h)

void_none : (ps : List Value) (ss : List (Option Value)) (t : Term) (v : Value) → is_void t ≡ true → value_of ps ss t ≡ Some v → ⊥
void_none ps ss (Call op all imm) v e h =
    let b = bound (values_of ps ss all) (called op imm) v h in
    let ks = params_of (signature_of op) in
    storing_none (is_without_memory op && fits_operands ks b.0) (signature_of op).result (eval_of op (placed ks b.0) imm) v e b.2
void_none ps ss _ v e h = grind (arith, e)

pub step_gives : (ts us : List CType) (ps : List Value) (ss : List (Option Value)) (t : Term) → IsFormed ts us t → (v : Value) → value_of ps ss t ≡ Some v → (m : List Block) → step_in ps ss t m ≡ Some (Some v, m)
step_gives ts us ps ss t f v h m = by_case (is_void t) refl
  where
    by_case : (b : Bool) → is_void t ≡ b → step_in ps ss t m ≡ Some (Some v, m)
    by_case true e = absurd (void_none ps ss t v e h)
    by_case false e = rw (e, pure_value ts us ps ss t f v h m) refl

pub steps_give : (ts us : List CType) (ps : List Value) (ss : List (Option Value)) (all : List Term) (r : Option Term) → FormedFrom ts us all r → (zs : List (Option Value)) → steps_from ps ss all ≡ Some zs → (m : List Block)
    → (ws : List CType) × IsResult ts ws r × (steps_in ps ss all m ≡ Some (zs, m))
steps_give ts us ps ss [] r f zs h m = (us, f, ap (λ (o : Option (List (Option Value))). just o m) h)
steps_give ts us ps ss (t ∷ rest) r f zs h m =
    let b = bound (value_of ps ss t) (λ v. steps_from ps (ss ++ Some v ∷ []) rest) zs h in
    let d = steps_give ts (us ++ type_of ts us t ∷ []) ps (ss ++ Some b.0 ∷ []) rest r f.1 zs b.2 m in
    (d.0, d.1, rw (step_gives ts us ps ss t f.0 b.0 b.1 m) d.2)

result_gives : (ts us : List CType) (ps : List Value) (ss : List (Option Value)) (r : Option Term) → IsResult ts us r → (o : Option Value) → result_over ps r ss ≡ Some o → (m : List Block) → result_in ps r ss m ≡ Some (o, m)
result_gives ts us ps ss None f o h m = ap (λ (x : Option (Option Value)). just x m) h
result_gives ts us ps ss (Some t) f o h m =
    let d = mapped (value_of ps ss t) (λ v. Some v) o h in
    rw (pure_value ts us ps ss t f.1 d.0 d.1 m) (ap (λ (x : Option Value). Some (x, m)) d.2)

-- a sequence that has a value without memory does nothing to memory but give it
pub sequence_gives : (s : Sequence) → WellFormed s → (ps : List Value) (o : Option Value) → sequence_value s ps ≡ Some o → (m : List Block) → sequence_in s ps m ≡ Some (o, m)
sequence_gives s f ps o h m =
    let b = bound (steps_from ps [] s.steps) (result_over ps s.result) o h in
    let d = steps_give s.params [] ps [] s.steps s.result f.1 b.0 b.1 m in
    rw d.2 (result_gives s.params d.0 ps b.0 s.result d.1 o b.2 m)
