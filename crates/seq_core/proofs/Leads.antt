-- What is written for a term does what the term does: the value and the memory.
use Rattle.std.proofs.Common.{◌≡◌, ℕ, zero, suc, List, [], ◌∷◌, Bool, true, false, Option, Some, None, refl, ap, subst, ◌∙◌, arith, get_or}
use Rattle.std.specs.Prelude.{option_map, slice_get, if◌then◌else◌}
use Rattle.std.specs.Option.{option_and_then}
use Rattle.std.specs.Str.{bytes_eq}
use Rattle.lane_core.specs.declared.number.IntType.{IntType}
use Rattle.lane_core.specs.declared.number.BinOp.{BinOp}
use Rattle.lane_core.specs.declared.table.ParamKind.{ParamKind}
use Rattle.lane_core.specs.declared.table.ParamKind.TheVariants as kind
use Rattle.lane_core.specs.Table.{params_of}
use Rattle.const_imm.specs.Constant.{is_true}
use Rattle.c_text.specs.declared.tokens.Place.{Place}
use Rattle.c_tree.specs.declared.types.CType.{CType}
use Rattle.c_tree.specs.Tree as tree
use Rattle.c_tree.specs.Tree.{Tree, Trees, NoTrees, More, Node}
use Rattle.c_memory.specs.declared.blocks.Block.{Block}
use Rattle.c_memory.specs.declared.value.Value.{Value}
use Rattle.c_memory.specs.MeaningState.{State, Done}
use Rattle.c_memory.specs.MeaningValues.{operate}
use Rattle.c_memory.specs.MeaningObjects.{stored_at}
use Rattle.c_memory.specs.MeaningRows.{row_done}
use Rattle.c_memory.specs.Meaning as meaning
use Rattle.c_memory.specs.Meaning.{Calls, expression, values, choose, name_in}
use Rattle.neon_table.specs.declared.NeonOp.{NeonOp}
use Rattle.neon_table.specs.Rows.{signature_of}
use Rattle.seq_core.specs.Rows.{AreRows}
use Rattle.seq_core.specs.Terms as term
use Rattle.seq_core.specs.Terms.{Term, Terms}
use Rattle.seq_core.specs.Values.{step_value, operated, turned, paired, halved}
use Rattle.seq_core.specs.Actions.{Acts, then_acts, just, looks, with_value, called_in, shifted, byte_at, byte_set, chosen_in, value_in, values_in}
use Rattle.seq_core.specs.Formed.{vector, byte, IsFormed, AreFormed}
use Rattle.seq_core.specs.Written.{Pen, nothing, call, constant, with_constant, cast, chosen, moved, pointed, set, written, all_written}
use Rattle.seq_core.proofs.Gives.{at, LeadsIt}
use Rattle.seq_core.proofs.Constants.{constant_leads}

-- what is known of rows, parameters and steps, at each memory; halves of names are read by another path of the meaning
pub record Read (p : Pen) (c : Calls) (s : State) (ps : List Value) (ss : List (Option Value)) : Type 0 where
  pub rows : AreRows c
  pub params : (k : ℕ) (v : Value) (m : List Block) → slice_get ps k ≡ Some v → LeadsIt c s (get_or p.params k (nothing p.place)) m v m
  pub steps : (k : ℕ) (v : Value) (m : List Block) → step_value ss k ≡ Some v → LeadsIt c s (get_or p.steps k (nothing p.place)) m v m
  pub param_halves : (k j : ℕ) (v w : Value) (m : List Block) → slice_get ps k ≡ Some v → halved j v ≡ Some w → LeadsIt c s (Node p.place vector (tree.Half (get_or p.params k (nothing p.place)) j)) m w m
  pub step_halves : (k j : ℕ) (v w : Value) (m : List Block) → step_value ss k ≡ Some v → halved j v ≡ Some w → LeadsIt c s (Node p.place vector (tree.Half (get_or p.steps k (nothing p.place)) j)) m w m

pub some_same : {A : Type 0} {x y : A} → Some x ≡ Some y → x ≡ y
some_same e = cc

pub acted : {A B : Type 0} (p : Acts A) (f : A → Acts B) (m : List Block) (v : B) (n : List Block) → then_acts p f m ≡ Some (v, n) → (a : A) × (k : List Block) × (p m ≡ Some (a, k)) × (f a k ≡ Some (v, n))
acted {A = A} p f m v n h = by_result (p m) refl h
  where
    by_result : (o : Option (A × List Block)) → p m ≡ o → option_and_then (λ r. f r.0 r.1) o ≡ Some (v, n) → (a : A) × (k : List Block) × (p m ≡ Some (a, k)) × (f a k ≡ Some (v, n))
    by_result None e g = absurd (grind (arith, g))
    by_result (Some r) e g = (r.0, r.1, e, g)

pub just_is : {A : Type 0} (o : Option A) (m : List Block) (v : A) (n : List Block) → just o m ≡ Some (v, n) → (o ≡ Some v) × (m ≡ n)
just_is {A = A} None m v n h = absurd (grind (arith, h))
just_is {A = A} (Some a) m v n h = let e = some_same h in (ap (λ (r : A × List Block). Some r.0) e, ap (λ (r : A × List Block). r.1) e)

-- ---- operands of a call

abbrev pub AllLead : Pen → Calls → State → Terms → List Block → List Value → List Block → Type 0
AllLead p c s term.NoTerms m [] n = m ≡ n
AllLead p c s (term.More a rest) m (v ∷ vs) n = (k : List Block) × LeadsIt c s (written p a) m v k × AllLead p c s rest k vs n
AllLead p c s _ m _ n = ⊥

values_lead : (p : Pen) (c : Calls) (s : State) (all : Terms) (vs : List Value) (m n : List Block) → AllLead p c s all m vs n → values (all_written p all) c (at s m) ≡ Done vs (at s n)
values_lead p c s term.NoTerms [] m n h = ap (λ x. Done [] (at s x)) h
values_lead p c s term.NoTerms (v ∷ vs) m n h = absurd h
values_lead p c s (term.More a rest) [] m n h = absurd h
values_lead p c s (term.More a rest) (v ∷ vs) m n h = rw (h.1, values_lead p c s rest vs h.0 n h.2) refl

pub placed_lead : (p : Pen) (c : Calls) (s : State) (ks : List ParamKind) (all : Terms) (vs : List Value) (imm : ℕ) (m n : List Block) → AllLead p c s all m vs n
    → values (with_constant p.place ks (all_written p all) imm) c (at s m) ≡ Done (with_value ks vs imm) (at s n)
placed_lead p c s [] all vs imm m n h = values_lead p c s all vs m n h
placed_lead p c s (kind.Immediate ∷ ks) all vs imm m n h = rw (placed_lead p c s ks all vs imm m n h) refl
placed_lead p c s (k ∷ ks) term.NoTerms [] imm m n h = ap (λ x. Done [] (at s x)) h
placed_lead p c s (k ∷ ks) term.NoTerms (v ∷ vs) imm m n h = absurd h
placed_lead p c s (k ∷ ks) (term.More a rest) (v ∷ vs) imm m n h = rw (h.1, placed_lead p c s ks rest vs imm h.0 n h.2) refl
placed_lead p c s (k ∷ ks) (term.More a rest) [] imm m n h = absurd h

-- the call of a row, whether it has a value or not
pub row_leads : (p : Pen) (c : Calls) (s : State) → AreRows c → (op : NeonOp) (all : Terms) (imm : ℕ) (vs : List Value) (m k : List Block) (o : Option Value) (n : List Block) → AllLead p c s all m vs k → called_in op imm vs k ≡ Some (o, n)
    → expression (call p.place op (with_constant p.place (params_of (signature_of op)) (all_written p all) imm)) c (at s m) ≡ Done o (at s n)
row_leads p c s rows op all imm vs m k o n h e =
    rw (placed_lead p c s (params_of (signature_of op)) all vs imm m k h) (rows op (with_value (params_of (signature_of op)) vs imm) (at s k) ∙ ap (row_done (at s k)) e)

-- ---- one lemma a kind of term, by cases on the values

pub binary_given : (memory : List Block) (o : BinOp) (t u : CType) (v w x : Value) → operated o v w ≡ Some x → operate memory o t u v w ≡ Some x
binary_given memory o t u (Value.Int m) (Value.Int n) x h = h
binary_given memory o t u _ _ x h = absurd (grind (arith, h))

pair_leads : (c : Calls) (s : State) (a d : Tree) (place : Place) (m k n : List Block) (v w x : Value) → LeadsIt c s a m v k → LeadsIt c s d k w n → paired v w ≡ Some x → LeadsIt c s (Node place CType.Pair (tree.PairOf a d)) m x n
pair_leads c s a d place m k n (Value.R16 q) (Value.R16 r) x g i h = rw (g, i) (ap (λ y. Done (Some y) (at s n)) (some_same h))
pair_leads c s a d place m k n _ _ x g i h = absurd (grind (arith, h))

half_leads : (c : Calls) (s : State) (a : Tree) (place : Place) (m n : List Block) (j : ℕ) (v x : Value) → name_in a ≡ None → LeadsIt c s a m v n → halved j v ≡ Some x → LeadsIt c s (Node place vector (tree.Half a j)) m x n
half_leads c s a place m n zero (Value.R32 r) x e g h = rw (e, g) (ap (λ y. Done (Some y) (at s n)) (some_same h))
half_leads c s a place m n (suc j) (Value.R32 r) x e g h = rw (e, g) (ap (λ y. Done (Some y) (at s n)) (some_same h))
half_leads c s a place m n zero _ x e g h = absurd (grind (arith, h))
half_leads c s a place m n (suc j) _ x e g h = absurd (grind (arith, h))

cast_leads : (c : Calls) (s : State) (a : Tree) (t : IntType) (place : Place) (m n : List Block) (v x : Value) → LeadsIt c s a m v n → turned t v ≡ Some x → LeadsIt c s (cast place (CType.Int t) a) m x n
cast_leads c s a t place m n (Value.Int k) x g h = rw g (ap (λ y. Done (Some y) (at s n)) (some_same h))
cast_leads c s a t place m n _ x g h = absurd (grind (arith, h))

branch_leads : (c : Calls) (s : State) (a e : Tree) (pa pe : Acts Value) (b : Bool) (m n : List Block) (v : Value) → (pa m ≡ Some (v, n) → LeadsIt c s a m v n) → (pe m ≡ Some (v, n) → LeadsIt c s e m v n)
    → (if b then pa m else pe m) ≡ Some (v, n) → choose b (expression a c) (expression e c) (at s m) ≡ Done (Some v) (at s n)
branch_leads c s a e pa pe true m n v g k h = g h
branch_leads c s a e pa pe false m n v g k h = k h

choice_leads : (c : Calls) (s : State) (d a e : Tree) (pa pe : Acts Value) (place : Place) (m k n : List Block) (w v : Value) → LeadsIt c s d m w k → (pa k ≡ Some (v, n) → LeadsIt c s a k v n) → (pe k ≡ Some (v, n) → LeadsIt c s e k v n)
    → chosen_in w pa pe k ≡ Some (v, n) → LeadsIt c s (chosen place d a e) m v n
choice_leads c s d a e pa pe place m k n (Value.Int i) v q g j h = rw q (branch_leads c s a e pa pe (is_true i) k n v g j h)
choice_leads c s d a e pa pe place m k n _ v q g j h = absurd (grind (arith, h))

shift_leads : (c : Calls) (s : State) (a d : Tree) (place : Place) (m k n : List Block) (v w x : Value) → LeadsIt c s a m v k → LeadsIt c s d k w n → shifted v w n ≡ Some x → LeadsIt c s (moved place a d) m x n
shift_leads c s a d place m k n (Value.At p) (Value.Int i) x g j h = rw (g, j, h) refl
shift_leads c s a d place m k n _ _ x g j h = absurd (grind (arith, h))

byte_leads : (c : Calls) (s : State) (a : Tree) (place : Place) (m n : List Block) (v x : Value) → LeadsIt c s a m v n → byte_at v n ≡ Some x → LeadsIt c s (pointed place a) m x n
byte_leads c s a place m n (Value.At p) x g h = rw (g, h) refl
byte_leads c s a place m n _ x g h = absurd (grind (arith, h))

stored_is : (o : Option (List Block)) (w x : Value) (n : List Block) → option_map {U = Value × List Block} (λ after. (w, after)) o ≡ Some (x, n) → (o ≡ Some n) × (w ≡ x)
stored_is None w x n h = absurd (grind (arith, h))
stored_is (Some r) w x n h = let e = some_same h in (ap (λ (y : Value × List Block). Some y.1) e, ap (λ (y : Value × List Block). y.0) e)

set_leads : (c : Calls) (s : State) (a d : Tree) (place : Place) (m k l n : List Block) (v w x : Value) → LeadsIt c s a m v k → LeadsIt c s d k w l → byte_set v w l ≡ Some (x, n) → LeadsIt c s (set place a d) m x n
set_leads c s a d place m k l n (Value.At p) w x g j h = let e = stored_is (stored_at byte p w l) w x n h in rw (g, j, e.0) (ap (λ y. Done (Some y) (at s n)) e.1)
set_leads c s a d place m k l n _ w x g j h = absurd (grind (arith, h))

-- ---- terms that are written as no name

unnamed_if : (b : Bool) (e d : Tree) → name_in e ≡ None → name_in d ≡ None → name_in (if b then e else d) ≡ None
unnamed_if true e d h i = h
unnamed_if false e d h i = i

-- half of what a term gives: of a name, or of another expression
half_of : (p : Pen) (c : Calls) (s : State) (ps : List Value) (ss : List (Option Value)) → Read p c s ps ss → (t : Term) (j : ℕ) (m : List Block) (v : Value) (n : List Block) (w : Value) → value_in ps ss t m ≡ Some (v, n) → LeadsIt c s (written p t) m v n → halved j v ≡ Some w
    → LeadsIt c s (Node p.place vector (tree.Half (written p t) j)) m w n
half_of p c s ps ss g (term.Param k) j m v n w h l e = let d = just_is (slice_get ps k) m v n h in g.param_halves k j v w m d.0 e ∙ ap (λ x. Done (Some w) (at s x)) d.1
half_of p c s ps ss g (term.Step k) j m v n w h l e = let d = just_is (step_value ss k) m v n h in g.step_halves k j v w m d.0 e ∙ ap (λ x. Done (Some w) (at s x)) d.1
half_of p c s ps ss g (term.Const r) j m v n w h l e = half_leads c s (constant p.place r) p.place m n j v w (unnamed_if (bytes_eq r _) _ _ refl refl) l e
half_of p c s ps ss g (term.Int k) j m v n w h l e = half_leads c s (written p (term.Int k)) p.place m n j v w refl l e
half_of p c s ps ss g (term.Call op all imm) j m v n w h l e = half_leads c s (written p (term.Call op all imm)) p.place m n j v w refl l e
half_of p c s ps ss g (term.PairOf a b) j m v n w h l e = half_leads c s (written p (term.PairOf a b)) p.place m n j v w refl l e
half_of p c s ps ss g (term.Half a k) j m v n w h l e = half_leads c s (written p (term.Half a k)) p.place m n j v w refl l e
half_of p c s ps ss g (term.Scalar o a b) j m v n w h l e = half_leads c s (written p (term.Scalar o a b)) p.place m n j v w refl l e
half_of p c s ps ss g (term.Convert t a) j m v n w h l e = half_leads c s (written p (term.Convert t a)) p.place m n j v w refl l e
half_of p c s ps ss g (term.Choice d a b) j m v n w h l e = half_leads c s (written p (term.Choice d a b)) p.place m n j v w refl l e
half_of p c s ps ss g (term.Shifted a b) j m v n w h l e = half_leads c s (written p (term.Shifted a b)) p.place m n j v w refl l e
half_of p c s ps ss g (term.ByteAt a) j m v n w h l e = half_leads c s (written p (term.ByteAt a)) p.place m n j v w refl l e
half_of p c s ps ss g (term.SetByte a b) j m v n w h l e = half_leads c s (written p (term.SetByte a b)) p.place m n j v w refl l e

-- ---- the law

mutual
  pub leads : (p : Pen) (c : Calls) (s : State) (ps : List Value) (ss : List (Option Value)) → Read p c s ps ss → (ts us : List CType) (t : Term) → IsFormed ts us t → (m : List Block) (v : Value) (n : List Block) → value_in ps ss t m ≡ Some (v, n) → LeadsIt c s (written p t) m v n
  leads p c s ps ss g ts us (term.Param k) f m v n h = let j = just_is (slice_get ps k) m v n h in g.params k v m j.0 ∙ ap (λ x. Done (Some v) (at s x)) j.1
  leads p c s ps ss g ts us (term.Step k) f m v n h = let j = just_is (step_value ss k) m v n h in g.steps k v m j.0 ∙ ap (λ x. Done (Some v) (at s x)) j.1
  leads p c s ps ss g ts us (term.Const r) f m v n h =
      let j = just_is (Some (Value.R16 r)) m v n h in constant_leads c s p.place g.rows r f m ∙ ap (λ x. Done x (at s m)) j.0 ∙ ap (λ x. Done (Some v) (at s x)) j.1
  leads p c s ps ss g ts us (term.Int k) f m v n h = let j = just_is (Some (Value.Int k)) m v n h in ap (λ x. Done x (at s m)) j.0 ∙ ap (λ x. Done (Some v) (at s x)) j.1
  leads p c s ps ss g ts us (term.Call op all imm) f m v n h =
      let b = acted (then_acts (values_in ps ss all) (called_in op imm)) just m v n h in
      let j = just_is b.0 b.1 v n b.3 in
      let d = acted (values_in ps ss all) (called_in op imm) m b.0 b.1 b.2 in
      row_leads p c s g.rows op all imm d.0 m d.1 b.0 b.1 (all_lead p c s ps ss g ts us all f.2 m d.0 d.1 d.2) d.3 ∙ ap (λ x. Done x (at s b.1)) j.0 ∙ ap (λ x. Done (Some v) (at s x)) j.1
  leads p c s ps ss g ts us (term.PairOf a d) f m v n h =
      let b = acted (value_in ps ss a) (λ x. then_acts (value_in ps ss d) (λ w. just (paired x w))) m v n h in
      let e = acted (value_in ps ss d) (λ w. just (paired b.0 w)) b.1 v n b.3 in
      let j = just_is (paired b.0 e.0) e.1 v n e.3 in
      pair_leads c s (written p a) (written p d) p.place m b.1 e.1 b.0 e.0 v (leads p c s ps ss g ts us a f.2 m b.0 b.1 b.2) (leads p c s ps ss g ts us d f.3 b.1 e.0 e.1 e.2) j.0 ∙ ap (λ x. Done (Some v) (at s x)) j.1
  leads p c s ps ss g ts us (term.Half a k) f m v n h =
      let b = acted (value_in ps ss a) (λ x. just (halved k x)) m v n h in
      let j = just_is (halved k b.0) b.1 v n b.3 in
      half_of p c s ps ss g a k m b.0 b.1 v b.2 (leads p c s ps ss g ts us a f.2 m b.0 b.1 b.2) j.0 ∙ ap (λ x. Done (Some v) (at s x)) j.1
  leads p c s ps ss g ts us (term.Scalar o a d) f m v n h =
      let b = acted (value_in ps ss a) (λ x. then_acts (value_in ps ss d) (λ w. just (operated o x w))) m v n h in
      let e = acted (value_in ps ss d) (λ w. just (operated o b.0 w)) b.1 v n b.3 in
      let j = just_is (operated o b.0 e.0) e.1 v n e.3 in
      rw (leads p c s ps ss g ts us a f.2 m b.0 b.1 b.2, leads p c s ps ss g ts us d f.3 b.1 e.0 e.1 e.2, binary_given e.1 o (meaning.type_of (written p a)) (meaning.type_of (written p d)) b.0 e.0 v j.0) (ap (λ x. Done (Some v) (at s x)) j.1)
  leads p c s ps ss g ts us (term.Convert t a) f m v n h =
      let b = acted (value_in ps ss a) (λ x. just (turned t x)) m v n h in
      let j = just_is (turned t b.0) b.1 v n b.3 in
      cast_leads c s (written p a) t p.place m b.1 b.0 v (leads p c s ps ss g ts us a f.1 m b.0 b.1 b.2) j.0 ∙ ap (λ x. Done (Some v) (at s x)) j.1
  leads p c s ps ss g ts us (term.Choice d a e) f m v n h =
      let b = acted (value_in ps ss d) (λ x. chosen_in x (value_in ps ss a) (value_in ps ss e)) m v n h in
      choice_leads c s (written p d) (written p a) (written p e) (value_in ps ss a) (value_in ps ss e) p.place m b.1 n b.0 v (leads p c s ps ss g ts us d f.3 m b.0 b.1 b.2) (leads p c s ps ss g ts us a f.4 b.1 v n) (leads p c s ps ss g ts us e f.5 b.1 v n) b.3
  leads p c s ps ss g ts us (term.Shifted a d) f m v n h =
      let b = acted (value_in ps ss a) (λ x. then_acts (value_in ps ss d) (λ w. looks (shifted x w))) m v n h in
      let e = acted (value_in ps ss d) (λ w. looks (shifted b.0 w)) b.1 v n b.3 in
      let j = just_is (shifted b.0 e.0 e.1) e.1 v n e.3 in
      shift_leads c s (written p a) (written p d) p.place m b.1 e.1 b.0 e.0 v (leads p c s ps ss g ts us a f.2 m b.0 b.1 b.2) (leads p c s ps ss g ts us d f.3 b.1 e.0 e.1 e.2) j.0
      ∙ ap (λ x. Done (Some v) (at s x)) j.1
  leads p c s ps ss g ts us (term.ByteAt a) f m v n h =
      let b = acted (value_in ps ss a) (λ x. looks (byte_at x)) m v n h in
      let j = just_is (byte_at b.0 b.1) b.1 v n b.3 in
      byte_leads c s (written p a) p.place m b.1 b.0 v (leads p c s ps ss g ts us a f.1 m b.0 b.1 b.2) j.0 ∙ ap (λ x. Done (Some v) (at s x)) j.1
  leads p c s ps ss g ts us (term.SetByte a d) f m v n h =
      let b = acted (value_in ps ss a) (λ x. then_acts (value_in ps ss d) (byte_set x)) m v n h in
      let e = acted (value_in ps ss d) (byte_set b.0) b.1 v n b.3 in
      set_leads c s (written p a) (written p d) p.place m b.1 e.1 n b.0 e.0 v (leads p c s ps ss g ts us a f.2 m b.0 b.1 b.2) (leads p c s ps ss g ts us d f.3 b.1 e.0 e.1 e.2) e.3

  pub all_lead : (p : Pen) (c : Calls) (s : State) (ps : List Value) (ss : List (Option Value)) → Read p c s ps ss → (ts us : List CType) (all : Terms) → AreFormed ts us all → (m : List Block) (vs : List Value) (n : List Block) → values_in ps ss all m ≡ Some (vs, n) → AllLead p c s all m vs n
  all_lead p c s ps ss g ts us term.NoTerms f m [] n h = (just_is (Some []) m [] n h).1
  all_lead p c s ps ss g ts us term.NoTerms f m (v ∷ vs) n h = absurd (grind (arith, h))
  all_lead p c s ps ss g ts us (term.More t rest) f m all n h =
      let b = acted (value_in ps ss t) (λ v. then_acts (values_in ps ss rest) (λ vs. just (Some (v ∷ vs)))) m all n h in
      let e = acted (values_in ps ss rest) (λ vs. just (Some (b.0 ∷ vs))) b.1 all n b.3 in
      let j = just_is (Some (b.0 ∷ e.0)) e.1 all n e.3 in
      subst (λ vs. AllLead p c s (term.More t rest) m vs n) (some_same j.0) (subst (λ k. AllLead p c s (term.More t rest) m (b.0 ∷ e.0) k) j.1 (b.1, leads p c s ps ss g ts us t f.0 m b.0 b.1 b.2, all_lead p c s ps ss g ts us rest f.1 b.1 e.0 e.1 e.2))
