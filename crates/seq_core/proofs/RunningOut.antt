-- In place, where an operand wants more turns than are left: so does the expression.
use Rattle.std.proofs.Common.{◌≡◌, ℕ, ◌++◌, List, [], ◌∷◌, Bool, true, false, Option, Some, None, refl, sym, ap, subst, ◌∙◌, arith, inl, inr, ◌⊎◌}
use Rattle.std.specs.Prelude.{option_map, slice_get, nat_le, length, get_or, if◌then◌else◌}
use Rattle.std.specs.Option.{option_and_then}
use Rattle.std.specs.Str.{bytes_eq}
use Rattle.std.specs.Cmp.Lexicographic.{bytes_decides}
use Rattle.lane_core.specs.declared.table.ParamKind.{ParamKind}
use Rattle.lane_core.specs.declared.table.ParamKind.TheVariants as kind
use Rattle.lane_core.specs.Table.{params_of}
use Rattle.c_text.specs.declared.tokens.Place.{Place}
use Rattle.c_tree.specs.declared.types.CType.{CType}
use Rattle.c_tree.specs.Tree.{Tree, Trees, NoTrees, More}
use Rattle.c_memory.specs.declared.value.Value.{Value}
use Rattle.c_memory.specs.MeaningState.{State, Turns}
use Rattle.c_memory.specs.Meaning.{Calls, expression, values}
use Rattle.neon_table.specs.Rows.{signature_of}
use Rattle.seq_core.specs.Rows.{AreRows}
use Rattle.seq_core.specs.Terms as term
use Rattle.seq_core.specs.Terms.{Term, Terms, Sequence}
use Rattle.seq_core.specs.Values.{called, paired, operated, turned, value_of, values_of, sequence_value}
use Rattle.seq_core.specs.Called.{rows_called}
use Rattle.seq_core.specs.Formed.{IsFormed, AreFormed, WellFormed}
use Rattle.seq_core.specs.Written.{pen, nothing, with_constant, written, all_written}
use Rattle.seq_core.specs.InPlace.{leaves, leaves_of_all, is_straight, are_straight, Runs, RunsOut, is_simple, compounds, numbers_from, stands_alone, in_place, Readable, RunsOutAmong, RunsOutWhereItStood}
use Rattle.seq_core.proofs.Leads.{some_same}
use Rattle.seq_core.proofs.RowCalls.{first_of, second_of}
use Rattle.seq_core.proofs.Pure.{bound, mapped}
use Rattle.seq_core.proofs.InPlaced.{Goes, goes}
use Rattle.seq_core.proofs.InOrder.{AllRead, all_read}

either : {A B C : Type 0} → (A → C) → (B → C) → A ⊎ B → C
either f g (inl a) = f a
either f g (inr b) = g b

-- one of these does, and those before it have led there
abbrev AllOut : Calls → State → Trees → Type 0
AllOut c s NoTrees = ⊥
AllOut c s (More a rest) = (expression a c s ≡ Turns) ⊎ ((u : State) × (v : Value) × Goes c s a v u × AllOut c u rest)

values_out : (c : Calls) (s : State) (all : Trees) → AllOut c s all → values all c s ≡ Turns
values_out c s NoTrees h = absurd h
values_out c s (More a rest) (inl h) = rw h refl
values_out c s (More a rest) (inr h) = rw (h.2, values_out c h.0 rest h.3) refl

placed_out : (c : Calls) (s : State) (place : Place) (ks : List ParamKind) (all : Trees) (imm : ℕ) → AllOut c s all → AllOut c s (with_constant place ks all imm)
placed_out c s place [] all imm h = h
placed_out c s place (kind.Immediate ∷ ks) all imm h = inr (s, Value.Int _, refl, placed_out c s place ks all imm h)
placed_out c s place (k ∷ ks) NoTrees imm h = absurd h
placed_out c s place (k ∷ ks) (More a rest) imm (inl h) = inl h
placed_out c s place (k ∷ ks) (More a rest) imm (inr h) = inr (h.0, h.1, h.2, placed_out c h.0 place ks rest imm h.3)

-- the first operands do, or those behind them
abbrev Cut : Calls → Place → List Tree → List Value → State → List ℕ → List ℕ → Type 0
Cut c place params ps s ns ms = RunsOut c place params ps s ns ⊎ ((u : State) × Runs c place params ps s ns u × RunsOut c place params ps u ms)

cut_behind : (c : Calls) (place : Place) (params : List Tree) (ps : List Value) (s w : State) (n : ℕ) (v : Value) (ns ms : List ℕ) → slice_get ps n ≡ Some v → Goes c s (get_or params n (nothing place)) v w
    → Cut c place params ps w ns ms → Cut c place params ps s (n ∷ ns) ms
cut_behind c place params ps s w n v ns ms g e (inl h) = inl (inr (w, v, g, e, h))
cut_behind c place params ps s w n v ns ms g e (inr h) = inr (h.0, (w, v, g, e, h.1), h.2)

cut : (c : Calls) (place : Place) (params : List Tree) (ps : List Value) (s : State) (ns ms : List ℕ) → RunsOut c place params ps s (ns ++ ms) → Cut c place params ps s ns ms
cut c place params ps s [] ms h = inr (s, refl, h)
cut c place params ps s (n ∷ ns) ms (inl h) = inl (inl h)
cut c place params ps s (n ∷ ns) ms (inr h) = cut_behind c place params ps s h.0 n h.1 ns ms h.2 h.3 (cut c place params ps h.0 ns ms h.4)

one_out : (c : Calls) (place : Place) (params : List Tree) (ps : List Value) (s : State) (n : ℕ) → RunsOut c place params ps s (n ∷ []) → expression (get_or params n (nothing place)) c s ≡ Turns
one_out c place params ps s n (inl h) = h
one_out c place params ps s n (inr h) = absurd h.4

mutual
  runs_out : (place : Place) (params : List Tree) (steps : List Tree) (c : Calls) → AreRows c → (ts : List CType) (ps : List Value) (e : Term) → IsFormed ts [] e → is_straight e ≡ true → (s : State) → RunsOut c place params ps s (leaves e) → (v : Value) → value_of ps [] e ≡ Some v
      → expression (written (pen place params steps) e) c s ≡ Turns
  runs_out place params steps c rows ts ps (term.Param n) f i s h v d = one_out c place params ps s n h
  runs_out place params steps c rows ts ps (term.Const r) f i s h v d = absurd h
  runs_out place params steps c rows ts ps (term.Int n) f i s h v d = absurd h
  runs_out place params steps c rows ts ps (term.Call op all imm) f i s h v d =
      let b = bound (values_of ps [] all) (called op imm) v d in
      rw (values_out c s (with_constant place (params_of (signature_of op)) (all_written (pen place params steps) all) imm) (placed_out c s place (params_of (signature_of op)) (all_written (pen place params steps) all) imm (all_out place params steps c rows ts ps all f.2 i s h b.0 b.1))) refl
  runs_out place params steps c rows ts ps (term.PairOf a e) f i s h v d =
      let b = bound (value_of ps [] a) (λ x. option_and_then (paired x) (value_of ps [] e)) v d in
      let k = bound (value_of ps [] e) (paired b.0) v b.2 in
      either (λ q. rw (runs_out place params steps c rows ts ps a f.2 (first_of (is_straight a) (is_straight e) i) s q b.0 b.1) refl)
      (λ r. rw (goes place params steps c rows ts ps a f.2 (first_of (is_straight a) (is_straight e) i) s r.0 r.1 b.0 b.1, runs_out place params steps c rows ts ps e f.3 (second_of (is_straight a) (is_straight e) i) r.0 r.2 k.0 k.1) refl)
      (cut c place params ps s (leaves a) (leaves e) h)
  runs_out place params steps c rows ts ps (term.Scalar o a e) f i s h v d =
      let b = bound (value_of ps [] a) (λ x. option_and_then (operated o x) (value_of ps [] e)) v d in
      let k = bound (value_of ps [] e) (operated o b.0) v b.2 in
      either (λ q. rw (runs_out place params steps c rows ts ps a f.2 (first_of (is_straight a) (is_straight e) i) s q b.0 b.1) refl)
      (λ r. rw (goes place params steps c rows ts ps a f.2 (first_of (is_straight a) (is_straight e) i) s r.0 r.1 b.0 b.1, runs_out place params steps c rows ts ps e f.3 (second_of (is_straight a) (is_straight e) i) r.0 r.2 k.0 k.1) refl)
      (cut c place params ps s (leaves a) (leaves e) h)
  runs_out place params steps c rows ts ps (term.Convert t a) f i s h v d =
      let b = bound (value_of ps [] a) (turned t) v d in
      rw (runs_out place params steps c rows ts ps a f.1 i s h b.0 b.1) refl
  runs_out place params steps c rows ts ps _ f i s h v d = absurd (grind (arith, i))

  all_out : (place : Place) (params : List Tree) (steps : List Tree) (c : Calls) → AreRows c → (ts : List CType) (ps : List Value) (all : Terms) → AreFormed ts [] all → are_straight all ≡ true → (s : State) → RunsOut c place params ps s (leaves_of_all all)
      → (vs : List Value) → values_of ps [] all ≡ Some vs → AllOut c s (all_written (pen place params steps) all)
  all_out place params steps c rows ts ps term.NoTerms f i s h vs d = absurd h
  all_out place params steps c rows ts ps (term.More e rest) f i s h vs d =
      let b = bound (value_of ps [] e) (λ v. option_map (λ ws. v ∷ ws) (values_of ps [] rest)) vs d in
      let k = mapped (values_of ps [] rest) (λ ws. b.0 ∷ ws) vs b.2 in
      either (λ q. inl (runs_out place params steps c rows ts ps e f.0 (first_of (is_straight e) (are_straight rest) i) s q b.0 b.1))
      (λ r. inr (r.0, b.0, goes place params steps c rows ts ps e f.0 (first_of (is_straight e) (are_straight rest) i) s r.0 r.1 b.0 b.1, all_out place params steps c rows ts ps rest f.1 (second_of (is_straight e) (are_straight rest) i) r.0 r.2 k.0 k.1))
      (cut c place params ps s (leaves e) (leaves_of_all rest) h)

readable_first : (c : Calls) (place : Place) (params : List Tree) (ps : List Value) (simple : List Bool) (s : State) (ns : List ℕ) → RunsOutAmong c place params ps simple s ns → Readable c place params ps simple s
readable_first c place params ps simple s [] h = absurd h
readable_first c place params ps simple s (n ∷ ns) h = h.0

-- a compound operand does, or leads to the next
next_out : (c : Calls) (place : Place) (params : List Tree) (ps : List Value) (simple : List Bool) (s : State) (n : ℕ) (ns ms : List ℕ) → ((w : State) → RunsOutAmong c place params ps simple w ms → RunsOut c place params ps w ns)
    → (expression (get_or params n (nothing place)) c s ≡ Turns) ⊎ ((w : State) × (v : Value) × (slice_get ps n ≡ Some v) × Goes c s (get_or params n (nothing place)) v w × RunsOutAmong c place params ps simple w ms)
    → RunsOut c place params ps s (n ∷ ns)
next_out c place params ps simple s n ns ms next (inl h) = inl h
next_out c place params ps simple s n ns ms next (inr h) = inr (h.0, h.1, h.2, h.3, next h.0 h.4)

all_run_out : (c : Calls) (place : Place) (params : List Tree) (ps : List Value) (simple : List Bool) (ns ms : List ℕ) (s : State) → compounds simple ns ≡ ms → AllRead ps ns → RunsOutAmong c place params ps simple s ms → RunsOut c place params ps s ns
all_run_out c place params ps simple [] ms s e a h = absurd (subst (λ xs. RunsOutAmong c place params ps simple s xs) (sym e) h)
all_run_out c place params ps simple (n ∷ ns) ms s e a h = by_kind (λ rest w same left. all_run_out c place params ps simple ns rest w same a.1 left) (is_simple simple n) refl
  where
    by_kind : ((rest : List ℕ) (w : State) → compounds simple ns ≡ rest → RunsOutAmong c place params ps simple w rest → RunsOut c place params ps w ns) → (b : Bool) → is_simple simple n ≡ b → RunsOut c place params ps s (n ∷ ns)
    by_kind next true k =
        inr (s, a.0.0, a.0.1, readable_first c place params ps simple s ms h n a.0.0 k a.0.1, next ms s (sym (ap (λ b. if b then compounds simple ns else n ∷ compounds simple ns) k) ∙ e) h)
    by_kind next false k =
        let r = subst (λ xs. RunsOutAmong c place params ps simple s xs) (sym e ∙ ap (λ b. if b then compounds simple ns else n ∷ compounds simple ns) k) h in
        next_out c place params ps simple s n ns (compounds simple ns) (λ w left. next (compounds simple ns) w refl left) r.1

pub out : (place : Place) (params : List Tree) (simple : List Bool) (q : Sequence) → RunsOutWhereItStood place params simple q
out place params simple q f i c rows ps s h v d = by_form q.steps q.result f (first_of (stands_alone simple q.steps q.result) (nat_le (length (rows_called q)) 3) i) d
  where
    by_form : (steps : List Term) (result : Option Term) → WellFormed (record { params = q.params; steps = steps; result = result }) → stands_alone simple steps result ≡ true
        → sequence_value (record { params = q.params; steps = steps; result = result }) ps ≡ Some (Some v) → expression (in_place place params result) c s ≡ Turns
    by_form [] (Some t) f i d =
        let g : value_of ps [] t ≡ Some v = given_back (value_of ps [] t) d in
        let straight = first_of (is_straight t) (bytes_eq (compounds simple (leaves t)) (compounds simple (numbers_from 0 simple))) i in
        let same = (bytes_decides (compounds simple (leaves t)) (compounds simple (numbers_from 0 simple))).0 (second_of (is_straight t) (bytes_eq (compounds simple (leaves t)) (compounds simple (numbers_from 0 simple))) i) in
        runs_out place params [] c rows q.params ps t f.1.1 straight s (all_run_out c place params ps simple (leaves t) (compounds simple (numbers_from 0 simple)) s same (all_read ps t straight v g) h) v g
      where
        given_back : (o : Option Value) → option_map Some o ≡ Some (Some v) → o ≡ Some v
        given_back (Some x) e = some_same e
        given_back None e = absurd (grind (arith, e))
    by_form [] None f i d = absurd (grind (arith, i))
    by_form (t ∷ rest) result f i d = absurd (grind (arith, i))
