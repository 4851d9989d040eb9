-- In place: the operands' expressions may change the state, as long as each runs where the term has it.
use Rattle.std.proofs.Common.{◌≡◌, ℕ, ◌++◌, List, [], ◌∷◌, true, Some, refl, sym, ap, subst, ◌∙◌, arith}
use Rattle.std.specs.Prelude.{option_map}
use Rattle.std.specs.Option.{option_and_then}
use Rattle.lane_core.specs.declared.number.IntType.{IntType}
use Rattle.lane_core.specs.declared.table.ParamKind.{ParamKind}
use Rattle.lane_core.specs.declared.table.ParamKind.TheVariants as kind
use Rattle.lane_core.specs.Table.{params_of}
use Rattle.c_text.specs.declared.tokens.Place.{Place}
use Rattle.c_tree.specs.declared.types.CType.{CType}
use Rattle.c_tree.specs.Tree as tree
use Rattle.c_tree.specs.Tree.{Tree, Trees, NoTrees, More, Node}
use Rattle.c_memory.specs.declared.value.Value.{Value}
use Rattle.c_memory.specs.MeaningState.{State, Done}
use Rattle.c_memory.specs.MeaningRows.{row_done}
use Rattle.c_memory.specs.Meaning as meaning
use Rattle.c_memory.specs.Meaning.{Calls, expression, values}
use Rattle.neon_table.specs.Rows.{signature_of}
use Rattle.seq_core.specs.Rows.{AreRows}
use Rattle.seq_core.specs.Terms as term
use Rattle.seq_core.specs.Terms.{Term, Terms}
use Rattle.seq_core.specs.Values.{called, paired, operated, turned, value_of, values_of}
use Rattle.seq_core.specs.Actions.{with_value}
use Rattle.seq_core.specs.Formed.{IsFormed, AreFormed}
use Rattle.seq_core.specs.Written.{pen, cast, with_constant, written, all_written}
use Rattle.seq_core.specs.InPlace.{leaves, leaves_of_all, is_straight, are_straight, Runs}
use Rattle.seq_core.proofs.Leads.{some_same, binary_given}
use Rattle.seq_core.proofs.RowCalls.{first_of, second_of, row_gives}
use Rattle.seq_core.proofs.Pure.{bound, mapped}
use Rattle.seq_core.proofs.Constants.{constant_leads}

-- an expression gives a value and leads from one state to another
abbrev pub Goes : Calls → State → Tree → Value → State → Type 0
Goes c s e v t = expression e c s ≡ Done (Some v) t

abbrev AllGo : Calls → State → Trees → List Value → State → Type 0
AllGo c s NoTrees [] t = s ≡ t
AllGo c s (More a rest) (v ∷ vs) t = (u : State) × Goes c s a v u × AllGo c u rest vs t
AllGo c s _ _ t = ⊥

values_go : (c : Calls) (s : State) (all : Trees) (vs : List Value) (t : State) → AllGo c s all vs t → values all c s ≡ Done vs t
values_go c s NoTrees [] t h = ap (Done []) h
values_go c s (More a rest) (v ∷ vs) t h = rw (h.1, values_go c h.0 rest vs t h.2) refl
values_go c s NoTrees (v ∷ vs) t h = absurd h
values_go c s (More a rest) [] t h = absurd h

placed_go : (c : Calls) (s : State) (place : Place) (ks : List ParamKind) (all : Trees) (vs : List Value) (imm : ℕ) (t : State) → AllGo c s all vs t → AllGo c s (with_constant place ks all imm) (with_value ks vs imm) t
placed_go c s place [] all vs imm t h = h
placed_go c s place (kind.Immediate ∷ ks) all vs imm t h = (s, refl, placed_go c s place ks all vs imm t h)
placed_go c s place (k ∷ ks) NoTrees [] imm t h = h
placed_go c s place (k ∷ ks) (More a rest) (v ∷ vs) imm t h = (h.0, h.1, placed_go c h.0 place ks rest vs imm t h.2)
placed_go c s place (k ∷ ks) NoTrees (v ∷ vs) imm t h = absurd h
placed_go c s place (k ∷ ks) (More a rest) [] imm t h = absurd h

split : (c : Calls) (place : Place) (params : List Tree) (ps : List Value) (s : State) (ns ms : List ℕ) (t : State) → Runs c place params ps s (ns ++ ms) t → (u : State) × Runs c place params ps s ns u × Runs c place params ps u ms t
split c place params ps s [] ms t h = (s, refl, h)
split c place params ps s (n ∷ ns) ms t h = let r = split c place params ps h.0 ns ms t h.4 in (r.0, (h.0, h.1, h.2, h.3, r.1), r.2)

pair_goes : (c : Calls) (s u t : State) (a d : Tree) (place : Place) (v w x : Value) → Goes c s a v u → Goes c u d w t → paired v w ≡ Some x → Goes c s (Node place CType.Pair (tree.PairOf a d)) x t
pair_goes c s u t a d place (Value.R16 q) (Value.R16 r) x g i h = rw (g, i) (ap (λ y. Done (Some y) t) (some_same h))
pair_goes c s u t a d place _ _ x g i h = absurd (grind (arith, h))

cast_goes : (c : Calls) (s t : State) (a : Tree) (i : IntType) (place : Place) (v x : Value) → Goes c s a v t → turned i v ≡ Some x → Goes c s (cast place (CType.Int i) a) x t
cast_goes c s t a i place (Value.Int k) x g h = rw g (ap (λ y. Done (Some y) t) (some_same h))
cast_goes c s t a i place _ x g h = absurd (grind (arith, h))

mutual
  pub goes : (place : Place) (params : List Tree) (steps : List Tree) (c : Calls) → AreRows c → (ts : List CType) (ps : List Value) (e : Term) → IsFormed ts [] e → is_straight e ≡ true → (s t : State) → Runs c place params ps s (leaves e) t → (v : Value) → value_of ps [] e ≡ Some v
      → Goes c s (written (pen place params steps) e) v t
  goes place params steps c rows ts ps (term.Param n) f i s t h v d =
      let q : h.1 ≡ v = some_same (sym h.2 ∙ d) in
      h.3 ∙ ap (λ x. Done (Some x) h.0) q ∙ ap (Done (Some v)) h.4
  goes place params steps c rows ts ps (term.Const r) f i s t h v d = constant_leads c s place rows r f s.memory ∙ ap (λ x. Done x s) d ∙ ap (Done (Some v)) h
  goes place params steps c rows ts ps (term.Int n) f i s t h v d = ap (λ x. Done x s) d ∙ ap (Done (Some v)) h
  goes place params steps c rows ts ps (term.Call op all imm) f i s t h v d =
      let b = bound (values_of ps [] all) (called op imm) v d in
      let g = all_go place params steps c rows ts ps all f.2 i s t h b.0 b.1 in
      rw (values_go c s (with_constant place (params_of (signature_of op)) (all_written (pen place params steps) all) imm) (with_value (params_of (signature_of op)) b.0 imm) t (placed_go c s place (params_of (signature_of op)) (all_written (pen place params steps) all) b.0 imm t g))
      (rows op (with_value (params_of (signature_of op)) b.0 imm) t ∙ ap (row_done t) (row_gives op imm b.0 v t.memory f.1 b.2))
  goes place params steps c rows ts ps (term.PairOf a e) f i s t h v d =
      let b = bound (value_of ps [] a) (λ x. option_and_then (paired x) (value_of ps [] e)) v d in
      let k = bound (value_of ps [] e) (paired b.0) v b.2 in
      let r = split c place params ps s (leaves a) (leaves e) t h in
      pair_goes c s r.0 t (written (pen place params steps) a) (written (pen place params steps) e) place b.0 k.0 v
      (goes place params steps c rows ts ps a f.2 (first_of (is_straight a) (is_straight e) i) s r.0 r.1 b.0 b.1) (goes place params steps c rows ts ps e f.3 (second_of (is_straight a) (is_straight e) i) r.0 t r.2 k.0 k.1) k.2
  goes place params steps c rows ts ps (term.Scalar o a e) f i s t h v d =
      let b = bound (value_of ps [] a) (λ x. option_and_then (operated o x) (value_of ps [] e)) v d in
      let k = bound (value_of ps [] e) (operated o b.0) v b.2 in
      let r = split c place params ps s (leaves a) (leaves e) t h in
      rw (
        goes place params steps c rows ts ps a f.2 (first_of (is_straight a) (is_straight e) i) s r.0 r.1 b.0 b.1,
        goes place params steps c rows ts ps e f.3 (second_of (is_straight a) (is_straight e) i) r.0 t r.2 k.0 k.1,
        binary_given t.memory o (meaning.type_of (written (pen place params steps) a)) (meaning.type_of (written (pen place params steps) e)) b.0 k.0 v k.2,
      ) refl
  goes place params steps c rows ts ps (term.Convert i2 a) f i s t h v d =
      let b = bound (value_of ps [] a) (turned i2) v d in
      cast_goes c s t (written (pen place params steps) a) i2 place b.0 v (goes place params steps c rows ts ps a f.1 i s t h b.0 b.1) b.2
  goes place params steps c rows ts ps _ f i s t h v d = absurd (grind (arith, i))

  pub all_go : (place : Place) (params : List Tree) (steps : List Tree) (c : Calls) → AreRows c → (ts : List CType) (ps : List Value) (all : Terms) → AreFormed ts [] all → are_straight all ≡ true → (s t : State) → Runs c place params ps s (leaves_of_all all) t
      → (vs : List Value) → values_of ps [] all ≡ Some vs → AllGo c s (all_written (pen place params steps) all) vs t
  all_go place params steps c rows ts ps term.NoTerms f i s t h vs d = subst (λ xs. AllGo c s NoTrees xs t) (some_same d) h
  all_go place params steps c rows ts ps (term.More e rest) f i s t h vs d =
      let b = bound (value_of ps [] e) (λ v. option_map (λ ws. v ∷ ws) (values_of ps [] rest)) vs d in
      let k = mapped (values_of ps [] rest) (λ ws. b.0 ∷ ws) vs b.2 in
      let r = split c place params ps s (leaves e) (leaves_of_all rest) t h in
      subst (λ xs. AllGo c s (all_written (pen place params steps) (term.More e rest)) xs t) k.2
      (r.0, goes place params steps c rows ts ps e f.0 (first_of (is_straight e) (are_straight rest) i) s r.0 r.1 b.0 b.1, all_go place params steps c rows ts ps rest f.1 (second_of (is_straight e) (are_straight rest) i) r.0 t r.2 k.0 k.1)
