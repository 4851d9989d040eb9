-- Operands that run where they stood: the simple ones may be read anywhere among them.
use Rattle.std.proofs.Common.{◌≡◌, ℕ, ◌++◌, List, [], ◌∷◌, Bool, true, false, Option, Some, None, refl, sym, ap, subst, ◌∙◌, arith}
use Rattle.std.specs.Prelude.{option_map, slice_get, nat_le, length, if◌then◌else◌}
use Rattle.std.specs.Option.{option_and_then}
use Rattle.std.specs.Str.{bytes_eq}
use Rattle.std.specs.Cmp.Lexicographic.{bytes_decides}
use Rattle.c_text.specs.declared.tokens.Place.{Place}
use Rattle.c_tree.specs.Tree.{Tree}
use Rattle.c_memory.specs.declared.value.Value.{Value}
use Rattle.c_memory.specs.MeaningState.{State, Done}
use Rattle.c_memory.specs.Meaning.{Calls, expression}
use Rattle.seq_core.specs.Terms as term
use Rattle.seq_core.specs.Terms.{Term, Terms, Sequence}
use Rattle.seq_core.specs.Values.{called, paired, operated, turned, value_of, values_of, sequence_value}
use Rattle.seq_core.specs.Called.{rows_called}
use Rattle.seq_core.specs.Formed.{WellFormed}
use Rattle.seq_core.specs.InPlace.{leaves, leaves_of_all, is_straight, are_straight, Runs, is_simple, compounds, numbers_from, stands_alone, in_place, Readable, RunsAmong, HoldsWhereItStood}
use Rattle.seq_core.proofs.Leads.{some_same}
use Rattle.seq_core.proofs.RowCalls.{first_of, second_of}
use Rattle.seq_core.proofs.Pure.{bound, mapped}
use Rattle.seq_core.proofs.InPlaced.{goes}

-- each of these operands has a value
abbrev pub AllRead : List Value → List ℕ → Type 0
AllRead ps [] = Unit {0}
AllRead ps (n ∷ ns) = ((v : Value) × (slice_get ps n ≡ Some v)) × AllRead ps ns

both_read : (ps : List Value) (ns ms : List ℕ) → AllRead ps ns → AllRead ps ms → AllRead ps (ns ++ ms)
both_read ps [] ms a b = b
both_read ps (n ∷ ns) ms a b = (a.0, both_read ps ns ms a.1 b)

mutual
  pub all_read : (ps : List Value) (t : Term) → is_straight t ≡ true → (v : Value) → value_of ps [] t ≡ Some v → AllRead ps (leaves t)
  all_read ps (term.Param n) i v d = ((v, d), tt)
  all_read ps (term.Const r) i v d = tt
  all_read ps (term.Int n) i v d = tt
  all_read ps (term.Call op all imm) i v d = let b = bound (values_of ps [] all) (called op imm) v d in each_read ps all i b.0 b.1
  all_read ps (term.PairOf a e) i v d =
      let b = bound (value_of ps [] a) (λ x. option_and_then (paired x) (value_of ps [] e)) v d in
      let k = bound (value_of ps [] e) (paired b.0) v b.2 in
      both_read ps (leaves a) (leaves e) (all_read ps a (first_of (is_straight a) (is_straight e) i) b.0 b.1) (all_read ps e (second_of (is_straight a) (is_straight e) i) k.0 k.1)
  all_read ps (term.Scalar o a e) i v d =
      let b = bound (value_of ps [] a) (λ x. option_and_then (operated o x) (value_of ps [] e)) v d in
      let k = bound (value_of ps [] e) (operated o b.0) v b.2 in
      both_read ps (leaves a) (leaves e) (all_read ps a (first_of (is_straight a) (is_straight e) i) b.0 b.1) (all_read ps e (second_of (is_straight a) (is_straight e) i) k.0 k.1)
  all_read ps (term.Convert t a) i v d = let b = bound (value_of ps [] a) (turned t) v d in all_read ps a i b.0 b.1
  all_read ps _ i v d = absurd (grind (arith, i))

  each_read : (ps : List Value) (all : Terms) → are_straight all ≡ true → (vs : List Value) → values_of ps [] all ≡ Some vs → AllRead ps (leaves_of_all all)
  each_read ps term.NoTerms i vs d = tt
  each_read ps (term.More e rest) i vs d =
      let b = bound (value_of ps [] e) (λ v. option_map (λ ws. v ∷ ws) (values_of ps [] rest)) vs d in
      let k = mapped (values_of ps [] rest) (λ ws. b.0 ∷ ws) vs b.2 in
      both_read ps (leaves e) (leaves_of_all rest) (all_read ps e (first_of (is_straight e) (are_straight rest) i) b.0 b.1) (each_read ps rest (second_of (is_straight e) (are_straight rest) i) k.0 k.1)

readable_first : (c : Calls) (place : Place) (params : List Tree) (ps : List Value) (simple : List Bool) (s : State) (ns : List ℕ) (u : State) → RunsAmong c place params ps simple s ns u → Readable c place params ps simple s
readable_first c place params ps simple s [] u h = h.0
readable_first c place params ps simple s (n ∷ ns) u h = h.0

runs : (c : Calls) (place : Place) (params : List Tree) (ps : List Value) (simple : List Bool) (ns ms : List ℕ) (s u : State) → compounds simple ns ≡ ms → AllRead ps ns → RunsAmong c place params ps simple s ms u → Runs c place params ps s ns u
runs c place params ps simple [] ms s u e a h = (subst (λ xs. RunsAmong c place params ps simple s xs u) (sym e) h).1
runs c place params ps simple (n ∷ ns) ms s u e a h = by_kind (λ rest w same left. runs c place params ps simple ns rest w u same a.1 left) (is_simple simple n) refl
  where
    by_kind : ((rest : List ℕ) (w : State) → compounds simple ns ≡ rest → RunsAmong c place params ps simple w rest u → Runs c place params ps w ns u) → (b : Bool) → is_simple simple n ≡ b → Runs c place params ps s (n ∷ ns) u
    by_kind next true k =
        (s, a.0.0, a.0.1, readable_first c place params ps simple s ms u h n a.0.0 k a.0.1, next ms s (sym (ap (λ b. if b then compounds simple ns else n ∷ compounds simple ns) k) ∙ e) h)
    by_kind next false k =
        let r = subst (λ xs. RunsAmong c place params ps simple s xs u) (sym e ∙ ap (λ b. if b then compounds simple ns else n ∷ compounds simple ns) k) h in
        (r.1, r.2, r.3, r.4, next (compounds simple ns) r.1 refl r.5)

pub holds : (place : Place) (params : List Tree) (simple : List Bool) (q : Sequence) → HoldsWhereItStood place params simple q
holds place params simple q f i c rows ps s u h v d = by_form q.steps q.result f (first_of (stands_alone simple q.steps q.result) (nat_le (length (rows_called q)) 3) i) d
  where
    by_form : (steps : List Term) (result : Option Term) → WellFormed (record { params = q.params; steps = steps; result = result }) → stands_alone simple steps result ≡ true
        → sequence_value (record { params = q.params; steps = steps; result = result }) ps ≡ Some (Some v) → expression (in_place place params result) c s ≡ Done (Some v) u
    by_form [] (Some t) f i d =
        let g : value_of ps [] t ≡ Some v = given_back (value_of ps [] t) d in
        let straight = first_of (is_straight t) (bytes_eq (compounds simple (leaves t)) (compounds simple (numbers_from 0 simple))) i in
        let same = (bytes_decides (compounds simple (leaves t)) (compounds simple (numbers_from 0 simple))).0 (second_of (is_straight t) (bytes_eq (compounds simple (leaves t)) (compounds simple (numbers_from 0 simple))) i) in
        goes place params [] c rows q.params ps t f.1.1 straight s u (runs c place params ps simple (leaves t) (compounds simple (numbers_from 0 simple)) s u same (all_read ps t straight v g) h) v g
      where
        given_back : (o : Option Value) → option_map Some o ≡ Some (Some v) → o ≡ Some v
        given_back (Some x) e = some_same e
        given_back None e = absurd (grind (arith, e))
    by_form [] None f i d = absurd (grind (arith, i))
    by_form (t ∷ rest) result f i d = absurd (grind (arith, i))
