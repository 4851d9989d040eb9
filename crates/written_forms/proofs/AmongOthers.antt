-- Operands that have run where a row's call stood, as the law of sequences in place takes them.
use Rattle.std.proofs.Common.{◌≡◌, ℕ, zero, suc, ◌+◌, List, [], ◌∷◌, Bool, true, false, Some, refl, sym, ap, ◌∙◌, subst, arith, inl, inr, ◌⊎◌, if◌then◌else◌}
use Rattle.std.specs.Prelude.{slice_get, get_or}
use Rattle.c_text.specs.declared.tokens.Place.{Place}
use Rattle.c_tree.specs.Tree.{Tree, Trees, NoTrees, More}
use Rattle.c_memory.specs.declared.value.Value.{Value}
use Rattle.c_memory.specs.MeaningState.{State, Done, Turns}
use Rattle.c_memory.specs.Meaning.{Calls, expression}
use Rattle.seq_core.specs.Written.{nothing}
use Rattle.seq_core.specs.InPlace.{compounds, numbers_from, Readable, RunsAmong, RunsOutAmong}
use Rattle.seq_core.specs.Listed.{listed}
use Rattle.simulation.specs.Alike.{Objects}
use Rattle.written_forms.specs.Moved.{all_true}
use Rattle.written_forms.proofs.Running.{Operands, Stated, Agree, Run, Stop}

module _ (n : ℕ) (E : Objects) (c d : Calls) (place : Place) where
  -- in a state that is alike to one of the source the simple operands read as they do in all
  pub readable : (fs : List Bool) (all others : Trees) (k : Operands n E c d fs all others) (ws : List Value) → Agree n E c d fs all others k ws → (y : State) → Stated n E c d y
      → Readable d place (listed others) ws fs y
  readable [] NoTrees NoTrees k [] a y st i v e f = absurd (cc)
  readable (true ∷ fs) (More a rest) (More b others) k (w ∷ ws) h y st zero v e f =
      let same : w ≡ v = cc in k.0.second st.state y st.alike ∙ ap (λ z. Done (Some z) y) (sym h.0 ∙ same)
  readable (false ∷ fs) (More a rest) (More b others) k (w ∷ ws) h y st zero v e f = absurd (cc)
  readable (true ∷ fs) (More a rest) (More b others) k (w ∷ ws) h y st (suc i) v e f = readable fs rest others k.1 ws h.1 y st i v e f
  readable (false ∷ fs) (More a rest) (More b others) k (w ∷ ws) h y st (suc i) v e f = readable fs rest others k.1 ws h y st i v e f
  readable [] NoTrees NoTrees k (w ∷ ws) a y st i v e f = absurd a
  readable [] NoTrees (More b others) k ws a y st i v e f = absurd k
  readable [] (More a rest) others k ws h y st i v e f = absurd k
  readable (g ∷ fs) NoTrees others k ws h y st i v e f = absurd k
  readable (g ∷ fs) (More a rest) NoTrees k ws h y st i v e f = absurd k
  readable (true ∷ fs) (More a rest) (More b others) k [] h y st i v e f = absurd h
  readable (false ∷ fs) (More a rest) (More b others) k [] h y st i v e f = absurd h

-- the end of a list from a place on
pub record Behind {A : Type 0} (xs ys : List A) (k : ℕ) : Type 0 where
  pub same : (i : ℕ) → slice_get xs (k + i) ≡ slice_get ys i

got : {A : Type 0} (xs : List A) (i : ℕ) (a x : A) → slice_get xs i ≡ Some x → get_or xs i a ≡ x
got [] i a x h = absurd (cc)
got (y ∷ ys) zero a x h = cc
got (y ∷ ys) (suc i) a x h = got ys i a x h

-- its first element, and the end behind it
at_front : {A : Type 0} (xs ys : List A) (y : A) (k : ℕ) → Behind xs (y ∷ ys) k → slice_get xs k ≡ Some y
at_front xs ys y k h = let place : k + 0 ≡ k = omega arith in subst (λ i. slice_get xs i ≡ Some y) place (h.same 0)

further : {A : Type 0} (xs ys : List A) (y : A) (k : ℕ) → Behind xs (y ∷ ys) k → Behind xs ys (suc k)
further xs ys y k h = record { same = λ i. let place : k + suc i ≡ suc k + i = omega arith in subst (λ j. slice_get xs j ≡ slice_get ys i) place (h.same (suc i)) }

pub whole : {A : Type 0} (xs : List A) → Behind xs xs 0
whole xs = record { same = λ i. let place : 0 + i ≡ i = omega arith in ap (slice_get xs) place }

module _ (simple : List Bool) where
  pub skip : (k : ℕ) (fs : List Bool) → Behind simple (true ∷ fs) k → compounds simple (numbers_from k (true ∷ fs)) ≡ compounds simple (numbers_from (suc k) fs)
  skip k fs h = ap (λ b. if b then compounds simple (numbers_from (suc k) fs) else k ∷ compounds simple (numbers_from (suc k) fs)) (got simple k false true (at_front simple fs true k h))

  pub stay : (k : ℕ) (fs : List Bool) → Behind simple (false ∷ fs) k → compounds simple (numbers_from k (false ∷ fs)) ≡ k ∷ compounds simple (numbers_from (suc k) fs)
  stay k fs h = ap (λ b. if b then compounds simple (numbers_from (suc k) fs) else k ∷ compounds simple (numbers_from (suc k) fs)) (got simple k false false (at_front simple fs false k h))

  -- where all are simple none is compound
  pub no_compounds : (k : ℕ) (all : Trees) → Behind simple (all_true all) k → compounds simple (numbers_from k (all_true all)) ≡ []
  no_compounds k NoTrees h = refl
  no_compounds k (More a rest) h = skip k (all_true rest) h ∙ no_compounds (suc k) rest (further simple (all_true rest) true k h)

module _ (n : ℕ) (E : Objects) (c d : Calls) (place : Place) (simple : List Bool) (params : List Tree) (ps : List Value) (reads : (y : State) → Stated n E c d y → Readable d place params ps simple y) where
  pub runs_among : (k : ℕ) (fs : List Bool) (others : Trees) (ws : List Value) (y z : State) → Behind simple fs k → Behind params (listed others) k → Behind ps ws k
      → Run n E c d fs others ws y z → RunsAmong d place params ps simple y (compounds simple (numbers_from k fs)) z
  runs_among k [] NoTrees [] y z f p v h = (reads y h.0, h.1)
  runs_among k (true ∷ fs) (More b others) (w ∷ ws) y z f p v h =
      subst (λ ns. RunsAmong d place params ps simple y ns z) (sym (skip simple k fs f)) (runs_among (suc k) fs others ws y z (further simple fs true k f)
      (further params (listed others) b k p) (further ps ws w k v) h)
  runs_among k (false ∷ fs) (More b others) (w ∷ ws) y z f p v h =
      let here : get_or params k (nothing place) ≡ b = got params k (nothing place) b (at_front params (listed others) b k p) in
      subst (λ ns. RunsAmong d place params ps simple y ns z) (sym (stay simple k fs f)) (
        reads y h.0,
        h.1.0,
        w,
        at_front ps ws w k v,
        ap (λ e. expression e d y) here ∙ h.1.1,
        runs_among (suc k) fs others ws h.1.0 z (further simple fs false k f) (further params (listed others) b k p) (further ps ws w k v) h.1.2,
      )
  runs_among k [] NoTrees (w ∷ ws) y z f p v h = absurd h
  runs_among k [] (More b others) ws y z f p v h = absurd h
  runs_among k (true ∷ fs) NoTrees ws y z f p v h = absurd h
  runs_among k (true ∷ fs) (More b others) [] y z f p v h = absurd h
  runs_among k (false ∷ fs) NoTrees ws y z f p v h = absurd h
  runs_among k (false ∷ fs) (More b others) [] y z f p v h = absurd h

  stops : (k : ℕ) (fs : List Bool) (b : Tree) (others : Trees) (w : Value) (ws : List Value) (y : State) → Behind simple (false ∷ fs) k → Behind params (listed (More b others)) k
      → Behind ps (w ∷ ws) k → Stated n E c d y
      → (expression b d y ≡ Turns) ⊎ ((m : State) × (expression b d y ≡ Done (Some w) m) × Stop n E c d fs others ws m)
      → ((m : State) → Stop n E c d fs others ws m → RunsOutAmong d place params ps simple m (compounds simple (numbers_from (suc k) fs)))
      → RunsOutAmong d place params ps simple y (k ∷ compounds simple (numbers_from (suc k) fs))
  stops k fs b others w ws y f p v st (inl e) next =
      let here : get_or params k (nothing place) ≡ b = got params k (nothing place) b (at_front params (listed others) b k p) in
      (reads y st, inl (ap (λ z. expression z d y) here ∙ e))
  stops k fs b others w ws y f p v st (inr h) next =
      let here : get_or params k (nothing place) ≡ b = got params k (nothing place) b (at_front params (listed others) b k p) in
      (reads y st, inr (h.0, w, at_front ps ws w k v, ap (λ z. expression z d y) here ∙ h.1, next h.0 h.2))

  pub runs_out_among : (k : ℕ) (fs : List Bool) (others : Trees) (ws : List Value) (y : State) → Behind simple fs k → Behind params (listed others) k → Behind ps ws k
      → Stop n E c d fs others ws y → RunsOutAmong d place params ps simple y (compounds simple (numbers_from k fs))
  runs_out_among k (true ∷ fs) (More b others) (w ∷ ws) y f p v h =
      subst (λ ns. RunsOutAmong d place params ps simple y ns) (sym (skip simple k fs f)) (runs_out_among (suc k) fs others ws y (further simple fs true k f)
      (further params (listed others) b k p) (further ps ws w k v) h)
  runs_out_among k (false ∷ fs) (More b others) (w ∷ ws) y f p v h =
      subst (λ ns. RunsOutAmong d place params ps simple y ns) (sym (stay simple k fs f))
      (stops k fs b others w ws y f p v h.0 h.1 (λ m i. runs_out_among (suc k) fs others ws m (further simple fs false k f) (further params (listed others) b k p) (further ps ws w k v) i))
  runs_out_among k [] others ws y f p v h = absurd h
  runs_out_among k (true ∷ fs) NoTrees ws y f p v h = absurd h
  runs_out_among k (true ∷ fs) (More b others) [] y f p v h = absurd h
  runs_out_among k (false ∷ fs) NoTrees ws y f p v h = absurd h
  runs_out_among k (false ∷ fs) (More b others) [] y f p v h = absurd h
