-- The open brackets and the weight of contexts, by their counts.
use Rattle.std.proofs.Common.{◌≡◌, ℕ, suc, ◌+◌, ◌<◌, ◌≤◌, List, [], ◌∷◌, ◌++◌, length, map, reverse, sum_by, filter, false, refl, sym, ◌∙◌, ap, subst, arith, nat_lt}
use Rattle.std.proofs.lemmas.List.{reverse-append, length-reverse, length-map}
use Rattle.std.proofs.lemmas.List.Sums.{sum_by-cons, sum_by_push}
use Rattle.c_preproc.specs.declared.counts.Addition.{Addition}
use Rattle.c_preproc.specs.declared.counts.Addition.TheVariants.{Word, DoWord, Waiting, Other}
use Rattle.c_preproc.specs.declared.counts.Counts.{Counts}
use Rattle.std.proofs.lemmas.Bool.{le-ltb}
use Rattle.c_preproc.specs.declared.limits.Limits.{Limits}
use Rattle.c_preproc.specs.Nesting.{Context, run_of, is_word, is_waiting, open_brackets, weight_of, is_too_deep}
use Rattle.c_preproc.specs.Counts.{counts_of, Shows, IsWithin}

runs : (cs : List Context) → sum_by (λ (c : Counts). c.run) (map counts_of cs) ≡ sum_by run_of cs
runs [] = refl
runs (c ∷ cs) =
    sum_by-cons (λ (c : Counts). c.run) (counts_of c) (map counts_of cs) ∙ ap (λ n. run_of c + n) (runs cs) ∙ sym (sum_by-cons run_of c cs)

reversed : (ns : List Counts) → sum_by (λ (c : Counts). c.run) (reverse ns) ≡ sum_by (λ (c : Counts). c.run) ns
reversed [] = refl
reversed (n ∷ ns) =
    let ends : reverse (n ∷ ns) ≡ reverse ns ++ n ∷ [] = reverse-append (n ∷ []) ns in
    let last = sum_by_push (λ (c : Counts). c.run) (reverse ns) n in
    let first = sum_by-cons (λ (c : Counts). c.run) n ns in
    let same = reversed ns in
    rw ends (omega arith)

pub brackets_shown : (current : Counts) (outer : List Counts) (cs : List Context) → Shows current outer cs → open_brackets cs ≡ length outer
brackets_shown current outer cs shown =
    let contexts : length cs ≡ suc (length outer) = sym (length-map cs counts_of) ∙ ap length shown ∙ ap suc (length-reverse outer) in
    omega arith

pub weight_shown : (current : Counts) (outer : List Counts) (cs : List Context) → Shows current outer cs → weight_of cs ≡ length outer + current.run + sum_by (λ (c : Counts). c.run) outer
weight_shown current outer cs shown =
    let brackets = brackets_shown current outer cs shown in
    let sums : sum_by run_of cs ≡ current.run + sum_by (λ (c : Counts). c.run) outer =
    sym (runs cs) ∙ ap (sum_by (λ (c : Counts). c.run)) shown ∙ sum_by-cons (λ (c : Counts). c.run) current (reverse outer) ∙ ap (λ n. current.run + n) (reversed outer) in
    omega arith

words_within : (xs : List Addition) → length (filter is_word xs) ≤ length xs
words_within [] = omega arith
words_within (Word ∷ more) = let h = words_within more in omega arith
words_within (DoWord ∷ more) = let h = words_within more in omega arith
words_within (Waiting ∷ more) = let h = words_within more in omega arith
words_within (Other ∷ more) = let h = words_within more in omega arith

waiting_within : (xs : List Addition) → length (filter is_waiting xs) ≤ length xs
waiting_within [] = omega arith
waiting_within (Word ∷ more) = let h = waiting_within more in omega arith
waiting_within (DoWord ∷ more) = let h = waiting_within more in omega arith
waiting_within (Waiting ∷ more) = let h = waiting_within more in omega arith
waiting_within (Other ∷ more) = let h = waiting_within more in omega arith

-- the counts of a context are within each other
pub shown_within : (current : Counts) (outer : List Counts) (cs : List Context) → Shows current outer cs → current.run < 4294967296 → IsWithin current
shown_within current outer [] shown small = absurd (empty shown)
  where
    empty : [] ≡ current ∷ reverse outer → ⊥
    empty h = cc
shown_within current outer (c ∷ cs) shown small =
    let is : counts_of c ≡ current = cc in
    record {
      run = small;
      words = subst (λ (n : Counts). n.words ≤ n.run) is (words_within c.additions);
      waiting = subst (λ (n : Counts). n.waiting ≤ n.run) is (waiting_within c.additions);
    }

pub too_deep_by_weight : (limits : Limits) (cs : List Context) (brackets weight : ℕ) → open_brackets cs ≡ brackets → weight_of cs ≡ weight → brackets ≤ limits.brackets →
    nat_lt limits.weight weight ≡ is_too_deep limits cs
too_deep_by_weight limits cs brackets weight deep heavy within =
    let few : nat_lt limits.brackets (open_brackets cs) ≡ false = le-ltb limits.brackets (open_brackets cs) (omega arith) in
    rw few (ap (λ w. nat_lt limits.weight w) (sym heavy))
