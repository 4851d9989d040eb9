-- What is counted of a list of additions.
use Rattle.std.proofs.Common.{◌≡◌, suc, ◌-◌, ◌<◌, List, [], ◌∷◌, length, filter, Bool, true, false, refl, sym, ◌∙◌, ap, subst, arith}
use Rattle.std.specs.List.{list_any}
use Rattle.c_preproc.specs.declared.counts.Addition.{Addition}
use Rattle.c_preproc.specs.declared.counts.Addition.TheVariants.{Word, DoWord, Waiting, Other}
use Rattle.c_preproc.specs.declared.counts.Counts.{Counts}
use Rattle.c_preproc.specs.Nesting.{Context, is_word, is_do, is_waiting, answered, comma_passed, colon_passed}
use Rattle.c_preproc.specs.Counts.{counts_of}

some_waits : (xs : List Addition) → 0 < length (filter is_waiting xs) → list_any is_waiting xs ≡ true
some_waits [] h = absurd (omega arith)
some_waits (Word ∷ more) h = some_waits more h
some_waits (DoWord ∷ more) h = some_waits more h
some_waits (Waiting ∷ more) h = refl
some_waits (Other ∷ more) h = some_waits more h

none_waits : (xs : List Addition) → length (filter is_waiting xs) ≡ 0 → list_any is_waiting xs ≡ false
none_waits [] h = refl
none_waits (Word ∷ more) h = none_waits more h
none_waits (DoWord ∷ more) h = none_waits more h
none_waits (Waiting ∷ more) h = absurd (omega arith)
none_waits (Other ∷ more) h = none_waits more h

abbrev one_more : Counts → Counts
one_more c = record { block = c.block; run = suc c.run; words = c.words; has_do = c.has_do; waiting = c.waiting }

abbrev one_word : Counts → Counts
one_word c = record { block = c.block; run = suc c.run; words = suc c.words; has_do = c.has_do; waiting = c.waiting }

abbrev one_do : Counts → Counts
one_do c = record { block = c.block; run = suc c.run; words = suc c.words; has_do = true; waiting = c.waiting }

-- the words alone
filtered : (block : Bool) (xs : List Addition) → length (filter is_waiting xs) ≡ 0 →
    counts_of (record { block = block; additions = filter is_word xs }) ≡ record { block = block; run = length (filter is_word xs); words = length (filter is_word xs); has_do = list_any is_do xs; waiting = 0 }
filtered block [] h = refl
filtered block (Word ∷ more) h = ap one_word (filtered block more h)
filtered block (DoWord ∷ more) h = ap one_do (filtered block more h)
filtered block (Waiting ∷ more) h = absurd (omega arith)
filtered block (Other ∷ more) h = filtered block more h

-- one `?` fewer waits
one_answered : (block : Bool) (xs : List Addition) →
    counts_of (record { block = block; additions = answered xs }) ≡ record { block = block; run = length xs; words = length (filter is_word xs); has_do = list_any is_do xs; waiting = length (filter is_waiting xs) - 1 }
one_answered block [] = refl
one_answered block (Word ∷ more) = ap one_word (one_answered block more)
one_answered block (DoWord ∷ more) = ap one_do (one_answered block more)
one_answered block (Waiting ∷ more) = ap (λ waiting. record { block = block; run = suc (length more); words = length (filter is_word more); has_do = list_any is_do more; waiting = waiting }) (omega arith)
one_answered block (Other ∷ more) = ap one_more (one_answered block more)

-- a `,` while a `?` waits
pub comma_waits : (n : Counts) (c : Context) → 0 < n.waiting → n ≡ counts_of c → n ≡ counts_of (comma_passed c)
comma_waits n c h is =
    let waits : list_any is_waiting c.additions ≡ true = some_waits c.additions (subst (λ (m : Counts). 0 < m.waiting) is h) in
    rw waits is

-- a `,` while none waits
pub comma_lowers : (n : Counts) (c : Context) → n.waiting ≡ 0 → n ≡ counts_of c → record { block = n.block; run = n.words; words = n.words; has_do = n.has_do; waiting = n.waiting } ≡ counts_of (comma_passed c)
comma_lowers n c h is =
    let none : length (filter is_waiting c.additions) ≡ 0 = subst (λ (m : Counts). m.waiting ≡ 0) is h in
    let free : list_any is_waiting c.additions ≡ false = none_waits c.additions none in
    rw free (ap (λ (m : Counts). record { block = m.block; run = m.words; words = m.words; has_do = m.has_do; waiting = m.waiting }) is
    ∙ ap (λ waiting. record { block = c.block; run = length (filter is_word c.additions); words = length (filter is_word c.additions); has_do = list_any is_do c.additions; waiting = waiting }) none
    ∙ sym (filtered c.block c.additions none))

pub colon_answers : (n : Counts) (c : Context) → n ≡ counts_of c → record { block = n.block; run = n.run; words = n.words; has_do = n.has_do; waiting = n.waiting - 1 } ≡ counts_of (colon_passed c)
colon_answers n c is = ap (λ (m : Counts). record { block = m.block; run = m.run; words = m.words; has_do = m.has_do; waiting = m.waiting - 1 }) is ∙ sym (one_answered c.block c.additions)
