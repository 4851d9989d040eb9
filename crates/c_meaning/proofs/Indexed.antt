-- How functions are found by their names.
use Rattle.std.proofs.Common.{◌≡◌, ℕ, zero, suc, ◌+◌, ◌<◌, ◌≤◌, Bool, true, false, not, if◌then◌else◌, List, [], ◌∷◌, ◌++◌, length, take, Option, Some, None, slice_get, slice_index_or, refl, sym, ap, ◌∙◌, arith, subst}
use Rattle.std.proofs.lemmas.Bool.{and_parts, and_from, false≢true}
use Rattle.std.proofs.lemmas.List.{take_all}
use Rattle.std.proofs.lemmas.Option.{slice_get-get_or}
use Rattle.std.specs.Cmp.Lexicographic.{bytes_decides}
use Rattle.std.specs.Str.{bytes_eq}
use Rattle.c_meaning.specs.declared.calls.Callee.{Callee}
use Rattle.c_meaning.specs.declared.places.Places.{Places}
use Rattle.c_meaning.specs.Callees.{none_called, is_last_called}
use Rattle.c_meaning.specs.Places.{place_of}
use Rattle.c_meaning.specs.Indexed.{IsLast, IsIndexed}

-- ---- one more function

none_more : (name : List ℕ) (all : List Callee) (f : Callee) → none_called name all ≡ true → bytes_eq name f.function.now.name ≡ false → none_called name (all ++ f ∷ []) ≡ true
none_more name [] f h e = and_from (not (bytes_eq name f.function.now.name)) true (ap not e) refl
none_more name (x ∷ xs) f h e =
    let p = and_parts (not (bytes_eq name x.function.now.name)) (none_called name xs) h in
    and_from (not (bytes_eq name x.function.now.name)) (none_called name (xs ++ f ∷ [])) p.0 (none_more name xs f p.1 e)

last_more : (name : List ℕ) (all : List Callee) (f : Callee) (k : ℕ) → is_last_called name all k ≡ true → bytes_eq name f.function.now.name ≡ false → is_last_called name (all ++ f ∷ []) k ≡ true
last_more name [] f k h e = absurd (false≢true h)
last_more name (x ∷ xs) f zero h e =
    let p = and_parts (bytes_eq name x.function.now.name) (none_called name xs) h in
    and_from (bytes_eq name x.function.now.name) (none_called name (xs ++ f ∷ [])) p.0 (none_more name xs f p.1 e)
last_more name (x ∷ xs) f (suc k) h e = last_more name xs f k h e

last_pushed : (name : List ℕ) (all : List Callee) (f : Callee) → bytes_eq name f.function.now.name ≡ true → is_last_called name (all ++ f ∷ []) (length all) ≡ true
last_pushed name [] f e = and_from (bytes_eq name f.function.now.name) true e refl
last_pushed name (x ∷ xs) f e = last_pushed name xs f e

found_pushed : (name : List ℕ) (all : List Callee) (f : Callee) (found : Option ℕ) (b : Bool) → bytes_eq name f.function.now.name ≡ b → IsLast name all found → IsLast name (all ++ f ∷ []) (if b then Some (length all) else found)
found_pushed name all f found true e h = last_pushed name all f e
found_pushed name all f None false e h = none_more name all f h e
found_pushed name all f (Some k) false e h = last_more name all f k h e

each_pushed : (all : List Callee) (f : Callee) (P : List Callee → Callee → Type 0) → ((k : ℕ) (g : Callee) → slice_get all k ≡ Some g → P (take k all) g) → P all f →
    (k : ℕ) (g : Callee) → slice_get (all ++ f ∷ []) k ≡ Some g → P (take k (all ++ f ∷ [])) g
each_pushed [] f P old new zero g e = let same : f ≡ g = cc in subst (P []) same new
each_pushed [] f P old new (suc k) g e = absurd cc
each_pushed (x ∷ xs) f P old new zero g e = old zero g e
each_pushed (x ∷ xs) f P old new (suc k) g e = each_pushed xs f (λ l h. P (x ∷ l) h) (λ j h. old (suc j) h) new k g e

pub indexed_push : (before after : Places) (all more : List Callee) (f : Callee) (name : List ℕ) (count : ℕ) → name ≡ f.function.now.name → count ≡ length all → more ≡ all ++ f ∷ [] → f.same ≡ place_of before name →
    ((x : List ℕ) → place_of after x ≡ (if bytes_eq x name then Some count else place_of before x)) → IsIndexed before all → IsIndexed after more
indexed_push before after all more f name count named counted pushed same set h =
    let set : (x : List ℕ) → place_of after x ≡ (if bytes_eq x name then Some (length all) else place_of before x) = λ x. set x ∙ ap (λ n. if bytes_eq x name then Some n else place_of before x) counted in
    subst (IsIndexed after) (sym pushed) (
      (λ x. subst (IsLast x (all ++ f ∷ [])) (sym (set x)) (found_pushed x all f (place_of before x) (bytes_eq x name) (ap (bytes_eq x) (sym named)) (h.0 x))),
      each_pushed all f (λ l g. IsLast g.function.now.name l g.same) h.1
          (subst (IsLast f.function.now.name all) (sym same) (subst (λ n. IsLast f.function.now.name all (place_of before n)) (sym named) (h.0 f.function.now.name))),
    )

-- ---- how one is found

-- the function at this place has the name, and those between it and the function of number n don't
abbrev pub Leads : List ℕ → ℕ → List Callee → Option ℕ → Type 0
Leads name n all None = none_called name (take n all) ≡ true
Leads name n all (Some k) = (k < length all) × ((d : Callee) → bytes_eq name (slice_index_or all k d).function.now.name ≡ true) × (k < n → is_last_called name (take n all) k ≡ true)

none_before : (name : List ℕ) (all : List Callee) (n m : ℕ) → n ≤ m → none_called name (take m all) ≡ true → none_called name (take n all) ≡ true
none_before name all zero m l h = refl
none_before name [] (suc n) m l h = refl
none_before name (x ∷ xs) (suc n) zero l h = absurd (omega arith)
none_before name (x ∷ xs) (suc n) (suc m) l h =
    let p = and_parts (not (bytes_eq name x.function.now.name)) (none_called name (take m xs)) h in
    and_from (not (bytes_eq name x.function.now.name)) (none_called name (take n xs)) p.0 (none_before name xs n m (omega arith) p.1)

last_before : (name : List ℕ) (all : List Callee) (n m k : ℕ) → n ≤ m → k < n → is_last_called name (take m all) k ≡ true → is_last_called name (take n all) k ≡ true
last_before name all zero m k l b h = absurd (omega arith)
last_before name all (suc n) zero k l b h = absurd (omega arith)
last_before name [] (suc n) (suc m) k l b h = absurd (false≢true h)
last_before name (x ∷ xs) (suc n) (suc m) zero l b h =
    let p = and_parts (bytes_eq name x.function.now.name) (none_called name (take m xs)) h in
    and_from (bytes_eq name x.function.now.name) (none_called name (take n xs)) p.0 (none_before name xs n m (omega arith) p.1)
last_before name (x ∷ xs) (suc n) (suc m) (suc k) l b h = last_before name xs n m k (omega arith) (omega arith) h

last_within : (name : List ℕ) (all : List Callee) (m k : ℕ) → is_last_called name (take m all) k ≡ true → (k < length all) × (k < m)
last_within name all zero k h = absurd (false≢true h)
last_within name [] (suc m) k h = absurd (false≢true h)
last_within name (x ∷ xs) (suc m) zero h = (omega arith, omega arith)
last_within name (x ∷ xs) (suc m) (suc k) h = let p = last_within name xs m k h in (omega (arith, p.0), omega (arith, p.1))

last_named : (name : List ℕ) (all : List Callee) (m k : ℕ) (d : Callee) → is_last_called name (take m all) k ≡ true → bytes_eq name (slice_index_or all k d).function.now.name ≡ true
last_named name all zero k d h = absurd (false≢true h)
last_named name [] (suc m) k d h = absurd (false≢true h)
last_named name (x ∷ xs) (suc m) zero d h = (and_parts (bytes_eq name x.function.now.name) (none_called name (take m xs)) h).0
last_named name (x ∷ xs) (suc m) (suc k) d h = last_named name xs m k d h

leads_from : (name : List ℕ) (all : List Callee) (n m : ℕ) (found : Option ℕ) → n ≤ m → IsLast name (take m all) found → Leads name n all found
leads_from name all n m None l h = none_before name all n m l h
leads_from name all n m (Some k) l h = ((last_within name all m k h).0, λ d. last_named name all m k d h, λ b. last_before name all n m k l b h)

pub leads_first : (name : List ℕ) (places : Places) (all : List Callee) (n : ℕ) (found : Option ℕ) → IsIndexed places all → found ≡ place_of places name → Leads name n all found
leads_first name places all n found h e =
    let whole : take (n + length all) all ≡ all = take_all (n + length all) all (omega arith) in
    leads_from name all n (n + length all) found (omega arith) (subst (λ l. IsLast name l found) (sym whole) (subst (IsLast name all) (sym e) (h.0 name)))

same_before : (places : Places) (all : List Callee) (name : List ℕ) (k : ℕ) (f : Callee) → IsIndexed places all → f ≡ slice_index_or all k f → k < length all → bytes_eq name f.function.now.name ≡ true →
    IsLast name (take k all) f.same
same_before places all name k f h e w same =
    subst (λ x. IsLast x (take k all) f.same) (sym ((bytes_decides name f.function.now.name).0 same)) (h.1 k f (slice_get-get_or all k f w ∙ ap (λ (g : Callee). Some g) (sym e)))

pub leads_next : (name : List ℕ) (places : Places) (all : List Callee) (n k : ℕ) (found : Option ℕ) (f : Callee) → IsIndexed places all → found ≡ Some k → n ≤ k → f ≡ slice_index_or all k f → Leads name n all found → Leads name n all f.same
leads_next name places all n k None f h e l it led = absurd cc
leads_next name places all n k (Some j) f h e l it led =
    let here : j ≡ k = cc in
    let led : Leads name n all (Some k) = subst (λ i. Leads name n all (Some i)) here led in
    leads_from name all n k f.same l (same_before places all name k f h it led.0 (ap (λ g. bytes_eq name g.function.now.name) it ∙ led.1 f))

-- how far a search has still to go
abbrev pub far : Option ℕ → ℕ
far None = 0
far (Some k) = k + 1

pub comes_nearer : (name : List ℕ) (places : Places) (all : List Callee) (n k : ℕ) (found : Option ℕ) (f : Callee) → IsIndexed places all → found ≡ Some k → f ≡ slice_index_or all k f → Leads name n all found → far f.same < far found
comes_nearer name places all n k None f h e it led = absurd cc
comes_nearer name places all n k (Some j) f h e it led =
    let here : j ≡ k = cc in
    let led : Leads name n all (Some k) = subst (λ i. Leads name n all (Some i)) here led in
    let last = same_before places all name k f h it led.0 (ap (λ g. bytes_eq name g.function.now.name) it ∙ led.1 f) in
    subst (λ i. far f.same < far (Some i)) (sym here) (nearer f.same last)
  where
    nearer : (s : Option ℕ) → IsLast name (take k all) s → far s < far (Some k)
    nearer None l = omega arith
    nearer (Some i) l = let p = last_within name all k i l in omega (arith, p.1)
