-- Objects in scope as the code keeps them, the innermost last.
use Rattle.std.proofs.Common.{◌≡◌, ℕ, zero, suc, ◌+◌, ◌-◌, ◌<◌, Bool, true, false, not, List, [], ◌∷◌, ◌++◌, length, take, drop, map, reverse, Some, None, if◌then◌else◌, refl, sym, ap, ◌∙◌, arith, slice_index_or, slice_set, subst}
use Rattle.std.proofs.lemmas.List.{reverse-append, take-append-drop, drop-drop, length-drop, drop_more}
use Rattle.std.proofs.lemmas.Bool.{and_parts, and_from, not-true, false≢true}
use Rattle.std.specs.Str.{bytes_eq}
use Rattle.c_memory.specs.MeaningState as state
use Rattle.c_memory.specs.MeaningState.{found, changed}
use Rattle.c_meaning.specs.declared.objects.Binding.{Binding}
use Rattle.c_meaning.specs.declared.objects.Location.{Location}
use Rattle.c_meaning.specs.Bindings.{seen_location, seen_binding, stacked, none_named, is_last_named, relocated}

pub stacked_append : (xs ys : List Binding) (all : List state.Binding) → stacked (xs ++ ys) all ≡ stacked ys (stacked xs all)
stacked_append [] ys all = refl
stacked_append (x ∷ xs) ys all = stacked_append xs ys (seen_binding x ∷ all)

pub length_stacked : (xs : List Binding) (all : List state.Binding) → length (stacked xs all) ≡ length xs + length all
length_stacked [] all = omega arith
length_stacked (x ∷ xs) all = omega (arith, length_stacked xs (seen_binding x ∷ all))

pub stacked_push : (xs ys : List Binding) (x : Binding) (all : List state.Binding) → ys ≡ xs ++ x ∷ [] → stacked ys all ≡ seen_binding x ∷ stacked xs all
stacked_push xs ys x all e = ap (λ zs. stacked zs all) e ∙ stacked_append xs (x ∷ []) all

drop_past : (xs : List Binding) (all : List state.Binding) → drop (length xs) (stacked xs all) ≡ all
drop_past [] all = refl
drop_past (x ∷ xs) all =
    let e : length xs + 1 ≡ suc (length xs) = omega arith in
    ap (λ n. drop n (stacked xs (seen_binding x ∷ all))) (sym e) ∙ sym (drop-drop 1 (length xs) (stacked xs (seen_binding x ∷ all))) ∙ ap (drop 1) (drop_past xs (seen_binding x ∷ all))

drop_front : (n : ℕ) (xs : List Binding) → drop (length xs - n) (stacked xs []) ≡ stacked (take n xs) []
drop_front n xs =
    ap (λ m. drop m (stacked xs [])) (sym (length-drop n xs))
    ∙ ap (λ zs. drop (length (drop n xs)) (stacked zs [])) (sym (take-append-drop n xs))
    ∙ ap (drop (length (drop n xs))) (stacked_append (take n xs) (drop n xs) [])
    ∙ drop_past (drop n xs) (stacked (take n xs) [])

-- the first n objects are what stays of a stack where the others leave
pub stacked_take : (n : ℕ) (xs ys : List Binding) → ys ≡ take n xs → stacked ys [] ≡ drop (length (stacked xs []) - n) (stacked xs [])
stacked_take n xs ys e =
    ap (λ zs. stacked zs []) e ∙ sym (drop_front n xs)
    ∙ (let same : length xs - n ≡ length (stacked xs []) - n = omega (arith, length_stacked xs []) in ap (λ m. drop m (stacked xs [])) same)

pub stacked_reverse : (xs : List Binding) → stacked (reverse xs) [] ≡ map seen_binding xs
stacked_reverse [] = refl
stacked_reverse (x ∷ xs) =
    stacked_push (reverse xs) (reverse (x ∷ xs)) x [] (reverse-append (x ∷ []) xs) ∙ ap (λ all. seen_binding x ∷ all) (stacked_reverse xs)

pub found_past : (name : List ℕ) (xs : List Binding) (all : List state.Binding) → none_named name xs ≡ true → found name (stacked xs all) ≡ found name all
found_past name [] all h = refl
found_past name (x ∷ xs) all h =
    let p = and_parts (not (bytes_eq name x.name.now)) (none_named name xs) h in
    let e : bytes_eq name x.name.now ≡ false = not-true (bytes_eq name x.name.now) p.0 in
    found_past name xs (seen_binding x ∷ all) p.1 ∙ ap (λ b. if b then Some (seen_binding x) else found name all) e

pub changed_past : (name : List ℕ) (f : state.Location → state.Location) (xs : List Binding) (all : List state.Binding) → none_named name xs ≡ true → changed name f (stacked xs all) ≡ stacked xs (changed name f all)
changed_past name f [] all h = refl
changed_past name f (x ∷ xs) all h =
    let p = and_parts (not (bytes_eq name x.name.now)) (none_named name xs) h in
    let e : bytes_eq name x.name.now ≡ false = not-true (bytes_eq name x.name.now) p.0 in
    changed_past name f xs (seen_binding x ∷ all) p.1
    ∙ ap (λ b. stacked xs (if b then record (seen_binding x) { location = f (seen_location x.location) } ∷ all else seen_binding x ∷ changed name f all)) e

pub found_none : (name : List ℕ) (xs : List Binding) → none_named name xs ≡ true → found name (stacked xs []) ≡ None
found_none name xs h = found_past name xs [] h

pub found_on : (name : List ℕ) (xs : List Binding) (k : ℕ) (d : Binding) (all : List state.Binding) → is_last_named name xs k ≡ true → found name (stacked xs all) ≡ Some (seen_binding (slice_index_or xs k d))
found_on name [] k d all h = absurd (false≢true h)
found_on name (x ∷ xs) zero d all h =
    let p = and_parts (bytes_eq name x.name.now) (none_named name xs) h in
    found_past name xs (seen_binding x ∷ all) p.1 ∙ ap (λ b. if b then Some (seen_binding x) else found name all) p.0
found_on name (x ∷ xs) (suc k) d all h = found_on name xs k d (seen_binding x ∷ all) h

pub found_at : (name : List ℕ) (xs : List Binding) (k : ℕ) (d : Binding) → is_last_named name xs k ≡ true → found name (stacked xs []) ≡ Some (seen_binding (slice_index_or xs k d))
found_at name xs k d h = found_on name xs k d [] h

changed_on : (name : List ℕ) (f : state.Location → state.Location) (xs : List Binding) (k : ℕ) (d : Binding) (l : Location) (all : List state.Binding) →
    is_last_named name xs k ≡ true → seen_location l ≡ f (seen_location (slice_index_or xs k d).location) →
    changed name f (stacked xs all) ≡ stacked (slice_set xs k (relocated (slice_index_or xs k d) l)) all
changed_on name f [] k d l all h e = absurd (false≢true h)
changed_on name f (x ∷ xs) zero d l all h e =
    let p = and_parts (bytes_eq name x.name.now) (none_named name xs) h in
    changed_past name f xs (seen_binding x ∷ all) p.1
    ∙ ap (λ b. stacked xs (if b then record (seen_binding x) { location = f (seen_location x.location) } ∷ all else seen_binding x ∷ changed name f all)) p.0
    ∙ ap (λ m. stacked xs (record (seen_binding x) { location = m } ∷ all)) (sym e)
changed_on name f (x ∷ xs) (suc k) d l all h e = changed_on name f xs k d l (seen_binding x ∷ all) h e

pub changed_at : (name : List ℕ) (f : state.Location → state.Location) (xs ys : List Binding) (k : ℕ) (d : Binding) (l : Location) (all : List state.Binding) →
    is_last_named name xs k ≡ true → seen_location l ≡ f (seen_location (slice_index_or xs k d).location) →
    ys ≡ slice_set xs k (relocated (slice_index_or xs k d) l) → stacked ys all ≡ changed name f (stacked xs all)
changed_at name f xs ys k d l all h e same = ap (λ zs. stacked zs all) same ∙ sym (changed_on name f xs k d l all h e)

pub relocated_at : (name : List ℕ) (xs ys : List Binding) (k : ℕ) (d : Binding) (l : Location) (all : List state.Binding) →
    is_last_named name xs k ≡ true → ys ≡ slice_set xs k (relocated (slice_index_or xs k d) l) → stacked ys all ≡ changed name (λ _. seen_location l) (stacked xs all)
relocated_at name xs ys k d l all h same = changed_at name (λ _. seen_location l) xs ys k d l all h refl same

pub changed_nowhere : (name : List ℕ) (f : state.Location → state.Location) (all : List state.Binding) → found name all ≡ None → changed name f all ≡ all
changed_nowhere name f [] h = refl
changed_nowhere name f (b ∷ rest) h = go (bytes_eq name b.name) (changed_nowhere name f rest) h
  where
    go : (t : Bool) → (found name rest ≡ None → changed name f rest ≡ rest) → (if t then Some b else found name rest) ≡ None →
        (if t then record b { location = f b.location } ∷ rest else b ∷ changed name f rest) ≡ b ∷ rest
    go true more e = absurd cc
    go false more e = ap (λ l. b ∷ l) (more e)

pub last_named_from : (name : List ℕ) (xs : List Binding) (k : ℕ) (d : Binding) → k < length xs → bytes_eq name (slice_index_or xs k d).name.now ≡ true → none_named name (drop (k + 1) xs) ≡ true → is_last_named name xs k ≡ true
last_named_from name [] k d l h n = absurd (omega arith)
last_named_from name (x ∷ xs) zero d l h n = and_from (bytes_eq name x.name.now) (none_named name xs) h n
last_named_from name (x ∷ xs) (suc k) d l h n =
    let e : suc k + 1 ≡ suc (k + 1) = omega arith in
    last_named_from name xs k d (omega arith) h (subst (λ m. none_named name (drop m (x ∷ xs)) ≡ true) e n)

pub none_named_more : (name : List ℕ) (xs : List Binding) (k : ℕ) (d : Binding) → k < length xs → bytes_eq name (slice_index_or xs k d).name.now ≡ false → none_named name (drop (k + 1) xs) ≡ true → none_named name (drop k xs) ≡ true
none_named_more name xs k d l h n =
    ap (none_named name) (drop_more xs k d l) ∙ and_from (not (bytes_eq name (slice_index_or xs k d).name.now)) (none_named name (drop (k + 1) xs)) (ap not h) n
