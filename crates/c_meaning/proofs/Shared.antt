-- Objects in scope over tables that functions share.
use Rattle.std.proofs.Common.{◌≡◌, ℕ, zero, suc, ◌+◌, ◌-◌, ◌<◌, ◌≤◌, Bool, true, false, not, min, List, [], ◌∷◌, ◌++◌, length, take, drop, Option, Some, None, option_map, if◌then◌else◌, IfNone, refl, sym, ap, ◌∙◌, arith, slice_index_or, subst}
use Rattle.std.proofs.Math.Seq.{take-append-add}
use Rattle.std.proofs.lemmas.List.{length-take, take-take, take_all, take-append-le, get_or-take}
use Rattle.std.proofs.lemmas.Bool.{and_parts, and_from, false≢true}
use Rattle.std.specs.Str.{bytes_eq}
use Rattle.c_memory.specs.MeaningState as state
use Rattle.c_memory.specs.MeaningState.{found}
use Rattle.c_meaning.specs.declared.objects.Binding.{Binding}
use Rattle.c_meaning.specs.declared.objects.Objects.{Objects}
use Rattle.c_meaning.specs.declared.places.Places.{Places}
use Rattle.c_meaning.specs.Bindings.{seen_binding, stacked, none_named, is_last_named, is_last_place, ArePlaced}
use Rattle.c_meaning.specs.Places.{place_of}
use Rattle.c_meaning.specs.Seen.{seen_objects}
use Rattle.c_meaning.proofs.Stacks.{stacked_append, length_stacked, stacked_take, found_past, found_none, found_at}

-- ---- the places of tables

named_there : (x : List ℕ) (xs : List Binding) (k : ℕ) (d : Binding) → k < length xs → bytes_eq x (slice_index_or xs k d).name.now ≡ true → is_last_named x (take (suc k) xs) k ≡ true
named_there x [] k d l h = absurd (omega arith)
named_there x (y ∷ ys) zero d l h = and_from (bytes_eq x y.name.now) true h refl
named_there x (y ∷ ys) (suc k) d l h = named_there x ys k d (omega arith) h

none_kept : (x : List ℕ) (xs : List Binding) (k : ℕ) (d : Binding) → k < length xs → bytes_eq x (slice_index_or xs k d).name.now ≡ false → none_named x (take k xs) ≡ true → none_named x (take (suc k) xs) ≡ true
none_kept x [] k d l h n = refl
none_kept x (y ∷ ys) zero d l h n = and_from (not (bytes_eq x y.name.now)) true (ap not h) refl
none_kept x (y ∷ ys) (suc k) d l h n =
    let p = and_parts (not (bytes_eq x y.name.now)) (none_named x (take k ys)) n in
    and_from (not (bytes_eq x y.name.now)) (none_named x (take (suc k) ys)) p.0 (none_kept x ys k d (omega arith) h p.1)

last_kept : (x : List ℕ) (xs : List Binding) (k j : ℕ) (d : Binding) → k < length xs → bytes_eq x (slice_index_or xs k d).name.now ≡ false → is_last_named x (take k xs) j ≡ true → is_last_named x (take (suc k) xs) j ≡ true
last_kept x [] k j d l h n = absurd (omega arith)
last_kept x (y ∷ ys) zero j d l h n = absurd (false≢true n)
last_kept x (y ∷ ys) (suc k) zero d l h n =
    let p = and_parts (bytes_eq x y.name.now) (none_named x (take k ys)) n in
    and_from (bytes_eq x y.name.now) (none_named x (take (suc k) ys)) p.0 (none_kept x ys k d (omega arith) h p.1)
last_kept x (y ∷ ys) (suc k) (suc j) d l h n = last_kept x ys k j d (omega arith) h n

place_more : (x : List ℕ) (xs : List Binding) (k : ℕ) (d : Binding) (o : Option ℕ) (t : Bool) → k < length xs → bytes_eq x (slice_index_or xs k d).name.now ≡ t → is_last_place x (take k xs) o ≡ true →
    is_last_place x (take (suc k) xs) (if t then Some k else o) ≡ true
place_more x xs k d o true l h n = named_there x xs k d l h
place_more x xs k d None false l h n = none_kept x xs k d l h n
place_more x xs k d (Some j) false l h n = last_kept x xs k j d l h n

pub placed_more : (before after : Places) (xs : List Binding) (k m : ℕ) (b : Binding) → k < length xs → m ≡ suc k → b ≡ slice_index_or xs k b → ArePlaced before (take k xs) →
    ((x : List ℕ) → place_of after x ≡ (if bytes_eq x b.name.now then Some k else place_of before x)) → ArePlaced after (take m xs)
placed_more before after xs k m b l e it h set =
    subst (λ i. ArePlaced after (take i xs)) (sym e)
    (λ x. subst (λ o. is_last_place x (take (suc k) xs) o ≡ true) (sym (set x)) (place_more x xs k b (place_of before x) (bytes_eq x b.name.now) l (ap (λ (c : Binding). bytes_eq x c.name.now) (sym it)) (h x)))

none_before : (x : List ℕ) (xs : List Binding) (n : ℕ) → none_named x xs ≡ true → none_named x (take n xs) ≡ true
none_before x xs zero h = refl
none_before x [] (suc n) h = refl
none_before x (y ∷ ys) (suc n) h =
    let p = and_parts (not (bytes_eq x y.name.now)) (none_named x ys) h in
    and_from (not (bytes_eq x y.name.now)) (none_named x (take n ys)) p.0 (none_before x ys n p.1)

last_before : (x : List ℕ) (xs : List Binding) (n k : ℕ) → k < n → is_last_named x xs k ≡ true → is_last_named x (take n xs) k ≡ true
last_before x xs zero k l h = absurd (omega arith)
last_before x [] (suc n) k l h = absurd (false≢true h)
last_before x (y ∷ ys) (suc n) zero l h =
    let p = and_parts (bytes_eq x y.name.now) (none_named x ys) h in
    and_from (bytes_eq x y.name.now) (none_named x (take n ys)) p.0 (none_before x ys n p.1)
last_before x (y ∷ ys) (suc n) (suc k) l h = last_before x ys n k (omega arith) h

last_within : (x : List ℕ) (xs : List Binding) (k : ℕ) → is_last_named x xs k ≡ true → k < length xs
last_within x [] k h = absurd (false≢true h)
last_within x (y ∷ ys) zero h = omega arith
last_within x (y ∷ ys) (suc k) h = omega (arith, last_within x ys k h)

placed : (p : Places) (xs : List Binding) (x : List ℕ) (o o' : Option ℕ) → ArePlaced p xs → o ≡ place_of p x → o ≡ o' → is_last_place x xs o' ≡ true
placed p xs x o o' h e s = ap (is_last_place x xs) (sym s ∙ e) ∙ h x

pub placed_within : (p : Places) (xs : List Binding) (x : List ℕ) (k : ℕ) (o : Option ℕ) → ArePlaced p xs → o ≡ place_of p x → o ≡ Some k → k < length xs
placed_within p xs x k o h e s = last_within x xs k (placed p xs x o (Some k) h e s)

pub placed_none : (p : Places) (xs : List Binding) (x : List ℕ) (n : ℕ) (o : Option ℕ) → ArePlaced p xs → o ≡ place_of p x → o ≡ None → found x (stacked (take n xs) []) ≡ None
placed_none p xs x n o h e s = found_none x (take n xs) (none_before x xs n (placed p xs x o None h e s))

pub placed_at : (p : Places) (xs : List Binding) (x : List ℕ) (n k : ℕ) (b : Binding) (o : Option ℕ) → ArePlaced p xs → o ≡ place_of p x → o ≡ Some k → k < n → b ≡ slice_index_or xs k b → Some (seen_binding b) ≡ found x (stacked (take n xs) [])
placed_at p xs x n k b o h e s l it =
    let last = last_before x xs n k l (placed p xs x o (Some k) h e s) in
    ap (λ (c : Binding). Some (seen_binding c)) (it ∙ sym (get_or-take n xs k b l)) ∙ sym (found_at x (take n xs) k b last)

-- ---- objects over tables

pub all_shown : (ts : List Binding) (n : ℕ) → n ≡ length ts → stacked (take n ts) [] ≡ stacked ts []
all_shown ts n e = ap (λ xs. stacked xs []) (take_all n ts (omega (arith, e)))

pub length_seen : (ts bs : List Binding) (n below count : ℕ) → below ≡ min n (length ts) → count ≡ length bs → below + count ≡ length (stacked bs (stacked (take n ts) []))
length_seen ts bs n below count b c = omega (arith, length_stacked bs (stacked (take n ts) []), length_stacked (take n ts) [], length-take n ts)

whole : (ts bs : List Binding) (n : ℕ) → stacked (take n ts ++ bs) [] ≡ stacked bs (stacked (take n ts) [])
whole ts bs n = stacked_append (take n ts) bs []

stays : (ts bs ys : List Binding) (n count : ℕ) → ys ≡ take count (take n ts ++ bs) → stacked ys [] ≡ drop (length (stacked bs (stacked (take n ts) [])) - count) (stacked bs (stacked (take n ts) []))
stays ts bs ys n count e = subst (λ all. stacked ys [] ≡ drop (length all - count) all) (whole ts bs n) (stacked_take count (take n ts ++ bs) ys e)

pub tables_stay : (ts bs cs : List Binding) (n below count : ℕ) → below ≡ min n (length ts) → count < below → cs ≡ take 0 bs →
    stacked cs (stacked (take count ts) []) ≡ drop (length (stacked bs (stacked (take n ts) [])) - count) (stacked bs (stacked (take n ts) []))
tables_stay ts bs cs n below count b l e =
    ap (λ xs. stacked xs (stacked (take count ts) [])) e
    ∙ stays ts bs (take count ts) n count (sym (take-take count n ts (omega arith)) ∙ sym (take-append-le count (take n ts) bs (omega (arith, length-take n ts))))

pub objects_stay : (ts bs cs : List Binding) (n below count : ℕ) → below ≡ min n (length ts) → below ≤ count → cs ≡ take (count - below) bs →
    stacked cs (stacked (take n ts) []) ≡ drop (length (stacked bs (stacked (take n ts) [])) - count) (stacked bs (stacked (take n ts) []))
objects_stay ts bs cs n below count b l e =
    let sum : length (take n ts) + (count - below) ≡ count = omega (arith, length-take n ts) in
    ap (λ xs. stacked xs (stacked (take n ts) [])) e ∙ sym (whole ts (take (count - below) bs) n)
    ∙ stays ts bs (take n ts ++ take (count - below) bs) n count (sym (take-append-add (take n ts) bs (count - below)) ∙ ap (λ i. take i (take n ts ++ bs)) sum)

pub owned : (ts bs all : List Binding) (n : ℕ) → all ≡ take n ts ++ bs → stacked all [] ≡ stacked bs (stacked (take n ts) [])
owned ts bs all n e = ap (λ xs. stacked xs []) e ∙ whole ts bs n

pub found_nowhere : (name : List ℕ) (bs : List Binding) (all : List state.Binding) (o : Option Binding) → none_named name bs ≡ true → option_map seen_binding o ≡ found name all → o ≡ None → found name (stacked bs all) ≡ None
found_nowhere name bs all o h e n = found_past name bs all h ∙ sym e ∙ ap (option_map seen_binding) n

pub none_among : (name : List ℕ) (o : Objects) (bs : List Binding) (p : Option ℕ) → o.shown ≡ 0 → bs ≡ o.bindings.items → IfNone p (none_named name bs ≡ true) → IfNone p (found name (seen_objects o) ≡ None)
none_among name o bs None none e h =
    ap (λ n. found name (stacked o.bindings.items (stacked (take n o.tables.now.bindings.items) []))) none ∙ found_none name o.bindings.items (ap (none_named name) (sym e) ∙ h)
none_among name o bs (Some k) none e h = tt
