-- The functions that a run may call, looked up by their names.
use Rattle.std.proofs.Common.{◌≡◌, ℕ, zero, suc, ◌+◌, ◌<◌, ◌≤◌, true, false, not, List, [], ◌∷◌, map, length, take, refl, sym, ap, ◌∙◌, arith, slice_index_or, subst, if◌then◌else◌}
use Rattle.std.proofs.lemmas.Bool.{and_parts, and_from, not-true, false≢true}
use Rattle.std.proofs.lemmas.List.{take-map, take-take, get_or-take}
use Rattle.std.specs.Str.{bytes_eq}
use Rattle.c_memory.specs.declared.value.Value.{Value}
use Rattle.c_memory.specs.MeaningState.{State, Binding, ◌>>◌, then_do, undefined}
use Rattle.c_memory.specs.Meaning.{Calls, spend_for}
use Rattle.c_meaning.specs.declared.calls.Callee.{Callee}
use Rattle.c_meaning.specs.declared.objects.Objects.{Objects}
use Rattle.c_meaning.specs.Seen.{seen_objects}
use Rattle.c_meaning.specs.Flagged.{Flagged, call_of, with_function, calls_with, outermost}
use Rattle.c_meaning.specs.Callees.{seen_callee, calls_at, none_called, is_last_called}
use Rattle.c_meaning.specs.Marked.{none_flagged, is_first_flagged}
use Rattle.c_meaning.specs.Weights.{statements_weight, functions_weight}

pub first_flagged_from : (name : List ℕ) (xs : List Callee) (k : ℕ) (d : Callee) → k < length xs → none_flagged name (map seen_callee (take k xs)) ≡ true → bytes_eq name (slice_index_or xs k d).function.now.name ≡ true → is_first_flagged name (map seen_callee xs) k ≡ true
first_flagged_from name [] k d l n h = absurd (omega arith)
first_flagged_from name (x ∷ xs) zero d l n h = h
first_flagged_from name (x ∷ xs) (suc k) d l n h =
    let p = and_parts (not (bytes_eq name x.function.now.name)) (none_flagged name (map seen_callee (take k xs))) n in
    and_from (not (bytes_eq name x.function.now.name)) (is_first_flagged name (map seen_callee xs) k) p.0 (first_flagged_from name xs k d (omega arith) p.1 h)

pub none_flagged_push : (name : List ℕ) (xs : List Callee) (k : ℕ) (d : Callee) → k < length xs → none_flagged name (map seen_callee (take k xs)) ≡ true → bytes_eq name (slice_index_or xs k d).function.now.name ≡ false → none_flagged name (map seen_callee (take (suc k) xs)) ≡ true
none_flagged_push name [] k d l n h = absurd (omega arith)
none_flagged_push name (x ∷ xs) zero d l n h = and_from (not (bytes_eq name x.function.now.name)) true (ap not h) refl
none_flagged_push name (x ∷ xs) (suc k) d l n h =
    let p = and_parts (not (bytes_eq name x.function.now.name)) (none_flagged name (map seen_callee (take k xs))) n in
    and_from (not (bytes_eq name x.function.now.name)) (none_flagged name (map seen_callee (take (suc k) xs))) p.0 (none_flagged_push name xs k d (omega arith) p.1 h)

none_of : (tables : List Binding) (c : Calls) (xs : List Callee) (name : List ℕ) (args : List Value) → none_called name xs ≡ true → calls_with tables c (map seen_callee xs) name args ≡ c name args
none_of tables c [] name args h = refl
none_of tables c (x ∷ xs) name args h =
    let p = and_parts (not (bytes_eq name x.function.now.name)) (none_called name xs) h in
    let e : bytes_eq name x.function.now.name ≡ false = not-true (bytes_eq name x.function.now.name) p.0 in
    none_of tables (with_function tables (seen_callee x) c) xs name args p.1
    ∙ ap (λ b. if b then spend_for name >> call_of tables (seen_callee x) c args else c name args) e

last_of : (tables : List Binding) (c : Calls) (xs : List Callee) (k : ℕ) (d : Callee) (name : List ℕ) (args : List Value) → is_last_called name xs k ≡ true →
    calls_with tables c (map seen_callee xs) name args ≡ (spend_for name >> call_of tables (seen_callee (slice_index_or xs k d)) (calls_with tables c (take k (map seen_callee xs))) args)
last_of tables c [] k d name args h = absurd (false≢true h)
last_of tables c (x ∷ xs) zero d name args h =
    let p = and_parts (bytes_eq name x.function.now.name) (none_called name xs) h in
    none_of tables (with_function tables (seen_callee x) c) xs name args p.1
    ∙ ap (λ b. if b then spend_for name >> call_of tables (seen_callee x) c args else c name args) p.0
last_of tables c (x ∷ xs) (suc k) d name args h = last_of tables (with_function tables (seen_callee x) c) xs k d name args h

-- how a call of a name is found among the first n functions
pub call_passed : (tables : Objects) (c : Calls) (all : List Callee) (n : ℕ) (name : List ℕ) (args : List Value) → none_called name (take n all) ≡ true → calls_at tables c all n name args ≡ c name args
call_passed tables c all n name args h = ap (λ fs. calls_with (seen_objects tables) c fs name args) (take-map seen_callee n all) ∙ none_of (seen_objects tables) c (take n all) name args h

pub call_found : (tables : Objects) (c : Calls) (all : List Callee) (n k : ℕ) (d : Callee) (name : List ℕ) (args : List Value) → k < n → is_last_called name (take n all) k ≡ true →
    calls_at tables c all n name args ≡ (spend_for name >> call_of (seen_objects tables) (seen_callee (slice_index_or all k d)) (calls_at tables c all k) args)
call_found tables c all n k d name args below h =
    let rest : take k (map seen_callee (take n all)) ≡ take k (map seen_callee all) = take-map seen_callee k (take n all) ∙ ap (map seen_callee) (take-take k n all (omega arith)) ∙ sym (take-map seen_callee k all) in
    let it : slice_index_or (take n all) k d ≡ slice_index_or all k d = get_or-take n all k d below in
    ap (λ fs. calls_with (seen_objects tables) c fs name args) (take-map seen_callee n all)
    ∙ last_of (seen_objects tables) c (take n all) k d name args h
    ∙ ap (λ f. spend_for name >> call_of (seen_objects tables) (seen_callee f) (calls_with (seen_objects tables) c (take k (map seen_callee (take n all)))) args) it
    ∙ ap (λ fs. spend_for name >> call_of (seen_objects tables) (seen_callee (slice_index_or all k d)) (calls_with (seen_objects tables) c fs) args) rest

-- the weight of a function and of those before it
pub weight_before : (all : List Callee) (n k : ℕ) (d : Callee) → k < n → k < length all →
    functions_weight (take k (map seen_callee all)) + statements_weight (seen_callee (slice_index_or all k d)).function.body + 8 ≤ functions_weight (take n (map seen_callee all))
weight_before [] n k d below within = absurd (omega arith)
weight_before (x ∷ xs) zero k d below within = absurd (omega arith)
weight_before (x ∷ xs) (suc n) zero d below within = omega arith
weight_before (x ∷ xs) (suc n) (suc k) d below within = omega (arith, weight_before xs n k d (omega arith) (omega arith))

pub outermost_none : (tables : List Binding) (c : Calls) (fs : List Flagged) (name : List ℕ) (args : List Value) → none_flagged name fs ≡ true → outermost tables c fs name args ≡ undefined
outermost_none tables c [] name args h = refl
outermost_none tables c (f ∷ rest) name args h =
    let p = and_parts (not (bytes_eq name f.function.name)) (none_flagged name rest) h in
    let e : bytes_eq name f.function.name ≡ false = not-true (bytes_eq name f.function.name) p.0 in
    ap (λ b. if b then call_of tables f c args else outermost tables (with_function tables f c) rest name args) e
    ∙ outermost_none tables (with_function tables f c) rest name args p.1

found_outermost : (tables : List Binding) (c : Calls) (all : List Callee) (k : ℕ) (d : Callee) (name : List ℕ) (args : List Value) → is_first_flagged name (map seen_callee all) k ≡ true →
    outermost tables c (map seen_callee all) name args ≡ call_of tables (seen_callee (slice_index_or all k d)) (calls_with tables c (take k (map seen_callee all))) args
found_outermost tables c [] k d name args h = absurd (false≢true h)
found_outermost tables c (x ∷ xs) zero d name args h =
    ap (λ b. if b then call_of tables (seen_callee x) c args else outermost tables (with_function tables (seen_callee x) c) (map seen_callee xs) name args) h
found_outermost tables c (x ∷ xs) (suc k) d name args h =
    let p = and_parts (not (bytes_eq name x.function.now.name)) (is_first_flagged name (map seen_callee xs) k) h in
    let e : bytes_eq name x.function.now.name ≡ false = not-true (bytes_eq name x.function.now.name) p.0 in
    ap (λ b. if b then call_of tables (seen_callee x) c args else outermost tables (with_function tables (seen_callee x) c) (map seen_callee xs) name args) e
    ∙ found_outermost tables (with_function tables (seen_callee x) c) xs k d name args p.1

pub outermost_found : (tables : Objects) (c : Calls) (all : List Callee) (k : ℕ) (d : Callee) (name : List ℕ) (args : List Value) → is_first_flagged name (map seen_callee all) k ≡ true →
    outermost (seen_objects tables) c (map seen_callee all) name args ≡ call_of (seen_objects tables) (seen_callee (slice_index_or all k d)) (calls_at tables c all k) args
outermost_found tables c all k d name args h = found_outermost (seen_objects tables) c all k d name args h

pub outermost_enters : (tables : Objects) (c : Calls) (all : List Callee) (k : ℕ) (it : Callee) (name : List ℕ) (args : List Value) (s : State) → is_first_flagged name (map seen_callee all) k ≡ true → it ≡ slice_index_or all k it →
    outermost (seen_objects tables) c (map seen_callee all) name args s ≡ call_of (seen_objects tables) (seen_callee it) (calls_at tables c all k) args s
outermost_enters tables c all k it name args s h e =
    ap (λ p. p s) (outermost_found tables c all k it name args h) ∙ ap (λ f. call_of (seen_objects tables) (seen_callee f) (calls_at tables c all k) args s) (sym e)

-- the call of the function at the place k, where its element is known
pub call_enters : (tables : Objects) (c : Calls) (all : List Callee) (n k : ℕ) (it : Callee) (name : List ℕ) (args : List Value) (s : State) →
    k < n → is_last_called name (take n all) k ≡ true → it ≡ slice_index_or all k it →
    calls_at tables c all n name args s ≡ then_do (spend_for name s) (λ _. call_of (seen_objects tables) (seen_callee it) (calls_at tables c all k) args)
call_enters tables c all n k it name args s below last e =
    ap (λ p. p s) (call_found tables c all n k it name args below last)
    ∙ ap (λ f. then_do (spend_for name s) (λ _. call_of (seen_objects tables) (seen_callee f) (calls_at tables c all k) args)) (sym e)

pub call_of_no_function : (tables : Objects) (c : Calls) (all : List Callee) (n : ℕ) (name : List ℕ) (args : List Value) (s : State) → none_called name (take n all) ≡ true → calls_at tables c all n name args s ≡ c name args s
call_of_no_function tables c all n name args s none = ap (λ p. p s) (call_passed tables c all n name args none)

-- what a call goes down
pub weight_falls : (all : List Callee) (n k : ℕ) (it : Callee) → k < n → k < length all → it ≡ slice_index_or all k it →
    functions_weight (take k (map seen_callee all)) + statements_weight (seen_callee it).function.body + 8 ≤ functions_weight (take n (map seen_callee all))
weight_falls all n k it below inside e =
    subst (λ f. functions_weight (take k (map seen_callee all)) + statements_weight (seen_callee f).function.body + 8 ≤ functions_weight (take n (map seen_callee all))) (sym e) (weight_before all n k it below inside)
