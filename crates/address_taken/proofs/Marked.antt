-- Marks that are set, and names that are hidden.
use Rattle.std.proofs.Common.{◌≡◌, ◌∙◌, ℕ, Bool, true, false, cond, if◌then◌else◌, not, ◌&&◌, ◌||◌, List, [], ◌∷◌, ◌++◌, Vec, Option, Some, None, refl, sym, ap, true≢false, nat_eq}
use Rattle.std.specs.Cmp.Lexicographic.{pointwise, bytes_decides}
use Rattle.std.specs.Map.{lookup}
use Rattle.std.specs.Str.{bytes_eq}
use Rattle.std.specs.declared.alloc.Global.{Global}
use Rattle.indexmap.specs.IndexMap.{insert_entry}
use Rattle.address_taken.specs.Marks.{mark, is_among}

-- a set mark
inserted_none : (t b : Bool) → mark (cond t (Some b) None) ≡ (if t then b else false)
inserted_none true b = refl
inserted_none false b = refl

abbrev pub found : List ℕ → List (Vec ℕ Global × Bool) → Option Bool
found x es = lookup (λ q. bytes_eq x q.items) es

same_name : (x k y : List ℕ) → bytes_eq k y ≡ true → bytes_eq x y ≡ bytes_eq x k
same_name x k y e = ap (bytes_eq x) (sym ((bytes_decides k y).0 e))

other_name : (x k y : List ℕ) → bytes_eq k y ≡ false → bytes_eq x y ≡ true → bytes_eq x k ≡ true → true ≡ false
other_name x k y e p q = sym ((bytes_decides k y).1 (sym ((bytes_decides x k).0 q) ∙ (bytes_decides x y).0 p)) ∙ e

there : (xe xk : Bool) (v b : Bool) (r : Option Bool) → xe ≡ xk → mark (cond xe (Some b) r) ≡ (if xk then b else mark (cond xe (Some v) r))
there true true v b r e = refl
there true false v b r e = absurd (true≢false e)
there false true v b r e = absurd (true≢false (sym e))
there false false v b r e = refl

past : (xe xk : Bool) (v b : Bool) (r s : Option Bool) → (xe ≡ true → xk ≡ true → true ≡ false) → mark s ≡ (if xk then b else mark r) → mark (cond xe (Some v) s) ≡ (if xk then b else mark (cond xe (Some v) r))
past true true v b r s n h = absurd (true≢false (n refl refl))
past true false v b r s n h = refl
past false xk v b r s n h = h

pub inserted : (es : List (Vec ℕ Global × Bool)) (k : Vec ℕ Global) (b : Bool) (x : List ℕ) →
    mark (found x (insert_entry (λ p q. pointwise nat_eq p.items q.items) es k b)) ≡ (if bytes_eq x k.items then b else mark (found x es))
inserted [] k b x = inserted_none (bytes_eq x k.items) b
inserted (e ∷ es) k b x = go (bytes_eq k.items e.0.items) refl (inserted es k b x)
  where
    go : (t : Bool) → bytes_eq k.items e.0.items ≡ t → mark (found x (insert_entry (λ p q. pointwise nat_eq p.items q.items) es k b)) ≡ (if bytes_eq x k.items then b else mark (found x es)) →
        mark (found x (if t then (e.0, b) ∷ es else e ∷ insert_entry (λ p q. pointwise nat_eq p.items q.items) es k b)) ≡ (if bytes_eq x k.items then b else mark (found x (e ∷ es)))
    go true p h = there (bytes_eq x e.0.items) (bytes_eq x k.items) e.1 b (found x es) (same_name x k.items e.0.items p)
    go false p h = past (bytes_eq x e.0.items) (bytes_eq x k.items) e.1 b (found x es) (found x (insert_entry (λ p q. pointwise nat_eq p.items q.items) es k b)) (other_name x k.items e.0.items p) h

pub set_mark : (es fs : List (Vec ℕ Global × Bool)) (k : Vec ℕ Global) (n : List ℕ) (b : Bool) → fs ≡ insert_entry (λ p q. pointwise nat_eq p.items q.items) es k b → k.items ≡ n →
    (x : List ℕ) → mark (found x fs) ≡ (if bytes_eq x n then b else mark (found x es))
set_mark es fs k n b e f x = ap (λ l. mark (found x l)) e ∙ inserted es k b x ∙ ap (λ m. if bytes_eq x m then b else mark (found x es)) f

-- one more hidden name
pub among_more : (x : List ℕ) (hs : List (List ℕ)) (n : List ℕ) → is_among x (hs ++ n ∷ []) ≡ (is_among x hs || bytes_eq x n)
among_more x [] n = go (bytes_eq x n)
  where
    go : (t : Bool) → (t || false) ≡ t
    go true = refl
    go false = refl
among_more x (y ∷ hs) n = go (bytes_eq x y) (among_more x hs n)
  where
    go : (t : Bool) → is_among x (hs ++ n ∷ []) ≡ (is_among x hs || bytes_eq x n) → (t || is_among x (hs ++ n ∷ [])) ≡ ((t || is_among x hs) || bytes_eq x n)
    go true h = refl
    go false h = h

kept_marked : (h f : Bool) → f ≡ true → (false || (h || true)) ≡ (f || h)
kept_marked true true e = refl
kept_marked false true e = refl
kept_marked h false e = absurd (true≢false (sym e))

kept_other : (h f : Bool) → (f || (h || false)) ≡ (f || h)
kept_other true f = refl
kept_other false f = refl

pub kept_one : (f g : List ℕ → Bool) (n : List ℕ) (hs ks : List (List ℕ)) → f n ≡ true → ((x : List ℕ) → g x ≡ (not (bytes_eq x n) && f x)) → ks ≡ hs ++ n ∷ [] →
    (x : List ℕ) → (g x || is_among x ks) ≡ (f x || is_among x hs)
kept_one f g n hs ks m step more x = ap (λ l. g x || is_among x l) more ∙ ap (λ t. g x || t) (among_more x hs n) ∙ ap (λ t. t || (is_among x hs || bytes_eq x n)) (step x) ∙ go (bytes_eq x n) refl
  where
    go : (t : Bool) → bytes_eq x n ≡ t → ((not t && f x) || (is_among x hs || t)) ≡ (f x || is_among x hs)
    go true p = kept_marked (is_among x hs) (f x) (ap f ((bytes_decides x n).0 p) ∙ m)
    go false p = kept_other (is_among x hs) (f x)
