-- Places of names.
use Rattle.std.proofs.Common.{◌≡◌, ◌∙◌, ℕ, Bool, true, false, cond, if◌then◌else◌, List, [], ◌∷◌, Vec, Option, Some, refl, sym, ap, true≢false, nat_eq}
use Rattle.std.specs.Cmp.Lexicographic.{pointwise, bytes_decides}
use Rattle.std.specs.Map.{lookup}
use Rattle.std.specs.Str.{bytes_eq}
use Rattle.std.specs.declared.alloc.Global.{Global}
use Rattle.indexmap.specs.IndexMap.{insert_entry}

abbrev pub place : List ℕ → List (Vec ℕ Global × ℕ) → Option ℕ
place x es = lookup (λ q. bytes_eq x q.items) es

there : (xe xk : Bool) (v b : ℕ) (r : Option ℕ) → xe ≡ xk → cond {A = Option ℕ} xe (Some b) r ≡ (if xk then Some b else cond {A = Option ℕ} xe (Some v) r)
there true true v b r e = refl
there true false v b r e = absurd (true≢false e)
there false true v b r e = absurd (true≢false (sym e))
there false false v b r e = refl

past : (xe xk : Bool) (v b : ℕ) (r s : Option ℕ) → (xe ≡ true → xk ≡ true → true ≡ false) → s ≡ (if xk then Some b else r) → cond {A = Option ℕ} xe (Some v) s ≡ (if xk then Some b else cond {A = Option ℕ} xe (Some v) r)
past true true v b r s n h = absurd (true≢false (n refl refl))
past true false v b r s n h = refl
past false xk v b r s n h = h

same_name : (x k y : List ℕ) → bytes_eq k y ≡ true → bytes_eq x y ≡ bytes_eq x k
same_name x k y e = ap (bytes_eq x) (sym ((bytes_decides k y).0 e))

other_name : (x k y : List ℕ) → bytes_eq k y ≡ false → bytes_eq x y ≡ true → bytes_eq x k ≡ true → true ≡ false
other_name x k y e p q = sym ((bytes_decides k y).1 (sym ((bytes_decides x k).0 q) ∙ (bytes_decides x y).0 p)) ∙ e

inserted : (es : List (Vec ℕ Global × ℕ)) (k : Vec ℕ Global) (b : ℕ) (x : List ℕ) →
    place x (insert_entry (λ p q. pointwise nat_eq p.items q.items) es k b) ≡ (if bytes_eq x k.items then Some b else place x es)
inserted [] k b x = refl
inserted (e ∷ es) k b x = go (bytes_eq k.items e.0.items) refl (inserted es k b x)
  where
    go : (t : Bool) → bytes_eq k.items e.0.items ≡ t → place x (insert_entry (λ p q. pointwise nat_eq p.items q.items) es k b) ≡ (if bytes_eq x k.items then Some b else place x es) →
        place x (if t then (e.0, b) ∷ es else e ∷ insert_entry (λ p q. pointwise nat_eq p.items q.items) es k b) ≡ (if bytes_eq x k.items then Some b else place x (e ∷ es))
    go true p h = there (bytes_eq x e.0.items) (bytes_eq x k.items) e.1 b (place x es) (same_name x k.items e.0.items p)
    go false p h = past (bytes_eq x e.0.items) (bytes_eq x k.items) e.1 b (place x es) (place x (insert_entry (λ p q. pointwise nat_eq p.items q.items) es k b)) (other_name x k.items e.0.items p) h

pub set_place : (es fs : List (Vec ℕ Global × ℕ)) (k : Vec ℕ Global) (n : List ℕ) (b : ℕ) → fs ≡ insert_entry (λ p q. pointwise nat_eq p.items q.items) es k b → k.items ≡ n →
    (x : List ℕ) → place x fs ≡ (if bytes_eq x n then Some b else place x es)
set_place es fs k n b e f x = ap (place x) e ∙ inserted es k b x ∙ ap (λ m. if bytes_eq x m then Some b else place x es) f
