-- The names of parameters and steps are all different.
use Rattle.std.proofs.Common.{◌≡◌, ℕ, suc, ◌+◌, ◌<◌, ◌≤◌, ◌^◌, ◌++◌, List, [], ◌∷◌, Bool, true, false, refl, ap, ◌∙◌, arith, length, drop}
use Rattle.std.proofs.lemmas.Fmt.{decimal_injective}
use Rattle.std.proofs.lemmas.Slice.Eq.{bytes_eq-Decides}
use Rattle.std.specs.Prelude.{◌&&◌, not}
use Rattle.std.specs.Str.{bytes_eq}
use Rattle.c_tree.specs.declared.types.CType.{CType}
use Rattle.seq_core.specs.Functions.{Variable, param_name, step_name, params_from}

-- the name is none of theirs
abbrev pub is_new : List ℕ → List Variable → Bool
is_new m [] = true
is_new m (x ∷ xs) = not (bytes_eq x.name m) && is_new m xs

-- these have the names of these numbers on
abbrev pub NamedFrom : (ℕ → List ℕ) → ℕ → List Variable → Type 0
NamedFrom f k [] = Unit {0}
NamedFrom f k (x ∷ xs) = (x.name ≡ f k) × NamedFrom f (suc k) xs

-- names of different numbers differ
abbrev pub Different : (ℕ → List ℕ) → Type 0
Different f = (m n : ℕ) → m < n → n < 2 ^ 64 → bytes_eq (f m) (f n) ≡ false

not_equal : (x y : List ℕ) → (x ≡ y → ⊥) → bytes_eq x y ≡ false
not_equal x y h = by_case (bytes_eq x y) refl
  where
    by_case : (b : Bool) → bytes_eq x y ≡ b → bytes_eq x y ≡ false
    by_case true e = absurd (h ((bytes_eq-Decides x y).0 e))
    by_case false e = e

pub steps_differ : Different step_name
steps_differ m n h l = not_equal (step_name m) (step_name n) (λ e. let d = decimal_injective m n (omega (arith, h, l)) l (ap (drop 1) e) in omega (arith, d, h))

pub params_differ : Different param_name
params_differ m n h l = not_equal (param_name m) (param_name n) (λ e. let d = decimal_injective m n (omega (arith, h, l)) l (ap (drop 1) e) in omega (arith, d, h))

pub named_new : (f : ℕ → List ℕ) → Different f → (n k : ℕ) (xs : List Variable) → NamedFrom f k xs → k + length xs ≤ n → n < 2 ^ 64 → is_new (f n) xs ≡ true
named_new f d n k [] h l b = refl
named_new f d n k (x ∷ xs) h l b = rw (h.0, d k n (omega (arith, l)) b) (named_new f d n (suc k) xs h.1 (omega (arith, l)) b)

pub named_push : (f : ℕ → List ℕ) (k : ℕ) (xs : List Variable) (x : Variable) → NamedFrom f k xs → (n : ℕ) → x.name ≡ f n → n ≡ k + length xs → NamedFrom f k (xs ++ x ∷ [])
named_push f k [] x h n e l = let z : n ≡ k = omega (arith, l) in (e ∙ ap f z, tt)
named_push f k (y ∷ ys) x h n e l = (h.0, named_push f (suc k) ys x h.1 n e (omega (arith, l)))

-- a step has no parameter's name
pub steps_are_new : (j k : ℕ) (ts : List CType) → is_new (step_name j) (params_from k ts) ≡ true
steps_are_new j k [] = refl
steps_are_new j k (t ∷ ts) = steps_are_new j (k + 1) ts

abbrev pub NewParameters : List Variable → List Variable → Type 0
NewParameters qs [] = Unit {0}
NewParameters qs (x ∷ xs) = (is_new x.name qs ≡ true) × NewParameters (qs ++ x ∷ []) xs

pub length_push : (xs : List Variable) (x : Variable) → length (xs ++ x ∷ []) ≡ length xs + 1
length_push [] x = refl
length_push (y ∷ ys) x = let q : suc (length ys + 1) ≡ suc (length ys) + 1 = omega arith in ap suc (length_push ys x) ∙ q

pub params_are_new : (qs : List Variable) (k : ℕ) (ts : List CType) → NamedFrom param_name 0 qs → length qs ≡ k → k + length ts < 2 ^ 64 → NewParameters qs (params_from k ts)
params_are_new qs k [] h e l = tt
params_are_new qs k (t ∷ ts) h e l =
    let x : Variable = record { name = param_name k; ty = t } in (
      named_new param_name params_differ k 0 qs h (omega (arith, e)) (omega (arith, l)),
      params_are_new (qs ++ x ∷ []) (k + 1) ts (named_push param_name 0 qs x h k refl (omega (arith, e))) (length_push qs x ∙ ap (λ n. n + 1) e) (omega (arith, l)),
    )
