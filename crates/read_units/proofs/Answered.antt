-- What is said of whatever is answered, along the steps that give the answer.
use Rattle.std.proofs.Common.{List, [], ◌∷◌, Option, Some, None}
use Rattle.c_parse.specs.Reading.{◌>>=◌}
use Rattle.c_parse.specs.Repeated.{Each, says_each, means_each}

-- what is answered, if anything is, is so
abbrev pub Holds : {A : Type 0} → (A → Type 0) → Option A → Type 0
Holds P None = Unit {0}
Holds P (Some x) = P x

-- and what is answered from it
pub bound : {A B : Type 0} (P : A → Type 0) (Q : B → Type 0) (o : Option A) (f : A → Option B) → Holds P o → ((x : A) → P x → Holds Q (f x)) → Holds Q (o >>= f)
bound P Q None f h g = tt
bound P Q (Some x) f h g = g x h

-- one after the other
pub says_hold : {S I : Type 0} (P : S → Type 0) (F : I → Type 0) (say : S → I → Option S) → ((s : S) (i : I) → P s → F i → Holds P (say s i)) → (all : List I) (s : S) → P s → Each F all → Holds P (says_each say s all)
says_hold P F say one [] s h f = h
says_hold P F say one (i ∷ rest) s h f = bound P P (say s i) (λ r. says_each say r rest) (one s i h f.0) (λ r k. says_hold P F say one rest r k f.1)

-- each of them
pub means_hold : {I A : Type 0} (F : I → Type 0) (Q : A → Type 0) (means : I → Option A) → ((i : I) → F i → Holds Q (means i)) → (all : List I) → Each F all → Holds (Each Q) (means_each means all)
means_hold F Q means one [] f = tt
means_hold F Q means one (i ∷ rest) f =
    bound Q (Each Q) (means i) (λ x. means_each means rest >>= λ xs. Some (x ∷ xs)) (one i f.0)
    (λ x k. bound (Each Q) (Each Q) (means_each means rest) (λ xs. Some (x ∷ xs)) (means_hold F Q means one rest f.1) (λ xs ks. (k, ks)))
