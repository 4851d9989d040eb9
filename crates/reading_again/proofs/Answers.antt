-- Answers that are the same without their places, and steps of a check.
use Rattle.std.proofs.Common.{◌≡◌, ℕ, List, Bool, true, false, Option, Some, None, Ok, Err, refl, sym, ap, subst, []}
use Rattle.std.specs.Prelude.{option_map}
use Rattle.c_text.specs.declared.tokens.Place.{Place}
use Rattle.c_text.specs.declared.refusals.Refusal.{Refusal}
use Rattle.c_tree.specs.Tree.{Tree}
use Rattle.c_tree.specs.Same.{nowhere}
use Rattle.expression_types.specs.Check.{◌>>=◌, Checked, refuse, typed, admitted}
use Rattle.reading_again.specs.Unplaced.{unplaced}
use Rattle.reading_again.specs.Answers.{unplaced_refusal, unplaced_answer}

-- the answers are the same without their places
abbrev pub Alike : {A B : Type 0} → Bool → (A → B) → Checked A → Checked A → Type 0
Alike exact f x y = unplaced_answer exact f x ≡ unplaced_answer exact f y

abbrev found : {A : Type 0} → A → Checked A → A
found a (Ok b) = b
found a (Err r) = a

abbrev refused : {A : Type 0} → Refusal → Checked A → Refusal
refused r (Ok b) = r
refused r (Err s) = s

abbrev IsOk : {A : Type 0} → Checked A → Type 0
IsOk (Ok a) = Unit {0}
IsOk (Err r) = ⊥

abbrev as_err : {A : Type 0} → Refusal → Checked A
as_err r = Err r

ok_same : {A : Type 0} (a b : A) → ◌≡◌ {A = Checked A} (Ok a) (Ok b) → a ≡ b
ok_same a b e = ap (found a) e

err_same : {A : Type 0} (r s : Refusal) → ◌≡◌ {A = Checked A} (Err r) (Err s) → r ≡ s
err_same r s e = ap (refused r) e

ok_err : {A : Type 0} (a : A) (r : Refusal) → ◌≡◌ {A = Checked A} (Ok a) (Err r) → ⊥
ok_err a r e = subst IsOk e tt

pub go_on : {A B C D : Type 0} (exact : Bool) (f : A → B) (g : C → D) (x y : Checked A) (h k : A → Checked C) → Alike exact f x y → ((a b : A) → f a ≡ f b → Alike exact g (h a) (k b)) → Alike exact g (x >>= h) (y >>= k)
go_on exact f g (Ok a) (Ok b) h k e step = step a b (ok_same (f a) (f b) e)
go_on exact f g (Err r) (Err s) h k e step = ap as_err (err_same (unplaced_refusal exact r) (unplaced_refusal exact s) e)
go_on exact f g (Ok a) (Err r) h k e step = absurd (ok_err (f a) (unplaced_refusal exact r) e)
go_on exact f g (Err r) (Ok a) h k e step = absurd (ok_err (f a) (unplaced_refusal exact r) (sym e))

-- a refusal in another place
pub refuse_alike : {A B : Type 0} (exact : Bool) (f : A → B) (n : ℕ) (p q : Place) (d : List ℕ) → Alike exact f (refuse n p d) (refuse n q d)
refuse_alike true f n p q d = refl
refuse_alike false f n p q d = refl

-- a node that is the same without its place
pub typed_alike : (exact : Bool) (p q : Place) (d : List ℕ) (x y : Option Tree) → option_map unplaced x ≡ option_map unplaced y → Alike exact unplaced (typed p d x) (typed q d y)
typed_alike exact p q d (Some a) (Some b) e = ap (λ o. unplaced_option exact o) e
  where
    unplaced_option : Bool → Option Tree → Checked Tree
    unplaced_option exact (Some a) = Ok a
    unplaced_option exact None = refuse 0 nowhere []
typed_alike exact p q d None None e = refuse_alike exact unplaced 11 p q d
typed_alike exact p q d (Some a) None e = absurd (cc)
typed_alike exact p q d None (Some b) e = absurd (cc)

pub admitted_alike : (exact outside : Bool) (p q : Place) (d : List ℕ) (a b : Tree) → unplaced a ≡ unplaced b → Alike exact unplaced (admitted outside p d a) (admitted outside q d b)
admitted_alike exact true p q d a b e = refuse_alike exact unplaced 18 p q d
admitted_alike exact false p q d a b e = ap (λ t. Ok t) e
