-- Reading the items of a unit one after the other.
use Rattle.std.proofs.Common.{◌≡◌, ℕ, ◌+◌, ◌<◌, ◌≤◌, List, [], ◌∷◌, ◌++◌, length, Bool, true, false, Option, Some, None, refl, sym, ◌∙◌, ap, arith}
use Rattle.std.specs.Prelude.{nat_le, ◌||◌}
use Rattle.std.proofs.lemmas.Bool.{leb-false}
use Rattle.std.proofs.lemmas.List.{append-nil, length-map}
use Rattle.c_text.specs.declared.tokens.Dialect.{Dialect}
use Rattle.c_text.specs.declared.tokens.Token.{Token}
use Rattle.c_tree.specs.declared.units.Function.{Function}
use Rattle.c_tree.specs.Tree.{External}
use Rattle.c_tree.specs.View.{view_declared, view_function}
use Rattle.c_parse.specs.Reading.{◌>>=◌}
use Rattle.c_parse.specs.ItemReading.{item_front, and_items, unit_of, with_items, added}
use Rattle.c_parse.specs.Limits.{passes_limit}
use Rattle.c_parse.proofs.ItemsRead.{unit_end, unit_eq, unit_step}

one_more : (all : List External) (x : External) (rest : List External) → all ++ x ∷ rest ≡ (all ++ (x ∷ [])) ++ rest
one_more [] x rest = refl
one_more (y ∷ all) x rest = ap (λ l. y ∷ l) (one_more all x rest)

grows : (all : List External) (x : Option External) (o : Option (List External)) → with_items all (o >>= λ rest. Some (and_items x rest)) ≡ with_items (added all x) o
grows all None None = refl
grows all None (Some rest) = refl
grows all (Some x) None = refl
grows all (Some x) (Some rest) = ap Some (one_more all x rest)

-- one more item of a unit
pub items_step : (d : Dialect) (ts us : List Token) (all new : List External) (x : Option External) (whole : Option (List External)) → whole ≡ with_items all (unit_of d ts) →
    item_front d ts ≡ Some (x, us) → new ≡ added all x → whole ≡ with_items new (unit_of d us)
items_step d ts us all new x whole goes read grown =
    goes ∙ ap (with_items all) (unit_step d ts us x read) ∙ grows all x (unit_of d us) ∙ ap (λ l. with_items l (unit_of d us)) (sym grown)

pub items_end : (d : Dialect) (ts : List Token) (all : List External) (whole : Option (List External)) → whole ≡ with_items all (unit_of d ts) → length ts < 1 → whole ≡ Some all
items_end d [] all whole goes none = goes ∙ ap (with_items all) (unit_end d) ∙ ap Some (append-nil all)
items_end d (t ∷ ts) all whole goes none = absurd (omega arith)

pub items_stuck : (d : Dialect) (t : Token) (ts : List Token) (all : List External) (whole : Option (List External)) → whole ≡ with_items all (unit_of d (t ∷ ts)) → item_front d (t ∷ ts) ≡ None → whole ≡ None
items_stuck d t ts all whole goes stuck =
    let none : unit_of d (t ∷ ts) ≡ None = unit_eq d t ts ∙ rw stuck refl in
    goes ∙ ap (with_items all) none

-- a function that passes no limit leaves room for it
pub room : (before parameters : ℕ) → passes_limit before parameters ≡ false → before + 1 ≤ 4096
room before parameters e = go (nat_le 4096 before) refl e
  where
    go : (b : Bool) → nat_le 4096 before ≡ b → (b || nat_le 128 parameters) ≡ false → before + 1 ≤ 4096
    go true h f = absurd (cc)
    go false h f = let less = leb-false 4096 before h in omega arith

-- a function has as many parameters as the code counts
pub parameters : (f : Function) → length (view_function f).params ≡ length f.params.items
parameters f = length-map f.params.items view_declared
