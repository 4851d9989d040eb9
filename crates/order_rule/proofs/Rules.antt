-- The test of a part is true exactly where the three rules hold of it.
use Rattle.std.proofs.Common.{◌≡◌, ◌↔◌, ◌⊎◌, inl, inr, ℕ, Bool, true, false, not, ◌&&◌, ◌||◌, List, [], ◌∷◌, Option, Some, None, option_map, is_some, refl, sym, ap, subst}
use Rattle.std.specs.Bool.{IsTrue}
use Rattle.std.proofs.lemmas.Bool.{true≢false, false≢true, and_parts, and_from, or_cases, not-true}
use Rattle.std.proofs.lemmas.Slice.Eq.{bytes_eq-Decides}
use Rattle.c_text.specs.declared.tokens.Place.{Place}
use Rattle.c_tree.specs.declared.types.CType.{CType}
use Rattle.c_tree.specs.Tree as tree
use Rattle.c_tree.specs.Tree.{Tree, Kind, Trees, Node, NoTrees, More, Definition}
use Rattle.address_taken.specs.Addressed.{is_name}
use Rattle.c_tree.specs.Nodes.{root}
use Rattle.scopes.specs.Scopes.{or_else}
use Rattle.order_rule.specs.declared.times.Times.{Times}
use Rattle.order_rule.specs.declared.times.Times.TheVariants.{Never, Once, Often}
use Rattle.order_rule.specs.Callees.{Callees}
use Rattle.order_rule.specs.Memory.{Env}
use Rattle.order_rule.specs.Writing.{occurrences, is_target, changes, changes_in, changes_in_all, writers}
use Rattle.order_rule.specs.Reading.{reads}
use Rattle.order_rule.specs.Parts.{assigns_once, assigns_memory, Passes, is_once, may_change, may_change_target, changes_well, changes_well_in, changes_well_in_all, writes_well, passes, unless, broken, broken_in, broken_in_all}
use Rattle.order_rule.specs.Full.{Full, first_broken, refusal, order_of, full_expressions}
use Rattle.order_rule.specs.Rule.{EachPasses, EachPassesIn, EachPassesInAll, AllPass, KeepsOrder}

-- the test b is true exactly where P holds of each name that f picks
abbrev Says : (List ℕ → Bool) → Bool → (List ℕ → Bool) → Type 0
Says P b f = (b ≡ true) ↔ ((x : List ℕ) → f x ≡ true → P x ≡ true)

or_left : (a b : Bool) → a ≡ true → (a || b) ≡ true
or_left true b h = refl
or_left false b h = absurd (false≢true h)

or_right : (a b : Bool) → b ≡ true → (a || b) ≡ true
or_right true b h = refl
or_right false b h = h

nothing_says : (P : List ℕ → Bool) → Says P true (λ x. false)
nothing_says P = (λ h x e. absurd (false≢true e), λ h. refl)

both_say : (P : List ℕ → Bool) (a b : Bool) (f g : List ℕ → Bool) → Says P a f → Says P b g → Says P (a && b) (λ x. f x || g x)
both_say P a b f g s t = (
  λ h x picked. by x (and_parts a b h) (or_cases (f x) (g x) picked),
  λ h. and_from a b (s.1 (λ x l. h x (or_left (f x) (g x) l))) (t.1 (λ x r. h x (or_right (f x) (g x) r))),
)
  where
    by : (x : List ℕ) → (a ≡ true) × (b ≡ true) → (f x ≡ true) ⊎ (g x ≡ true) → P x ≡ true
    by x h (inl l) = s.0 h.0 x l
    by x h (inr r) = t.0 h.1 x r

-- the object that is stepped or assigned
target_says : (whole a : Tree) → Says (may_change whole) (may_change_target whole a) (λ x. is_name x a)
target_says whole (Node p t (tree.Name y)) =
    (λ h x same. subst (λ z. may_change whole z ≡ true) (sym ((bytes_eq-Decides x y).0 same)) h, λ h. h y ((bytes_eq-Decides y y).1 refl))
target_says whole (Node p t (tree.Const n)) = nothing_says (may_change whole)
target_says whole (Node p t (tree.Unary o a)) = nothing_says (may_change whole)
target_says whole (Node p t (tree.Step a up before)) = nothing_says (may_change whole)
target_says whole (Node p t (tree.Binary o a b)) = nothing_says (may_change whole)
target_says whole (Node p t (tree.AndThen a b)) = nothing_says (may_change whole)
target_says whole (Node p t (tree.OrElse a b)) = nothing_says (may_change whole)
target_says whole (Node p t (tree.Choice c a b)) = nothing_says (may_change whole)
target_says whole (Node p t (tree.Assign o a b)) = nothing_says (may_change whole)
target_says whole (Node p t (tree.Comma all)) = nothing_says (may_change whole)
target_says whole (Node p t (tree.Cast u a written)) = nothing_says (may_change whole)
target_says whole (Node p t (tree.Index a b)) = nothing_says (may_change whole)
target_says whole (Node p t (tree.Deref a)) = nothing_says (may_change whole)
target_says whole (Node p t (tree.Address a)) = nothing_says (may_change whole)
target_says whole (Node p t (tree.Call f all)) = nothing_says (may_change whole)
target_says whole (Node p t (tree.Half a k)) = nothing_says (may_change whole)
target_says whole (Node p t (tree.PairOf a b)) = nothing_says (may_change whole)
target_says whole (Node p t (tree.SizeOfType u)) = nothing_says (may_change whole)
target_says whole (Node p t (tree.SizeOfName x)) = nothing_says (may_change whole)
target_says whole (Node p t (tree.Str x)) = nothing_says (may_change whole)

abbrev Well : Tree → Tree → Type 0
Well whole e = Says (may_change whole) (changes_well whole e) (λ x. changes x e)

abbrev WellAll : Tree → Trees → Type 0
WellAll whole all = Says (may_change whole) (changes_well_in_all whole all) (λ x. changes_in_all x all)

two : (whole a b : Tree) → Well whole a → Well whole b → Says (may_change whole) (changes_well whole a && changes_well whole b) (λ x. changes x a || changes x b)
two whole a b s t = both_say (may_change whole) _ _ (λ x. changes x a) (λ x. changes x b) s t

mutual
  well : (whole e : Tree) → Well whole e
  well whole (Node p t k) = well_in whole k

  well_in : (whole : Tree) (k : Kind) → Says (may_change whole) (changes_well_in whole k) (λ x. changes_in x k)
  well_in whole (tree.Const n) = nothing_says (may_change whole)
  well_in whole (tree.Name x) = nothing_says (may_change whole)
  well_in whole (tree.Unary o a) = well whole a
  well_in whole (tree.Step a up before) = both_say (may_change whole) _ _ (λ x. is_target x a) (λ x. changes x a) (target_says whole (root a)) (well whole a)
  well_in whole (tree.Binary o a b) = two whole a b (well whole a) (well whole b)
  well_in whole (tree.AndThen a b) = two whole a b (well whole a) (well whole b)
  well_in whole (tree.OrElse a b) = two whole a b (well whole a) (well whole b)
  well_in whole (tree.Choice c a b) = both_say (may_change whole) _ _ (λ x. changes x c) (λ x. changes x a || changes x b) (well whole c) (two whole a b (well whole a) (well whole b))
  well_in whole (tree.Assign o a b) = both_say (may_change whole) _ _ (λ x. is_target x a) (λ x. changes x a || changes x b) (target_says whole (root a)) (two whole a b (well whole a) (well whole b))
  well_in whole (tree.Comma all) = well_all whole all
  well_in whole (tree.Cast u a written) = well whole a
  well_in whole (tree.Index a b) = two whole a b (well whole a) (well whole b)
  well_in whole (tree.Deref a) = well whole a
  well_in whole (tree.Address a) = well whole a
  well_in whole (tree.Call f all) = well_all whole all
  well_in whole (tree.Half a k) = well whole a
  well_in whole (tree.PairOf a b) = two whole a b (well whole a) (well whole b)
  well_in whole (tree.SizeOfType u) = nothing_says (may_change whole)
  well_in whole (tree.SizeOfName x) = nothing_says (may_change whole)
  well_in whole (tree.Str x) = nothing_says (may_change whole)

  well_all : (whole : Tree) (all : Trees) → WellAll whole all
  well_all whole NoTrees = nothing_says (may_change whole)
  well_all whole (More a rest) = both_say (may_change whole) _ _ (λ x. changes x a) (λ x. changes_in_all x rest) (well whole a) (well_all whole rest)

-- ---- the three rules

once : (t : Times) → is_once t ≡ true → t ≡ Once
once Never h = absurd (false≢true h)
once Once h = refl
once Often h = absurd (false≢true h)

abbrev is_never : Times → Bool
is_never Never = true
is_never Once = false
is_never Often = false

once_or : (t : Times) (b : Bool) → (is_once t || b) ≡ true → (t ≡ Once) ⊎ (b ≡ true)
once_or Never b h = inr h
once_or Once b h = inl refl
once_or Often b h = inr h

or_once : (t : Times) (b : Bool) → (t ≡ Once) ⊎ (b ≡ true) → (is_once t || b) ≡ true
or_once t b (inl h) = or_left (is_once t) b (ap is_once h)
or_once t b (inr h) = or_right (is_once t) b h

-- how many writers there are, what the root does and what is read outside the writer
abbrev Writes : Times → Bool → Bool → Type 0
Writes w at_root outside = (w ≡ Often → ⊥) × (w ≡ Once → at_root ≡ false → outside ≡ false)

writes : (env : Env) (callees : Callees) (e : Tree) (w : Times) → (writes_well env callees e w ≡ true) ↔ Writes w (assigns_memory env (root e)) (reads true env callees e)
writes env callees e Never = (λ h. (λ e. absurd (true≢false (ap is_never e)), λ e. absurd (true≢false (ap is_never e))), λ h. refl)
writes env callees e Once = (λ h. (λ e. absurd (true≢false (ap is_once e)), λ same not_root. by (assigns_memory env (root e)) (reads true env callees e) h not_root), λ h. back (assigns_memory env (root e)) (reads true env callees e) (h.1 refl))
  where
    by : (a b : Bool) → (a || not b) ≡ true → a ≡ false → b ≡ false
    by true b h e = absurd (true≢false e)
    by false b h e = not-true b h

    back : (a b : Bool) → (a ≡ false → b ≡ false) → (a || not b) ≡ true
    back true b h = refl
    back false b h = ap not (h refl)
writes env callees e Often = (λ h. absurd (false≢true h), λ h. absurd (h.0 refl))

pub part : (env : Env) (callees : Callees) (e : Tree) → IsTrue (passes env callees e) ↔ Passes env callees e
part env callees e = (
  λ h. (
      let p = and_parts (changes_well e e) (writes_well env callees e (writers env callees e)) h in
      let w = (writes env callees e (writers env callees e)).0 p.1 in
      record {
        o1 = λ x changed. once_or (occurrences x e) (assigns_once x (root e)) ((well e e).0 p.0 x changed);
        o2 = w.0;
        o3 = w.1;
      }),
  λ h. and_from (changes_well e e) (writes_well env callees e (writers env callees e))
      ((well e e).1 (λ x changed. or_once (occurrences x e) (assigns_once x (root e)) (h.o1 x changed)))
      ((writes env callees e (writers env callees e)).1 (h.o2, h.o3)),
)

-- ---- parts and full expressions

else_none : {A : Type 0} {P Q : Type 0} (a b : Option A) → ((a ≡ None) ↔ P) → ((b ≡ None) ↔ Q) → (or_else a b ≡ None) ↔ (P × Q)
else_none (Some x) b p q = (λ h. absurd (true≢false (ap is_some h)), λ h. absurd (true≢false (ap is_some (p.1 h.0))))
else_none None b p q = (λ h. (p.0 refl, q.0 h), λ h. q.1 h.1)

unless_none : {P : Type 0} (b : Bool) (e : Tree) → (IsTrue b ↔ P) → (unless b e ≡ None) ↔ P
unless_none true e p = (λ h. p.0 refl, λ h. refl)
unless_none false e p = (λ h. absurd (true≢false (ap is_some h)), λ h. absurd (false≢true (p.1 h)))

leaf : (env : Env) (callees : Callees) (e : Tree) → (unless (passes env callees e) e ≡ None) ↔ Passes env callees e
leaf env callees e = unless_none (passes env callees e) e (part env callees e)

mutual
  none : (env : Env) (callees : Callees) (e : Tree) → (broken env callees e ≡ None) ↔ EachPasses env callees e
  none env callees (Node p t k) = none_in env callees p t k

  none_in : (env : Env) (callees : Callees) (p : Place) (t : CType) (k : Kind) → (broken_in env callees p t k ≡ None) ↔ EachPassesIn env callees p t k
  none_in env callees p t (tree.AndThen a b) = else_none _ _ (none env callees a) (none env callees b)
  none_in env callees p t (tree.OrElse a b) = else_none _ _ (none env callees a) (none env callees b)
  none_in env callees p t (tree.Choice c a b) = else_none _ _ (none env callees c) (else_none _ _ (none env callees a) (none env callees b))
  none_in env callees p t (tree.Comma all) = none_all env callees all
  none_in env callees p t (tree.Cast u a false) = none env callees a
  none_in env callees p t (tree.Cast u a true) = leaf env callees (Node p t (tree.Cast u a true))
  none_in env callees p t (tree.Const n) = leaf env callees (Node p t (tree.Const n))
  none_in env callees p t (tree.Name x) = leaf env callees (Node p t (tree.Name x))
  none_in env callees p t (tree.Unary o a) = leaf env callees (Node p t (tree.Unary o a))
  none_in env callees p t (tree.Step a up before) = leaf env callees (Node p t (tree.Step a up before))
  none_in env callees p t (tree.Binary o a b) = leaf env callees (Node p t (tree.Binary o a b))
  none_in env callees p t (tree.Assign o a b) = leaf env callees (Node p t (tree.Assign o a b))
  none_in env callees p t (tree.Index a b) = leaf env callees (Node p t (tree.Index a b))
  none_in env callees p t (tree.Deref a) = leaf env callees (Node p t (tree.Deref a))
  none_in env callees p t (tree.Address a) = leaf env callees (Node p t (tree.Address a))
  none_in env callees p t (tree.Call f all) = leaf env callees (Node p t (tree.Call f all))
  none_in env callees p t (tree.Half a k) = leaf env callees (Node p t (tree.Half a k))
  none_in env callees p t (tree.PairOf a b) = leaf env callees (Node p t (tree.PairOf a b))
  none_in env callees p t (tree.SizeOfType u) = leaf env callees (Node p t (tree.SizeOfType u))
  none_in env callees p t (tree.SizeOfName x) = leaf env callees (Node p t (tree.SizeOfName x))
  none_in env callees p t (tree.Str x) = leaf env callees (Node p t (tree.Str x))

  none_all : (env : Env) (callees : Callees) (all : Trees) → (broken_in_all env callees all ≡ None) ↔ EachPassesInAll env callees all
  none_all env callees NoTrees = (λ h. tt, λ h. refl)
  none_all env callees (More a rest) = else_none _ _ (none env callees a) (none_all env callees rest)

all_none : (callees : Callees) (xs : List Full) → (first_broken callees xs ≡ None) ↔ AllPass callees xs
all_none callees [] = (λ h. tt, λ h. refl)
all_none callees (x ∷ rest) = else_none _ _ (none x.env callees x.expression) (all_none callees rest)

map_none : {A B : Type 0} {P : Type 0} (f : A → B) (a : Option A) → ((a ≡ None) ↔ P) → (option_map f a ≡ None) ↔ P
map_none f (Some x) p = (λ h. absurd (true≢false (ap is_some h)), λ h. absurd (true≢false (ap is_some (p.1 h))))
map_none f None p = (λ h. p.0 refl, λ h. refl)

pub whole : (callees : Callees) (f : Definition) → (order_of f callees ≡ None) ↔ KeepsOrder callees f
whole callees f = map_none refusal (first_broken callees (full_expressions f)) (all_none callees (full_expressions f))
