-- Names that are counted are counted as often as they occur.
use Rattle.std.proofs.Common.{◌≡◌, ◌∙◌, ℕ, Bool, true, false, ◌||◌, if◌then◌else◌, List, refl, sym, ap, true≢false}
use Rattle.std.specs.Cmp.Lexicographic.{bytes_decides}
use Rattle.std.specs.Str.{bytes_eq}
use Rattle.c_tree.specs.Tree as tree
use Rattle.c_tree.specs.Tree.{Tree, Kind, Trees, Node, NoTrees, More}
use Rattle.address_taken.specs.Marks.{is_marked}
use Rattle.order_rule.specs.declared.counting.Counts.{Counts}
use Rattle.order_rule.specs.declared.times.Times.{Times}
use Rattle.order_rule.specs.declared.times.Times.TheVariants.{Never, Often}
use Rattle.order_rule.specs.Writing.{sum, once_if, occurrences, occurrences_in, occurrences_in_all}
use Rattle.order_rule.specs.Counting.{times_of, counted, counted_in, counted_in_all, IsCounted}
use Rattle.order_rule.proofs.Sums.{sum-assoc, sum-turned}

-- by two marks: a name that was seen is seen again, and one that wasn't is seen
abbrev pub by_marks : Bool → Bool → Times
by_marks again seen = if again then Often else once_if seen

again_more : (same again seen : Bool) → (same ≡ true → seen ≡ true) → by_marks (same || again) seen ≡ sum (once_if same) (by_marks again seen)
again_more true true true h = refl
again_more true false true h = refl
again_more true again false h = absurd (true≢false (sym (h refl)))
again_more false again seen h = refl

first_more : (same again seen : Bool) → (same ≡ true → seen ≡ false) → by_marks again (same || seen) ≡ sum (once_if same) (by_marks again seen)
first_more true true false h = refl
first_more true false false h = refl
first_more true again true h = absurd (true≢false (h refl))
first_more false again seen h = refl

the_same : (x y : List ℕ) (f : List ℕ → Bool) (b : Bool) → f y ≡ b → bytes_eq x y ≡ true → f x ≡ b
the_same x y f b h e = ap f ((bytes_decides x y).0 e) ∙ h

pub counted_again : (old new : Counts) (y : List ℕ) → is_marked old.seen y ≡ true → new.seen ≡ old.seen → ((x : List ℕ) → is_marked new.again x ≡ (bytes_eq x y || is_marked old.again x)) →
    (x : List ℕ) → times_of new x ≡ sum (once_if (bytes_eq x y)) (times_of old x)
counted_again old new y was kept marked x =
    ap (λ m. by_marks (is_marked new.again x) (is_marked m x)) kept ∙ ap (λ b. by_marks b (is_marked old.seen x)) (marked x) ∙
    again_more (bytes_eq x y) (is_marked old.again x) (is_marked old.seen x) (the_same x y (is_marked old.seen) true was)

pub counted_first : (old new : Counts) (y : List ℕ) → is_marked old.seen y ≡ false → new.again ≡ old.again → ((x : List ℕ) → is_marked new.seen x ≡ (bytes_eq x y || is_marked old.seen x)) →
    (x : List ℕ) → times_of new x ≡ sum (once_if (bytes_eq x y)) (times_of old x)
counted_first old new y was kept marked x =
    ap (λ m. by_marks (is_marked m x) (is_marked new.seen x)) kept ∙ ap (λ b. by_marks (is_marked old.again x) b) (marked x) ∙
    first_more (bytes_eq x y) (is_marked old.again x) (is_marked old.seen x) (the_same x y (is_marked old.seen) false was)

-- what two counts come to
two : (a b n p q : Times) → p ≡ sum b n → q ≡ sum a p → q ≡ sum (sum a b) n
two a b n p q h k = k ∙ ap (sum a) h ∙ sym (sum-assoc a b n)

behind : (a rest n p q : Times) → p ≡ sum a n → q ≡ sum rest p → q ≡ sum (sum a rest) n
behind a rest n p q h k = k ∙ ap (sum rest) h ∙ sym (sum-assoc rest a n) ∙ ap (λ t. sum t n) (sum-turned rest a)

module _ (x : List ℕ) where
  mutual
    occurs : (e : Tree) (n : Times) → counted x e n ≡ sum (occurrences x e) n
    occurs (Node p t k) n = occurs_in k n

    occurs_in : (k : Kind) (n : Times) → counted_in x k n ≡ sum (occurrences_in x k) n
    occurs_in (tree.Const c) n = refl
    occurs_in (tree.Name y) n = refl
    occurs_in (tree.Unary o a) n = occurs a n
    occurs_in (tree.Step a up before) n = occurs a n
    occurs_in (tree.Binary o a b) n = two (occurrences x a) (occurrences x b) n (counted x b n) (counted x a (counted x b n)) (occurs b n) (occurs a (counted x b n))
    occurs_in (tree.AndThen a b) n = two (occurrences x a) (occurrences x b) n (counted x b n) (counted x a (counted x b n)) (occurs b n) (occurs a (counted x b n))
    occurs_in (tree.OrElse a b) n = two (occurrences x a) (occurrences x b) n (counted x b n) (counted x a (counted x b n)) (occurs b n) (occurs a (counted x b n))
    occurs_in (tree.Choice c a b) n =
        two (occurrences x c) (sum (occurrences x a) (occurrences x b)) n (counted x a (counted x b n)) (counted x c (counted x a (counted x b n))) (two (occurrences x a) (occurrences x b) n (counted x b n) (counted x a (counted x b n)) (occurs b n) (occurs a (counted x b n))) (occurs c (counted x a (counted x b n)))
    occurs_in (tree.Assign o a b) n = two (occurrences x a) (occurrences x b) n (counted x b n) (counted x a (counted x b n)) (occurs b n) (occurs a (counted x b n))
    occurs_in (tree.Comma all) n = occurs_in_all all n
    occurs_in (tree.Cast t a written) n = occurs a n
    occurs_in (tree.Index a b) n = two (occurrences x a) (occurrences x b) n (counted x b n) (counted x a (counted x b n)) (occurs b n) (occurs a (counted x b n))
    occurs_in (tree.Deref a) n = occurs a n
    occurs_in (tree.Address a) n = occurs a n
    occurs_in (tree.Call f all) n = occurs_in_all all n
    occurs_in (tree.Half a k) n = occurs a n
    occurs_in (tree.PairOf a b) n = two (occurrences x a) (occurrences x b) n (counted x b n) (counted x a (counted x b n)) (occurs b n) (occurs a (counted x b n))
    occurs_in (tree.SizeOfType t) n = refl
    occurs_in (tree.SizeOfName y) n = refl
    occurs_in (tree.Str s) n = refl

    occurs_in_all : (all : Trees) (n : Times) → counted_in_all x all n ≡ sum (occurrences_in_all x all) n
    occurs_in_all NoTrees n = refl
    occurs_in_all (More a rest) n =
        behind (occurrences x a) (occurrences_in_all x rest) n (counted x a n) (counted_in_all x rest (counted x a n)) (occurs a n) (occurs_in_all rest (counted x a n))

  counted_alone : (e : Tree) (n m : Times) → n ≡ Never → m ≡ counted x e n → m ≡ occurrences x e
  counted_alone e n m none h = h ∙ ap (counted x e) none ∙ occurs e Never ∙ sum-turned (occurrences x e) Never

pub all_counted : (none c : Counts) (e : Tree) → ((x : List ℕ) → times_of none x ≡ Never) → ((x : List ℕ) → times_of c x ≡ counted x e (times_of none x)) → IsCounted c e
all_counted none c e h k x = counted_alone x e (times_of none x) (times_of c x) (h x) (k x)
