-- Lists of items, blocks and arguments, built from the front.
use Rattle.std.proofs.Common.{◌≡◌, ◌∙◌, ℕ, suc, ◌+◌, ◌<◌, true, false, Option, Some, None, List, [], ◌∷◌, ◌++◌, map, length, drop, get_or, option_map, refl, sym, ap, add-one, drop-cons, append_assoc}
use Rattle.std.specs.Prelude.{filter}
use Rattle.std.proofs.lemmas.List.{append-nil}
use Rattle.c_tree.specs.declared.types.CType.{CType}
use Rattle.c_memory.specs.declared.blocks.Block.{Block as MemoryBlock}
use Rattle.c_memory.specs.declared.value.Value.{Value}
use Rattle.migrate_report.specs.Items.{Item, joined, single, item_of, items_of}
use Rattle.migrate_report.specs.Fits.{block_given, blocks_of, argument, gives_argument, arguments}
use Rattle.migrate_report.specs.Given.{first_argument}

-- nothing, and then more
pub joined_start : {A : Type 0} (o : Option (List A)) → joined (Some []) o ≡ o
joined_start None = refl
joined_start (Some ys) = refl

-- and nothing more
pub joined_end : {A : Type 0} (xs : List A) → joined (Some xs) (Some []) ≡ Some xs
joined_end xs = ap Some (append-nil xs)

joined_more : {A : Type 0} (xs ys : List A) (o : Option (List A)) → joined (Some xs) (joined (Some ys) o) ≡ joined (Some (xs ++ ys)) o
joined_more xs ys None = refl
joined_more xs ys (Some zs) = ap Some (sym (append_assoc xs ys zs))

-- ---- a loop over words, at a word that is an item and at one that is none

pub reads_on : {X : Type 0} (f : X → List ℕ) (ws : List X) (w : X) (i : ℕ) (xs : List Item) (v : Item) → i < length ws → w ≡ get_or ws i w → item_of (f w) ≡ Some v
    → joined (Some xs) (items_of (map f (drop i ws))) ≡ joined (Some (xs ++ (v ∷ []))) (items_of (map f (drop (i + 1) ws)))
reads_on f ws w i xs v h e g = rw (add-one, drop-cons ws i w, ← e, g) (joined_more xs (v ∷ []) (items_of (map f (drop (suc i) ws))))

pub reads_none : {X : Type 0} (f : X → List ℕ) (ws : List X) (w : X) (i : ℕ) (xs : List Item) → i < length ws → w ≡ get_or ws i w → item_of (f w) ≡ None
    → joined (Some xs) (items_of (map f (drop i ws))) ≡ None
reads_none f ws w i xs h e g = rw (drop-cons ws i w, ← e, g) refl

-- ---- a loop over items, at one whose block is made and at one whose block can't be

pub blocks_on : {X : Type 0} (f : X → Item) (items : List X) (x : X) (i : ℕ) (bs more : List MemoryBlock) → i < length items → x ≡ get_or items i x → block_given (f x) ≡ Some more
    → joined (Some bs) (blocks_of (map f (drop i items))) ≡ joined (Some (bs ++ more)) (blocks_of (map f (drop (i + 1) items)))
blocks_on f items x i bs more h e g = rw (add-one, drop-cons items i x, ← e, g) (joined_more bs more (blocks_of (map f (drop (suc i) items))))

pub blocks_none : {X : Type 0} (f : X → Item) (items : List X) (x : X) (i : ℕ) (bs : List MemoryBlock) → i < length items → x ≡ get_or items i x → block_given (f x) ≡ None
    → joined (Some bs) (blocks_of (map f (drop i items))) ≡ None
blocks_none f items x i bs h e g = rw (drop-cons items i x, ← e, g) refl

-- ---- a loop over items, at one that gives no argument, one that gives one, and one that doesn't fit

after_first : (memory : List MemoryBlock) (types others : List CType) (item : Item) (v : Value) (rest : List Item) → first_argument memory types item ≡ Some (v, others)
    → arguments memory types (item ∷ rest) ≡ joined (Some (v ∷ [])) (arguments memory others rest)
after_first memory [] others item v rest g = cc
after_first memory (t ∷ ts) others item v rest g = fitting_first (argument memory t item) ts others v g
  where
    fitting_first : (o : Option Value) (ts others : List CType) (v : Value) → option_map {U = Value × List CType} (λ x. (x, ts)) o ≡ Some (v, others)
        → joined (single o) (arguments memory ts rest) ≡ joined (Some (v ∷ [])) (arguments memory others rest)
    fitting_first None ts others v g = cc
    fitting_first (Some x) ts others v g =
        let e : ◌≡◌ {A = Value × List CType} (x, ts) (v, others) = cc in
        ap (λ (p : Value × List CType). joined (Some (p.0 ∷ [])) (arguments memory p.1 rest)) e

no_first : (memory : List MemoryBlock) (types : List CType) (item : Item) (rest : List Item) → first_argument memory types item ≡ None → arguments memory types (item ∷ rest) ≡ None
no_first memory [] item rest g = refl
no_first memory (t ∷ ts) item rest g = unfit (argument memory t item) ts g
  where
    unfit : (o : Option Value) (ts : List CType) → option_map {U = Value × List CType} (λ x. (x, ts)) o ≡ None → joined (single o) (arguments memory ts rest) ≡ None
    unfit None ts g = refl
    unfit (Some x) ts g = cc

pub skips : {X : Type 0} (f : X → Item) (items : List X) (d : X) (i : ℕ) (memory : List MemoryBlock) (types : List CType) (vs : List Value) → i < length items → gives_argument (f (get_or items i d)) ≡ false
    → joined (Some vs) (arguments memory types (filter gives_argument (map f (drop i items)))) ≡ joined (Some vs) (arguments memory types (filter gives_argument (map f (drop (i + 1) items))))
skips f items d i memory types vs h g = rw (add-one, drop-cons items i d, g) refl

pub takes_on : {X : Type 0} (f : X → Item) (items : List X) (d : X) (i : ℕ) (memory : List MemoryBlock) (types others : List CType) (vs : List Value) (v : Value) → i < length items → gives_argument (f (get_or items i d)) ≡ true
    → first_argument memory types (f (get_or items i d)) ≡ Some (v, others)
    → joined (Some vs) (arguments memory types (filter gives_argument (map f (drop i items)))) ≡ joined (Some (vs ++ (v ∷ []))) (arguments memory others (filter gives_argument (map f (drop (i + 1) items))))
takes_on f items d i memory types others vs v h g k =
    let rest : List Item = filter gives_argument (map f (drop (suc i) items)) in
    rw (add-one, drop-cons items i d, g) (ap (joined (Some vs)) (after_first memory types others (f (get_or items i d)) v rest k) ∙ joined_more vs (v ∷ []) (arguments memory others rest))

pub takes_none : {X : Type 0} (f : X → Item) (items : List X) (d : X) (i : ℕ) (memory : List MemoryBlock) (types : List CType) (vs : List Value) → i < length items → gives_argument (f (get_or items i d)) ≡ true
    → first_argument memory types (f (get_or items i d)) ≡ None
    → joined (Some vs) (arguments memory types (filter gives_argument (map f (drop i items)))) ≡ None
takes_none f items d i memory types vs h g k =
    let rest : List Item = filter gives_argument (map f (drop (suc i) items)) in
    rw (drop-cons items i d, g) (ap (joined (Some vs)) (no_first memory types (f (get_or items i d)) rest k))
