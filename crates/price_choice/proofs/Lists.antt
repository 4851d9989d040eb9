-- The list by places is the list, and its last form gives every selection.
use Rattle.std.proofs.Common.{◌≡◌, ℕ, zero, suc, ◌+◌, ◌/◌, ◌<◌, ◌≤◌, List, [], ◌∷◌, map, length, get_or, Bool, true, false, refl, ap, sym, ◌∙◌, subst, arith, rules, inl, inr, ◌⊎◌, nat_lt, ◌==◌, not}
use Rattle.std.specs.Prelude.{◌&&◌, ◌||◌}
use Rattle.std.specs.List.{list_all}
use Rattle.std.proofs.lemmas.Bool.{cases_lt}
use Rattle.price_choice.specs.declared.forms.FormKind.{FormKind}
use Rattle.price_choice.specs.declared.forms.FormKind.TheVariants.{Dup, Ext, Rev, Zip, Uzp, Trn, Tbl}
use Rattle.price_choice.specs.declared.forms.Pick.{Pick}
use Rattle.price_choice.specs.declared.forms.Form.{Form}
use Rattle.price_choice.specs.declared.forms.Form.TheVariants.{One, Two, TablePair}
use Rattle.price_choice.specs.Forms.{gives_from, gives_of, IsForm, IsListed, IsUnary, IsBinary}
use Rattle.price_choice.specs.List.{forms, form_at, numbers}
use Rattle.price_choice.specs.Choice.{IsFirstLeast, price_by}
use Rattle.price_choice.proofs.Picks.{picked}

by_places : map form_at (numbers 0 390) ≡ forms
unfolding form_at
by_places = refl

pub how_many : length forms ≡ 390
how_many = refl

at_number : (f : ℕ → Form) (m n i : ℕ) (d : Form) → i < n → get_or (map f (numbers m n)) i d ≡ f (m + i)
at_number f m zero i d l = absurd (omega (arith, l))
at_number f m (suc n) zero d l = ap f (omega arith)
at_number f m (suc n) (suc i) d l = at_number f (m + 1) n i d (omega (arith, l)) ∙ ap f (omega arith)

pub form_there : (i : ℕ) → i < 390 → get_or forms i TablePair ≡ form_at i
form_there i l = let e : 0 + i ≡ i = omega arith in ap (λ xs. get_or xs i TablePair) (sym by_places) ∙ at_number form_at 0 390 i TablePair l ∙ ap form_at e

pair_gives : (i : ℕ) (want : List Pick) → gives_from TablePair i want ≡ true
pair_gives i [] = refl
pair_gives i (p ∷ ps) = pair_gives (i + 1) ps

-- some form of the list gives it: the last one
pub last_gives : (want : List Pick) → gives_of (form_at 389) want ≡ true
unfolding form_at
last_gives want = pair_gives 0 want

pub chosen : (want : List Pick) (stated : List ℕ) (best least i : ℕ) → 390 ≤ i → ((f : Form) → price_by stated f ≤ 1000) → best < 390
    → (least < 1001 → (best < i) × (gives_of (form_at best) want ≡ true) × (price_by stated (form_at best) ≡ least))
    → ((j : ℕ) → j < i → gives_of (form_at j) want ≡ true → least ≤ price_by stated (form_at j))
    → ((j : ℕ) → j < best → gives_of (form_at j) want ≡ true → least < price_by stated (form_at j))
    → (n : ℕ) × IsFirstLeast (λ f. gives_of f want) (price_by stated) forms TablePair n × (form_at best ≡ get_or forms n TablePair)
chosen want stated best least i over small within set lower first =
    let at = form_there best within in (
      best,
      picked (λ f. gives_of f want) (price_by stated) forms TablePair best least 390 (omega (arith, how_many)) small
          (389, omega (arith, how_many), rw (form_there 389 (omega arith)) (last_gives want))
          (λ l. let s = set l in (within, rw at s.1, rw at s.2))
          (λ j l p. rw (form_there j l) (lower j (omega (arith, over, l)) (subst (λ f. gives_of f want ≡ true) (form_there j l) p)))
          (λ j l p. let k : j < 390 = omega (arith, within, l) in rw (form_there j k) (first j l (subst (λ f. gives_of f want ≡ true) (form_there j k) p))) (omega (arith, how_many)),
      sym at,
    )

-- ---- the list's forms are listed, by a test that is computed

abbrev is_width : ℕ → Bool
is_width w = w == 1 || (w == 2 || (w == 4 || w == 8))

abbrev is_listed : FormKind → ℕ → ℕ → Bool
is_listed Dup w n = is_width w && nat_lt n (16 / w)
is_listed Ext w n = w == 1 && (nat_lt 0 n && nat_lt n 16)
is_listed Rev w n = (w == 1 || (w == 2 || w == 4)) && ((n == 2 || (n == 4 || n == 8)) && nat_lt w n)
is_listed Tbl w n = false
is_listed _ w n = is_width w && (n == 1 || n == 2)

abbrev is_unary : FormKind → Bool
is_unary Dup = true
is_unary Rev = true
is_unary _ = false

abbrev is_form : Form → Bool
is_form (One kind w n x) = is_unary kind && is_listed kind w n
is_form (Two kind w n x y) = not (is_unary kind) && is_listed kind w n
is_form f = true

impossible : false ≡ true → ⊥
impossible h = grind (arith, h)

both : {a b : Bool} → (a && b) ≡ true → (a ≡ true) × (b ≡ true)
both {a = true} h = (refl, h)
both {a = false} h = absurd (impossible h)

either : {a b : Bool} → (a || b) ≡ true → (a ≡ true) ⊎ (b ≡ true)
either {a = true} h = inl refl
either {a = false} h = inr h

same : (m n : ℕ) → (m == n) ≡ true → m ≡ n
same m n h = search (rules, h)

below : (m n : ℕ) → nat_lt m n ≡ true → m < n
below m n h = elim (cases_lt m n) [ inl l ↦ l | inr l ↦ let t : nat_lt m n ≡ false = search (rules, l) in absurd (impossible (sym t ∙ h)) ]

width_is : (w : ℕ) → is_width w ≡ true → (w ≡ 1) ⊎ (w ≡ 2) ⊎ (w ≡ 4) ⊎ (w ≡ 8)
width_is w h = elim (either h) [ inl e ↦ inl (same w 1 e) | inr k ↦ elim (either k) [ inl e ↦ inr (inl (same w 2 e)) | inr j ↦ elim (either j) [ inl e ↦ inr (inr (inl (same w 4 e))) | inr e ↦ inr (inr (inr (same w 8 e))) ] ] ]

three : (w a b c : ℕ) → (w == a || (w == b || w == c)) ≡ true → (w ≡ a) ⊎ (w ≡ b) ⊎ (w ≡ c)
three w a b c h = elim (either h) [ inl e ↦ inl (same w a e) | inr k ↦ elim (either k) [ inl e ↦ inr (inl (same w b e)) | inr e ↦ inr (inr (same w c e)) ] ]

one_or_two : (n : ℕ) → (n == 1 || n == 2) ≡ true → (n ≡ 1) ⊎ (n ≡ 2)
one_or_two n h = elim (either h) [ inl e ↦ inl (same n 1 e) | inr e ↦ inr (same n 2 e) ]

listed_is : (kind : FormKind) (w n : ℕ) → is_listed kind w n ≡ true → IsListed kind w n
listed_is Dup w n h = (width_is w (both h).0, below n (16 / w) (both h).1)
listed_is Ext w n h =
    let k = both (both h).1 in
    let l : n < 16 = below n 16 k.1 in
    let more : 0 < n = below 0 n k.0 in
    let most : n ≤ 15 = omega (arith, l) in
    (same w 1 (both h).0, more, most)
listed_is Rev w n h = let k = both (both h).1 in (three w 1 2 4 (both h).0, three n 2 4 8 k.0, below w n k.1)
listed_is Tbl w n h = absurd (impossible h)
listed_is _ w n h = (width_is w (both h).0, one_or_two n (both h).1)

unary_is : (kind : FormKind) → is_unary kind ≡ true → IsUnary kind
unary_is Dup h = tt
unary_is Rev h = tt
unary_is _ h = absurd (impossible h)

binary_is : (kind : FormKind) (w n : ℕ) → not (is_unary kind) ≡ true → is_listed kind w n ≡ true → IsBinary kind
binary_is Ext w n h k = tt
binary_is Zip w n h k = tt
binary_is Uzp w n h k = tt
binary_is Trn w n h k = tt
binary_is Tbl w n h k = absurd (impossible k)
binary_is _ w n h k = absurd (impossible h)

form_is : (f : Form) → is_form f ≡ true → IsForm f
form_is (One kind w n x) h = (unary_is kind (both h).0, listed_is kind w n (both h).1)
form_is (Two kind w n x y) h = (binary_is kind w n (both h).0 (both h).1, listed_is kind w n (both h).1)
form_is _ h = tt

all_listed : list_all is_form forms ≡ true
all_listed = refl

one_listed : (all : List Form) (i : ℕ) → list_all is_form all ≡ true → is_form (get_or all i TablePair) ≡ true
one_listed [] i h = refl
one_listed (f ∷ rest) zero h = (both h).0
one_listed (f ∷ rest) (suc i) h = one_listed rest i (both h).1

pub listed_form : (i : ℕ) → i < 390 → IsForm (form_at i)
listed_form i l = subst IsForm (form_there i l) (form_is (get_or forms i TablePair) (one_listed forms i all_listed))
