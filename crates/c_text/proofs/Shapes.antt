-- Which forms bytes have, by their first byte.
use Rattle.std.proofs.Common.{◌≡◌, ℕ, ◌≤◌, List, [], ◌∷◌, ◌++◌, length, Option, Some, Bool, true, false, cond, refl, sym, arith}
use Rattle.std.specs.Prelude.{not, ◌==◌, ◌&&◌, ◌||◌, codes}
use Rattle.std.proofs.lemmas.Bool.{eqb-true}
use Rattle.std.proofs.lemmas.Bool.Decides.{nat_tests}
use Rattle.c_text.specs.declared.tokens.TokenKind.TheVariants.{Name, Number, Quote, Str, Mark}
use Rattle.c_text.specs.declared.pieces.Sort.{Sort}
use Rattle.c_text.specs.declared.pieces.Sort.TheVariants.{Lexeme}
use Rattle.c_text.specs.Forms.{is_one_of, all_are, is_empty, starts, is_digit, is_letter, is_name, begins_number, is_number, is_wide, is_constant, is_string, is_mark_byte, is_mark, is_blank, is_comment, is_open, is_lone, is_bad, is_single, form_of}
use Rattle.c_text.proofs.Scans.{out, both, empty_length}

is_feed : ℕ → Bool
is_feed b = b == 10

-- the form, from the tests in their order
pub form_name : (bs : List ℕ) → is_name bs ≡ true → form_of bs ≡ Some (Lexeme Name)
unfolding form_of
form_name bs a = rw a refl

pub form_number : (bs : List ℕ) → is_name bs ≡ false → is_number bs ≡ true → form_of bs ≡ Some (Lexeme Number)
unfolding form_of
form_number bs a b = rw (a, b) refl

pub form_constant : (bs : List ℕ) → is_name bs ≡ false → is_number bs ≡ false → is_constant bs ≡ true → form_of bs ≡ Some (Lexeme Quote)
unfolding form_of
form_constant bs a b c = rw (a, b, c) refl

pub form_string : (bs : List ℕ) → is_name bs ≡ false → is_number bs ≡ false → is_constant bs ≡ false → is_string bs ≡ true → form_of bs ≡ Some (Lexeme Str)
unfolding form_of
form_string bs a b c d = rw (a, b, c, d) refl

pub form_mark : (bs : List ℕ) → is_name bs ≡ false → is_number bs ≡ false → is_constant bs ≡ false → is_string bs ≡ false → is_mark bs ≡ true →
    form_of bs ≡ Some (Lexeme Mark)
unfolding form_of
form_mark bs a b c d e = rw (a, b, c, d, e) refl

choice : {A : Type 0} (t : Bool) (x y : Option Sort) (s : Sort) → cond t x y ≡ Some s → (t ≡ true → A) → (y ≡ Some s → A) → A
choice true x y s e f g = f refl
choice false x y s e f g = g e

single_short : (f : ℕ → Bool) (b : ℕ) (p : List ℕ) (n : ℕ) → is_single f (b ∷ p) ≡ true → length p ≤ n
single_short f b p n h = let short : length p ≤ 0 = empty_length p (both (f b) (is_empty p) h).1 in omega arith

-- no form is longer, if none of these is
pub longest_form : (b n : ℕ) (p : List ℕ) (s : Sort) → form_of (b ∷ p) ≡ Some s → (is_name (b ∷ p) ≡ true → length p ≤ n) → (is_number (b ∷ p) ≡ true → length p ≤ n) →
    (is_constant (b ∷ p) ≡ true → length p ≤ n) → (is_string (b ∷ p) ≡ true → length p ≤ n) → (is_mark (b ∷ p) ≡ true → length p ≤ n) →
    (is_comment (b ∷ p) ≡ true → length p ≤ n) → (is_open (b ∷ p) ≡ true → length p ≤ n) → length p ≤ n
unfolding form_of
longest_form b n p s e name number constant string mark comment unended =
    choice (is_name (b ∷ p)) _ _ s e name (λ e1. choice (is_number (b ∷ p)) _ _ s e1 number (λ e2. choice (is_constant (b ∷ p)) _ _ s e2 constant
    (λ e3. choice (is_string (b ∷ p)) _ _ s e3 string (λ e4. choice (is_mark (b ∷ p)) _ _ s e4 mark (λ e5. choice (is_single is_lone (b ∷ p)) _ _ s e5 (single_short is_lone b p n)
    (λ e6. choice (is_single is_blank (b ∷ p)) _ _ s e6 (single_short is_blank b p n) (λ e7. choice (is_single (λ b. b == 10) (b ∷ p)) _ _ s e7 (single_short (λ b. b == 10) b p n)
    (λ e8. choice (is_comment (b ∷ p)) _ _ s e8 comment (λ e9. choice (is_open (b ∷ p)) _ _ s e9 unended (λ e10. choice (is_single is_bad (b ∷ p)) _ _ s e10 (single_short is_bad b p n)
    (λ e11. absurd (cc))))))))))))

-- what the first byte rules out
pub no_name : (b : ℕ) (p : List ℕ) → is_letter b ≡ false → is_name (b ∷ p) ≡ false
no_name b p h = rw h refl

no_digit : (d f s : Bool) → (d || (f && s)) ≡ false → (d || (f && false)) ≡ true → ⊥
no_digit true f s h k = absurd (cc)
no_digit false true s h k = absurd (cc)
no_digit false false s h k = absurd (cc)

pub no_number : (b : ℕ) (bs p rest : List ℕ) → bs ≡ p ++ rest → begins_number b bs ≡ false → is_number (b ∷ p) ≡ false
no_number b bs p rest e h = go (begins_number b p) refl
  where
    within : (p : List ℕ) → bs ≡ p ++ rest → begins_number b bs ≡ false → begins_number b p ≡ true → ⊥
    within [] e h k = no_digit (is_digit b) (b == 46) (starts is_digit bs) h k
    within (x ∷ p) e h k = out (begins_number b bs) h (rw e k)

    go : (t : Bool) → begins_number b p ≡ t → is_number (b ∷ p) ≡ false
    go true k = absurd (within p e h k)
    go false k = rw k refl

pub no_constant : (b : ℕ) (p : List ℕ) → (b == 39) ≡ false → is_wide b ≡ false → is_constant (b ∷ p) ≡ false
no_constant b p h k = rw (h, k) refl

pub no_string : (b : ℕ) (p : List ℕ) → (b == 34) ≡ false → is_wide b ≡ false → (b == 117) ≡ false → is_string (b ∷ p) ≡ false
no_string b p h k u = rw (h, k, u) refl

pub no_mark : (b : ℕ) (p : List ℕ) → is_mark_byte b ≡ false → is_mark (b ∷ p) ≡ false
no_mark b [] h = h
no_mark b (x ∷ []) h = rw h refl
no_mark b (x ∷ y ∷ []) h = rw h refl
no_mark b (x ∷ y ∷ z ∷ p) h = refl

pub no_comment : (b : ℕ) (p : List ℕ) → (b == 47) ≡ false → is_comment (b ∷ p) ≡ false
no_comment b p h = rw h refl

pub no_open : (b : ℕ) (p : List ℕ) → (b == 47) ≡ false → is_open (b ∷ p) ≡ false
no_open b p h = rw h refl

-- a byte of a list that has no byte of a kind isn't of that kind
none_of : (f : ℕ → Bool) (ms : List ℕ) (b : ℕ) → all_are (λ m. not (f m)) ms ≡ true → is_one_of ms b ≡ true → f b ≡ false
none_of f [] b h k = absurd (cc)
none_of f (m ∷ ms) b h k = go (b == m) refl (both (not (f m)) (all_are (λ m. not (f m)) ms) h) k (none_of f ms b)
  where
    not_true : (t : Bool) → not t ≡ true → t ≡ false
    not_true true h = sym h
    not_true false h = refl

    go : (t : Bool) → (b == m) ≡ t → (not (f m) ≡ true) × (all_are (λ m. not (f m)) ms ≡ true) → (t || is_one_of ms b) ≡ true →
        (all_are (λ m. not (f m)) ms ≡ true → is_one_of ms b ≡ true → f b ≡ false) → f b ≡ false
    go true e h k ih = rw (eqb-true b m e) (not_true (f m) h.0)
    go false e h k ih = ih h.1 k

excludes : (f g : ℕ → Bool) (b : ℕ) → (f b ≡ true → g b ≡ false) → g b ≡ true → f b ≡ false
excludes f g b h k = go (f b) refl
  where
    go : (t : Bool) → f b ≡ t → t ≡ false
    go true e = out (g b) (h e) k
    go false e = refl

pub mark_no_letter : (b : ℕ) → is_mark_byte b ≡ true → is_letter b ≡ false
mark_no_letter b = none_of is_letter (codes "[](){}.&*+-~!/%<>^|?:;=,#") b refl

pub mark_no_digit : (b : ℕ) → is_mark_byte b ≡ true → is_digit b ≡ false
mark_no_digit b = none_of is_digit (codes "[](){}.&*+-~!/%<>^|?:;=,#") b refl

pub wide_letter : (b : ℕ) → is_letter b ≡ false → is_wide b ≡ false
wide_letter b h = excludes is_wide (λ b. not (is_letter b)) b (none_of (λ b. not (is_letter b)) (codes "LuU") b refl) (rw h refl)

pub letter_no_mark : (b : ℕ) → is_letter b ≡ true → is_mark_byte b ≡ false
letter_no_mark b = excludes is_mark_byte is_letter b (mark_no_letter b)

pub digit_no_mark : (b : ℕ) → is_digit b ≡ true → is_mark_byte b ≡ false
digit_no_mark b = excludes is_mark_byte is_digit b (mark_no_digit b)

equal_no : (f : ℕ → Bool) (b c : ℕ) → f c ≡ false → f b ≡ true → (b == c) ≡ false
equal_no f b c h k = go (b == c) refl
  where
    go : (t : Bool) → (b == c) ≡ t → t ≡ false
    go true e = let same : b ≡ c = eqb-true b c e in out (f c) h (rw same at k)
    go false e = refl

pub letter_other : (b c : ℕ) → is_letter c ≡ false → is_letter b ≡ true → (b == c) ≡ false
letter_other = equal_no is_letter

pub other_letter : (b c : ℕ) → is_letter c ≡ true → is_letter b ≡ false → (b == c) ≡ false
other_letter b c h k = equal_no (λ b. not (is_letter b)) b c (rw h refl) (rw k refl)

pub digit_other : (b c : ℕ) → is_digit c ≡ false → is_digit b ≡ true → (b == c) ≡ false
digit_other = equal_no is_digit

pub letter_no_digit : (b : ℕ) → is_letter b ≡ true → is_digit b ≡ false
letter_no_digit b h = grind (arith, nat_tests)
