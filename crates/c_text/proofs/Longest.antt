-- The piece that is read at a byte has the form of its sort, and no longer prefix has a form.
use Rattle.std.proofs.Common.{◌≡◌, ℕ, zero, suc, ◌+◌, ◌≤◌, List, [], ◌∷◌, ◌++◌, length, take, drop, Option, Some, None, Bool, true, false, cond, refl, sym, ◌∙◌, ap, subst, arith, add-one, length-append, append-nil}
use Rattle.std.proofs.Math.Seq.{take-length}
use Rattle.std.specs.Prelude.{not, ◌==◌, ◌&&◌, ◌||◌}
use Rattle.std.proofs.lemmas.Bool.{eqb-true}
use Rattle.c_text.specs.declared.tokens.TokenKind.TheVariants.{Name, Number, Quote, Str, Mark, Lone}
use Rattle.c_text.specs.declared.pieces.Sort.{Sort}
use Rattle.c_text.specs.declared.pieces.Sort.TheVariants.{Lexeme, Blank, LineEnd, Comment, Open, Bad}
use Rattle.c_text.specs.Forms.{is_one_of, all_are, starts, is_digit, is_letter, is_name_byte, is_name, goes_on, all_go_on, begins_number, is_number, closes, is_quoted, is_utf8_quoted, is_wide, is_constant, is_string, is_mark_byte, is_mark_pair, is_mark_triple, is_mark, is_blank, is_no_line_end, ends_comment, stays_open, is_comment, is_comment_tail, is_open, is_open_tail, is_lone, is_bad, is_printable, is_single, form_of}
use Rattle.c_text.specs.Reading.{run, number_run, partner, comment_end, one_more, quoted, utf8_quoted, only_if, or_piece, letter_at, mark_more, slash_at, single_of, other_at, piece_at}
use Rattle.c_text.proofs.Scans.{out, both, Reads, no_bytes, run_reads, number_reads, partner_reads, comment_reads, quoted_reads, utf8_reads, heads, all_shorter, open_shorter, stays_open_none}
use Rattle.c_text.proofs.Shapes.{form_name, form_number, form_constant, form_string, form_mark, longest_form, no_name, no_number, no_constant, no_string, no_mark, no_comment, no_open, wide_letter, letter_no_mark, digit_no_mark, letter_other, other_letter, digit_other, letter_no_digit}

abbrev pub PieceIs : ℕ → List ℕ → Sort × ℕ → Type 0
PieceIs b bs x = (form_of (b ∷ take x.1 bs) ≡ Some x.0) × ((p rest : List ℕ) (s : Sort) → bs ≡ p ++ rest → form_of (b ∷ p) ≡ Some s → length p ≤ x.1)

pub cut_at : (n : ℕ) (bs : List ℕ) → bs ≡ take n bs ++ drop n bs
cut_at zero bs = refl
cut_at (suc n) [] = refl
cut_at (suc n) (b ∷ bs) = ap (λ r. b ∷ r) (cut_at n bs)

short_take : (n : ℕ) (bs : List ℕ) → length (take n bs) ≤ n
short_take zero bs = omega arith
short_take (suc n) [] = omega arith
short_take (suc n) (b ∷ bs) = let less : length (take n bs) ≤ n = short_take n bs in omega arith

either : {A : Type 0} (s t : Bool) → (s || t) ≡ true → (s ≡ true → A) → (t ≡ true → A) → A
either true t h f g = f refl
either false t h f g = g h

-- Numbers.
digit_goes_on : (before d : ℕ) → is_digit d ≡ true → goes_on before d ≡ true
digit_goes_on before d h = rw h (go (is_letter d))
  where
    go : (t : Bool) → ((t || true) || ((d == 46) || (is_one_of (43 ∷ 45 ∷ []) d && is_one_of (101 ∷ 69 ∷ 112 ∷ 80 ∷ []) before))) ≡ true
    go true = refl
    go false = refl

-- a number begins with a digit, or with `.` and a digit
number_byte : {A : Type 0} (b : ℕ) (bs : List ℕ) → begins_number b bs ≡ true → (is_digit b ≡ true → A) → (b ≡ 46 → starts is_digit bs ≡ true → A) → A
number_byte b bs h f g = either (is_digit b) ((b == 46) && starts is_digit bs) h f (λ k. let parts = both (b == 46) (starts is_digit bs) k in g (eqb-true b 46 parts.0) parts.1)

one_digit : (b n : ℕ) (bs : List ℕ) → ((p rest : List ℕ) → bs ≡ p ++ rest → all_go_on b p ≡ true → length p ≤ n) → starts is_digit bs ≡ true → 1 ≤ n
one_digit b n [] longest h = absurd (cc)
one_digit b n (d ∷ bs) longest h = longest (d ∷ []) bs refl (rw (digit_goes_on b d h) refl)

begins_take : (b n : ℕ) (bs : List ℕ) → ((p rest : List ℕ) → bs ≡ p ++ rest → all_go_on b p ≡ true → length p ≤ n) → begins_number b bs ≡ true → begins_number b (take n bs) ≡ true
begins_take b zero bs longest h =
    number_byte b bs h (λ d. rw d refl) (λ point digit. let some : 1 ≤ 0 = one_digit b 0 bs longest digit in absurd (omega arith))
begins_take b (suc n) [] longest h = h
begins_take b (suc n) (d ∷ bs) longest h = h

mark_number : (b n : ℕ) (bs p rest : List ℕ) → begins_number b bs ≡ true → ((p rest : List ℕ) → bs ≡ p ++ rest → all_go_on b p ≡ true → length p ≤ n) → bs ≡ p ++ rest →
    is_mark (b ∷ p) ≡ true → length p ≤ n
mark_number b n bs [] rest h longest e t = omega arith
mark_number b n bs (x ∷ []) rest h longest e t =
    number_byte b bs h (λ d. out (is_mark (b ∷ x ∷ [])) (no_mark b (x ∷ []) (digit_no_mark b d)) t) (λ point digit. one_digit b n bs longest digit)
mark_number b n bs (x ∷ y ∷ []) rest h longest e t =
    number_byte b bs h (λ d. out (is_mark (b ∷ x ∷ y ∷ [])) (no_mark b (x ∷ y ∷ []) (digit_no_mark b d)) t)
    (λ point digit.
    let triple = both (is_mark_byte b) (is_mark_triple b x y) t in
    let same : b ≡ x = eqb-true b x (both (b == x) (((b == 46) && (y == 46)) || (is_one_of (60 ∷ 62 ∷ []) b && (y == 61))) triple.1).0 in
    let point : x ≡ 46 = cc in
    out (is_digit x) (rw point refl) (rw e at digit))
mark_number b n bs (x ∷ y ∷ z ∷ p) rest h longest e t = absurd (cc)

number_is : (b : ℕ) (bs : List ℕ) → is_letter b ≡ false → begins_number b bs ≡ true → PieceIs b bs (Lexeme Number, number_run b 0 bs)
number_is b bs letter begins = go (number_run b 0 bs) (number_reads b bs)
  where
    other : (c : ℕ) → is_digit c ≡ false → (46 == c) ≡ false → (b == c) ≡ false
    other c d f = number_byte b bs begins (digit_other b c d) (λ point digit. rw point f)

    go : (n : ℕ) → Reads (all_go_on b) (Some n) bs → PieceIs b bs (Lexeme Number, n)
    go n (passes, longest) = (
      form_number (b ∷ take n bs) (no_name b (take n bs) letter) (rw (begins_take b n bs longest begins, passes) refl),
      λ p rest s e h. longest_form b n p s h
          (λ t. out (is_name (b ∷ p)) (no_name b p letter) t)
          (λ t. longest p rest e (both (begins_number b p) (all_go_on b p) t).1)
          (λ t. out (is_constant (b ∷ p)) (no_constant b p (other 39 refl refl) (wide_letter b letter)) t)
          (λ t. out (is_string (b ∷ p)) (no_string b p (other 34 refl refl) (wide_letter b letter) (other 117 refl refl)) t)
          (λ t. mark_number b n bs p rest begins longest e t)
          (λ t. out (is_comment (b ∷ p)) (no_comment b p (other 47 refl refl)) t)
          (λ t. out (is_open (b ∷ p)) (no_open b p (other 47 refl refl)) t),
    )

-- Names, and constants and strings with a prefix.
never_false : (test : List ℕ → Bool) (bs p rest : List ℕ) → Reads test None bs → bs ≡ p ++ rest → test p ≡ false
never_false test bs p rest h e = go (test p) refl
  where
    go : (t : Bool) → test p ≡ t → t ≡ false
    go true k = absurd (h p rest e k)
    go false k = refl

guarded : (t : Bool) (test : List ℕ → Bool) (bs : List ℕ) (o : Option ℕ) → Reads test o bs → Reads (λ p. t && test p) (only_if t o) bs
guarded true test bs None h = h
guarded true test bs (Some m) h = h
guarded false test bs None h = λ p rest e t. cc
guarded false test bs (Some m) h = λ p rest e t. cc

quoted_starts : (quote : ℕ) (p : List ℕ) → is_quoted quote p ≡ true → starts (λ b. b == quote) p ≡ true
quoted_starts quote [] h = h
quoted_starts quote (x ∷ p) h = (both (x == quote) (closes quote false p) h).0

utf8_starts : (p : List ℕ) → is_utf8_quoted p ≡ true → starts (λ b. b == 56) p ≡ true
utf8_starts [] h = h
utf8_starts (x ∷ p) h = (both (x == 56) (is_quoted 34 p) h).0

two_bytes : (c d x : ℕ) → (c ≡ d → ⊥) → (x == c) ≡ true → (x == d) ≡ true → ⊥
two_bytes c d x differ h k = let a : x ≡ c = eqb-true x c h in let b : x ≡ d = eqb-true x d k in differ (sym a ∙ b)

quoted_no_name : (quote : ℕ) (p : List ℕ) → is_name_byte quote ≡ false → is_quoted quote p ≡ true → all_are is_name_byte p ≡ false
quoted_no_name quote [] h k = absurd (cc)
quoted_no_name quote (x ∷ p) h k = let same : x ≡ quote = eqb-true x quote (both (x == quote) (closes quote false p) k).0 in rw same (rw h refl)

and_false : (t : Bool) → (t && false) ≡ false
and_false true = refl
and_false false = refl

utf8_no_name : (p : List ℕ) → is_utf8_quoted p ≡ true → all_are is_name_byte p ≡ false
utf8_no_name [] k = absurd (cc)
utf8_no_name (x ∷ p) k = rw (quoted_no_name 34 p refl (both (x == 56) (is_quoted 34 p) k).1) (and_false (is_name_byte x))

or_true : (t : Bool) → (t || true) ≡ true
or_true true = refl
or_true false = refl

letter_number : (b : ℕ) (bs p rest : List ℕ) → is_letter b ≡ true → bs ≡ p ++ rest → is_number (b ∷ p) ≡ false
letter_number b bs p rest letter e = no_number b bs p rest e (rw (letter_no_digit b letter, letter_other b 46 refl letter) refl)

name_is : (b : ℕ) (p : List ℕ) → is_letter b ≡ true → is_name (b ∷ p) ≡ all_are is_name_byte p
name_is b p letter = rw letter refl

constant_is : (b : ℕ) (wide : Bool) (p : List ℕ) → is_letter b ≡ true → is_wide b ≡ wide → is_constant (b ∷ p) ≡ (wide && is_quoted 39 p)
constant_is b wide p letter w = rw (letter_other b 39 refl letter, w) refl

string_is : (b : ℕ) (wide utf8 : Bool) (p : List ℕ) → is_letter b ≡ true → is_wide b ≡ wide → (b == 117) ≡ utf8 → is_string (b ∷ p) ≡ ((wide && is_quoted 34 p) || (utf8 && is_utf8_quoted p))
string_is b wide utf8 p letter w u = rw (letter_other b 34 refl letter, w, u) refl

abbrev Bounds : (List ℕ → Bool) → List ℕ → ℕ → Type 0
Bounds test bs n = (p rest : List ℕ) → bs ≡ p ++ rest → test p ≡ true → length p ≤ n

letter_bound : (b n : ℕ) (bs : List ℕ) (wide utf8 : Bool) → is_letter b ≡ true → is_wide b ≡ wide → (b == 117) ≡ utf8 → Bounds (all_are is_name_byte) bs n → Bounds (λ p. wide && is_quoted 39 p) bs n →
    Bounds (λ p. wide && is_quoted 34 p) bs n → Bounds (λ p. utf8 && is_utf8_quoted p) bs n → (p rest : List ℕ) (s : Sort) → bs ≡ p ++ rest → form_of (b ∷ p) ≡ Some s → length p ≤ n
letter_bound b n bs wide utf8 letter w u names constants strings others p rest s e h = longest_form b n p s h
    (λ t. names p rest e (sym (name_is b p letter) ∙ t))
    (λ t. out (is_number (b ∷ p)) (letter_number b bs p rest letter e) t)
    (λ t. constants p rest e (sym (constant_is b wide p letter w) ∙ t))
    (λ t. either (wide && is_quoted 34 p) (utf8 && is_utf8_quoted p) (sym (string_is b wide utf8 p letter w u) ∙ t) (strings p rest e) (others p rest e))
    (λ t. out (is_mark (b ∷ p)) (no_mark b p (letter_no_mark b letter)) t)
    (λ t. out (is_comment (b ∷ p)) (no_comment b p (letter_other b 47 refl letter)) t)
    (λ t. out (is_open (b ∷ p)) (no_open b p (letter_other b 47 refl letter)) t)

shorter_name : (m : ℕ) (bs : List ℕ) → all_are is_name_byte (take m bs) ≡ false → Bounds (all_are is_name_byte) bs m
shorter_name m bs differs p rest e t =
    let less : length p ≤ length (take m bs) = all_shorter is_name_byte p (take m bs) rest (drop m bs) (sym e ∙ cut_at m bs) t differs in
    let most : length (take m bs) ≤ m = short_take m bs in
    omega arith

clash : (c d m : ℕ) (bs p rest : List ℕ) → bs ≡ p ++ rest → (c ≡ d → ⊥) → starts (λ b. b == c) p ≡ true → starts (λ b. b == d) (take m bs) ≡ true → length p ≤ m
clash c d m bs p rest e differ h k = absurd (heads p rest (take m bs) (drop m bs) (λ b. b == c) (λ b. b == d) (sym e ∙ cut_at m bs) (λ x. two_bytes c d x differ) h k)

letter_constant : (b m : ℕ) (bs : List ℕ) (wide utf8 : Bool) → is_letter b ≡ true → is_wide b ≡ wide → (b == 117) ≡ utf8 → Reads (λ p. wide && is_quoted 39 p) (Some m) bs → PieceIs b bs (Lexeme Quote, m)
letter_constant b m bs wide utf8 letter w u c = (form, bound)
  where
    quote : is_quoted 39 (take m bs) ≡ true
    quote = (both wide (is_quoted 39 (take m bs)) c.0).1

    differs : all_are is_name_byte (take m bs) ≡ false
    differs = quoted_no_name 39 (take m bs) refl quote

    form : form_of (b ∷ take m bs) ≡ Some (Lexeme Quote)
    form = form_constant (b ∷ take m bs) (name_is b (take m bs) letter ∙ differs) (letter_number b bs (take m bs) (drop m bs) letter (cut_at m bs)) (constant_is b wide (take m bs) letter w ∙ c.0)

    bound : (p rest : List ℕ) (s : Sort) → bs ≡ p ++ rest → form_of (b ∷ p) ≡ Some s → length p ≤ m
    bound = letter_bound b m bs wide utf8 letter w u (shorter_name m bs differs) c.1
        (λ p rest e h. clash 34 39 m bs p rest e (λ e. cc) (quoted_starts 34 p (both wide (is_quoted 34 p) h).1) (quoted_starts 39 (take m bs) quote))
        (λ p rest e h. clash 56 39 m bs p rest e (λ e. cc) (utf8_starts p (both utf8 (is_utf8_quoted p) h).1) (quoted_starts 39 (take m bs) quote))

letter_string : (b m : ℕ) (bs : List ℕ) (wide utf8 : Bool) → is_letter b ≡ true → is_wide b ≡ wide → (b == 117) ≡ utf8 → Reads (λ p. wide && is_quoted 39 p) None bs →
    Reads (λ p. wide && is_quoted 34 p) (Some m) bs → PieceIs b bs (Lexeme Str, m)
letter_string b m bs wide utf8 letter w u c s = (form, bound)
  where
    quote : is_quoted 34 (take m bs) ≡ true
    quote = (both wide (is_quoted 34 (take m bs)) s.0).1

    differs : all_are is_name_byte (take m bs) ≡ false
    differs = quoted_no_name 34 (take m bs) refl quote

    form : form_of (b ∷ take m bs) ≡ Some (Lexeme Str)
    form = form_string (b ∷ take m bs) (name_is b (take m bs) letter ∙ differs) (letter_number b bs (take m bs) (drop m bs) letter (cut_at m bs))
        (constant_is b wide (take m bs) letter w ∙ never_false (λ p. wide && is_quoted 39 p) bs (take m bs) (drop m bs) c (cut_at m bs))
        (string_is b wide utf8 (take m bs) letter w u ∙ rw s.0 refl)

    bound : (p rest : List ℕ) (s : Sort) → bs ≡ p ++ rest → form_of (b ∷ p) ≡ Some s → length p ≤ m
    bound = letter_bound b m bs wide utf8 letter w u (shorter_name m bs differs) (λ p rest e h. absurd (c p rest e h)) s.1
        (λ p rest e h. clash 56 34 m bs p rest e (λ e. cc) (utf8_starts p (both utf8 (is_utf8_quoted p) h).1) (quoted_starts 34 (take m bs) quote))

letter_utf8 : (b m : ℕ) (bs : List ℕ) (wide utf8 : Bool) → is_letter b ≡ true → is_wide b ≡ wide → (b == 117) ≡ utf8 → Reads (λ p. wide && is_quoted 39 p) None bs →
    Reads (λ p. wide && is_quoted 34 p) None bs → Reads (λ p. utf8 && is_utf8_quoted p) (Some m) bs → PieceIs b bs (Lexeme Str, m)
letter_utf8 b m bs wide utf8 letter w u c s t = (form, bound)
  where
    differs : all_are is_name_byte (take m bs) ≡ false
    differs = utf8_no_name (take m bs) (both utf8 (is_utf8_quoted (take m bs)) t.0).1

    form : form_of (b ∷ take m bs) ≡ Some (Lexeme Str)
    form = form_string (b ∷ take m bs) (name_is b (take m bs) letter ∙ differs) (letter_number b bs (take m bs) (drop m bs) letter (cut_at m bs))
        (constant_is b wide (take m bs) letter w ∙ never_false (λ p. wide && is_quoted 39 p) bs (take m bs) (drop m bs) c (cut_at m bs))
        (string_is b wide utf8 (take m bs) letter w u ∙ rw t.0 (or_true (wide && is_quoted 34 (take m bs))))

    bound : (p rest : List ℕ) (s : Sort) → bs ≡ p ++ rest → form_of (b ∷ p) ≡ Some s → length p ≤ m
    bound = letter_bound b m bs wide utf8 letter w u (shorter_name m bs differs) (λ p rest e h. absurd (c p rest e h)) (λ p rest e h. absurd (s p rest e h)) t.1

letter_name : (b r : ℕ) (bs : List ℕ) (wide utf8 : Bool) → is_letter b ≡ true → is_wide b ≡ wide → (b == 117) ≡ utf8 → Reads (λ p. wide && is_quoted 39 p) None bs →
    Reads (λ p. wide && is_quoted 34 p) None bs → Reads (λ p. utf8 && is_utf8_quoted p) None bs → Reads (all_are is_name_byte) (Some r) bs → PieceIs b bs (Lexeme Name, r)
letter_name b r bs wide utf8 letter w u c s t n = (
  form_name (b ∷ take r bs) (name_is b (take r bs) letter ∙ n.0),
  letter_bound b r bs wide utf8 letter w u n.1 (λ p rest e h. absurd (c p rest e h)) (λ p rest e h. absurd (s p rest e h)) (λ p rest e h. absurd (t p rest e h)),
)

letter_piece : (b r : ℕ) (bs : List ℕ) (wide utf8 : Bool) (o1 o2 o3 : Option ℕ) → is_letter b ≡ true → is_wide b ≡ wide → (b == 117) ≡ utf8 →
    Reads (λ p. wide && is_quoted 39 p) o1 bs → Reads (λ p. wide && is_quoted 34 p) o2 bs → Reads (λ p. utf8 && is_utf8_quoted p) o3 bs → Reads (all_are is_name_byte) (Some r) bs →
    PieceIs b bs (or_piece o1 (Lexeme Quote) (or_piece o2 (Lexeme Str) (or_piece o3 (Lexeme Str) (Lexeme Name, r))))
letter_piece b r bs wide utf8 (Some m) o2 o3 letter w u c s t n = letter_constant b m bs wide utf8 letter w u c
letter_piece b r bs wide utf8 None (Some m) o3 letter w u c s t n = letter_string b m bs wide utf8 letter w u c s
letter_piece b r bs wide utf8 None None (Some m) letter w u c s t n = letter_utf8 b m bs wide utf8 letter w u c s t
letter_piece b r bs wide utf8 None None None letter w u c s t n = letter_name b r bs wide utf8 letter w u c s t n

letter_is : (b : ℕ) (bs : List ℕ) → is_letter b ≡ true → PieceIs b bs (letter_at b bs)
letter_is b bs letter =
    letter_piece b (run is_name_byte 0 bs) bs (is_wide b) (b == 117) (only_if (is_wide b) (quoted 39 bs)) (only_if (is_wide b) (quoted 34 bs)) (only_if (b == 117) (utf8_quoted bs)) letter refl refl
    (guarded (is_wide b) (is_quoted 39) bs (quoted 39 bs) (quoted_reads 39 bs)) (guarded (is_wide b) (is_quoted 34) bs (quoted 34 bs) (quoted_reads 34 bs))
    (guarded (b == 117) is_utf8_quoted bs (utf8_quoted bs) (utf8_reads bs)) (run_reads is_name_byte bs)

-- Quotes.
single_quote : (bs : List ℕ) (o : Option ℕ) → Reads (closes 39 false) o bs → PieceIs 39 bs (or_piece o (Lexeme Quote) (Lexeme Lone, 0))
unfolding form_of
single_quote bs (Some m) h = (
  form_constant (39 ∷ take m bs) refl refl (rw h.0 refl),
  λ p rest s e f. longest_form 39 m p s f (λ t. absurd (cc)) (λ t. absurd (cc)) (λ t. either (closes 39 false p) false t (h.1 p rest e) (λ k. absurd (cc)))
      (λ t. absurd (cc)) (λ t. out (is_mark (39 ∷ p)) (no_mark 39 p refl) t) (λ t. absurd (cc)) (λ t. absurd (cc)),
)
single_quote bs None h = (
  refl,
  λ p rest s e f. longest_form 39 0 p s f (λ t. absurd (cc)) (λ t. absurd (cc)) (λ t. either (closes 39 false p) false t (λ k. absurd (h p rest e k)) (λ k. absurd (cc)))
      (λ t. absurd (cc)) (λ t. out (is_mark (39 ∷ p)) (no_mark 39 p refl) t) (λ t. absurd (cc)) (λ t. absurd (cc)),
)

double_quote : (bs : List ℕ) (o : Option ℕ) → Reads (closes 34 false) o bs → PieceIs 34 bs (or_piece o (Lexeme Str) (Lexeme Lone, 0))
unfolding form_of
double_quote bs (Some m) h = (
  form_string (34 ∷ take m bs) refl refl refl (rw h.0 refl),
  λ p rest s e f. longest_form 34 m p s f (λ t. absurd (cc)) (λ t. absurd (cc)) (λ t. absurd (cc)) (λ t. either (closes 34 false p) false t (h.1 p rest e) (λ k. absurd (cc)))
      (λ t. out (is_mark (34 ∷ p)) (no_mark 34 p refl) t) (λ t. absurd (cc)) (λ t. absurd (cc)),
)
double_quote bs None h = (
  refl,
  λ p rest s e f. longest_form 34 0 p s f (λ t. absurd (cc)) (λ t. absurd (cc)) (λ t. absurd (cc)) (λ t. either (closes 34 false p) false t (λ k. absurd (h p rest e k)) (λ k. absurd (cc)))
      (λ t. out (is_mark (34 ∷ p)) (no_mark 34 p refl) t) (λ t. absurd (cc)) (λ t. absurd (cc)),
)

-- Comments, and marks that begin with `/`.
slash_star : (p : List ℕ) → is_mark (47 ∷ 42 ∷ p) ≡ false
slash_star [] = refl
slash_star (x ∷ []) = refl
slash_star (x ∷ y ∷ p) = refl

slash_slash : (p : List ℕ) → is_mark (47 ∷ 47 ∷ p) ≡ false
slash_slash [] = refl
slash_slash (x ∷ []) = refl
slash_slash (x ∷ y ∷ p) = refl

form_comment : (bs : List ℕ) → is_name bs ≡ false → is_number bs ≡ false → is_constant bs ≡ false → is_string bs ≡ false → is_mark bs ≡ false → is_single is_lone bs ≡ false →
    is_single is_blank bs ≡ false → is_single (λ b. b == 10) bs ≡ false → is_comment bs ≡ true → form_of bs ≡ Some Comment
unfolding form_of
form_comment bs a b c d e f g h i = rw (a, b, c, d, e, f, g, h, i) refl

form_open : (bs : List ℕ) → is_name bs ≡ false → is_number bs ≡ false → is_constant bs ≡ false → is_string bs ≡ false → is_mark bs ≡ false → is_single is_lone bs ≡ false →
    is_single is_blank bs ≡ false → is_single (λ b. b == 10) bs ≡ false → is_comment bs ≡ false → is_open bs ≡ true → form_of bs ≡ Some Open
unfolding form_of
form_open bs a b c d e f g h i j = rw (a, b, c, d, e, f, g, h, i, j) refl

-- what a prefix that begins with a slash can be
slash_bound : (n : ℕ) (p : List ℕ) (s : Sort) → form_of (47 ∷ p) ≡ Some s → (is_mark (47 ∷ p) ≡ true → length p ≤ n) → (is_comment_tail p ≡ true → length p ≤ n) →
    (is_open_tail p ≡ true → length p ≤ n) → length p ≤ n
slash_bound n p s h mark comment unended =
    longest_form 47 n p s h (λ t. absurd (cc)) (λ t. absurd (cc)) (λ t. absurd (cc)) (λ t. absurd (cc)) mark comment unended

star_tail : (x : ℕ) (p : List ℕ) → x ≡ 42 → is_comment_tail (x ∷ p) ≡ true → ends_comment false p ≡ true
star_tail x p e t = either (ends_comment false p) false (subst (λ y. is_comment_tail (y ∷ p) ≡ true) e t) (λ k. k) (λ k. absurd (cc))

star_open : (x : ℕ) (p : List ℕ) → x ≡ 42 → is_open_tail (x ∷ p) ≡ true → stays_open false p ≡ true
star_open x p e t = subst (λ y. is_open_tail (y ∷ p) ≡ true) e t

slash_tail : (x : ℕ) (p : List ℕ) → x ≡ 47 → is_comment_tail (x ∷ p) ≡ true → all_are is_no_line_end p ≡ true
slash_tail x p e t = subst (λ y. is_comment_tail (y ∷ p) ≡ true) e t

slash_open : (x : ℕ) (p : List ℕ) → x ≡ 47 → is_open_tail (x ∷ p) ≡ false
slash_open x p e = rw e refl

second_mark : (x y : ℕ) (p : List ℕ) → x ≡ y → is_mark (47 ∷ y ∷ p) ≡ false → is_mark (47 ∷ x ∷ p) ≡ false
second_mark x y p e h = subst (λ z. is_mark (47 ∷ z ∷ p) ≡ false) (sym e) h

star_ended : (m : ℕ) (cs : List ℕ) → Reads (ends_comment false) (Some m) cs → PieceIs 47 (42 ∷ cs) (Comment, suc m)
star_ended m cs h = (form_comment (47 ∷ 42 ∷ take m cs) refl refl refl refl (slash_star (take m cs)) refl refl refl (rw h.0 refl), bound)
  where
    bound : (p rest : List ℕ) (s : Sort) → 42 ∷ cs ≡ p ++ rest → form_of (47 ∷ p) ≡ Some s → length p ≤ suc m
    bound [] rest s e f = omega arith
    bound (x ∷ p) rest s e f =
        let star : x ≡ 42 = cc in
        let same : cs ≡ p ++ rest = cc in
        slash_bound (suc m) (x ∷ p) s f (λ t. out (is_mark (47 ∷ x ∷ p)) (second_mark x 42 p star (slash_star p)) t)
        (λ t. let less : length p ≤ m = h.1 p rest same (star_tail x p star t) in omega arith)
        (λ t.
        let less : length p ≤ length (take m cs) = open_shorter false p (take m cs) rest (drop m cs) (sym same ∙ cut_at m cs) (star_open x p star t) h.0 in
        let most : length (take m cs) ≤ m = short_take m cs in
        omega arith)

star_unended : (cs : List ℕ) → Reads (ends_comment false) None cs → stays_open false cs ≡ true → PieceIs 47 (42 ∷ cs) (Open, suc (length cs))
star_unended cs h opens = (
  form_open (47 ∷ 42 ∷ take (length cs) cs) refl refl refl refl (slash_star (take (length cs) cs)) refl refl refl
      (rw (take-length cs, never_false (ends_comment false) cs cs [] h (sym (append-nil cs))) refl) (rw (take-length cs) opens),
  bound,
)
  where
    bound : (p rest : List ℕ) (s : Sort) → 42 ∷ cs ≡ p ++ rest → form_of (47 ∷ p) ≡ Some s → length p ≤ suc (length cs)
    bound p rest s e f = let all : suc (length cs) ≡ length (p ++ rest) = ap length e in omega (arith, length-append p rest)

star_comment : (cs : List ℕ) (o : Option ℕ) → Reads (ends_comment false) o cs → (o ≡ None → stays_open false cs ≡ true) →
    PieceIs 47 (42 ∷ cs) (or_piece (one_more o) Comment (Open, length cs + 1))
star_comment cs (Some m) h opens = subst (λ n. PieceIs 47 (42 ∷ cs) (Comment, n)) (sym (add-one m)) (star_ended m cs h)
star_comment cs None h opens = subst (λ n. PieceIs 47 (42 ∷ cs) (Open, n)) (sym (add-one (length cs))) (star_unended cs h (opens refl))

line_comment : (m : ℕ) (cs : List ℕ) → Reads (all_are is_no_line_end) (Some m) cs → PieceIs 47 (47 ∷ cs) (Comment, suc m)
line_comment m cs h = (form_comment (47 ∷ 47 ∷ take m cs) refl refl refl refl (slash_slash (take m cs)) refl refl refl h.0, bound)
  where
    bound : (p rest : List ℕ) (s : Sort) → 47 ∷ cs ≡ p ++ rest → form_of (47 ∷ p) ≡ Some s → length p ≤ suc m
    bound [] rest s e f = omega arith
    bound (x ∷ p) rest s e f =
        let slash : x ≡ 47 = cc in
        slash_bound (suc m) (x ∷ p) s f (λ t. out (is_mark (47 ∷ x ∷ p)) (second_mark x 47 p slash (slash_slash p)) t)
        (λ t. let less : length p ≤ m = h.1 p rest (cc) (slash_tail x p slash t) in omega arith)
        (λ t. out (is_open_tail (x ∷ p)) (slash_open x p slash) t)

-- Marks.
and_true : (s t : Bool) → s ≡ true → (s && t) ≡ t
and_true s t h = rw h refl

marked : (b : ℕ) (bs : List ℕ) → is_mark_byte b ≡ true → is_mark (b ∷ take (mark_more b bs) bs) ≡ true
marked b [] h = h
marked b (c ∷ []) h = go (is_mark_pair b c) refl
  where
    go : (t : Bool) → is_mark_pair b c ≡ t → is_mark (b ∷ take (cond t 1 0) (c ∷ [])) ≡ true
    go true k = rw (h, k) refl
    go false k = h
marked b (c ∷ d ∷ bs) h = go (is_mark_triple b c d) refl (is_mark_pair b c) refl
  where
    go : (t : Bool) → is_mark_triple b c d ≡ t → (u : Bool) → is_mark_pair b c ≡ u → is_mark (b ∷ take (cond t 2 (cond u 1 0)) (c ∷ d ∷ bs)) ≡ true
    go true k u l = rw (h, k) refl
    go false k true l = rw (h, l) refl
    go false k false l = h

pair_more : (b c : ℕ) (bs : List ℕ) → is_mark_pair b c ≡ true → 1 ≤ mark_more b (c ∷ bs)
pair_more b c [] h = rw h (omega arith)
pair_more b c (d ∷ bs) h = go (is_mark_triple b c d)
  where
    go : (t : Bool) → 1 ≤ cond t 2 (cond (is_mark_pair b c) 1 0)
    go true = omega arith
    go false = rw h (omega arith)

mark_bound : (b : ℕ) (bs p rest : List ℕ) → bs ≡ p ++ rest → is_mark (b ∷ p) ≡ true → length p ≤ mark_more b bs
mark_bound b bs [] rest e t = omega arith
mark_bound b bs (x ∷ []) rest e t = rw e (pair_more b x rest (both (is_mark_byte b) (is_mark_pair b x) t).1)
mark_bound b bs (x ∷ y ∷ []) rest e t = rw (e, (both (is_mark_byte b) (is_mark_triple b x y) t).1) (omega arith)
mark_bound b bs (x ∷ y ∷ z ∷ p) rest e t = absurd (cc)

mark_is : (b : ℕ) (bs : List ℕ) → is_mark_byte b ≡ true → is_letter b ≡ false → begins_number b bs ≡ false → (b == 39) ≡ false → (b == 34) ≡ false →
    ((p rest : List ℕ) → bs ≡ p ++ rest → is_comment (b ∷ p) ≡ false) → ((p rest : List ℕ) → bs ≡ p ++ rest → is_open (b ∷ p) ≡ false) → PieceIs b bs (Lexeme Mark, mark_more b bs)
mark_is b bs mark letter number single double comment unended = (
  form_mark (b ∷ take (mark_more b bs) bs) (no_name b (take (mark_more b bs) bs) letter) (no_number b bs (take (mark_more b bs) bs) (drop (mark_more b bs) bs) (cut_at (mark_more b bs) bs) number)
      (no_constant b (take (mark_more b bs) bs) single (wide_letter b letter)) (no_string b (take (mark_more b bs) bs) double (wide_letter b letter) (other_letter b 117 refl letter)) (marked b bs mark),
  λ p rest s e f. longest_form b (mark_more b bs) p s f
      (λ t. out (is_name (b ∷ p)) (no_name b p letter) t)
      (λ t. out (is_number (b ∷ p)) (no_number b bs p rest e number) t)
      (λ t. out (is_constant (b ∷ p)) (no_constant b p single (wide_letter b letter)) t)
      (λ t. out (is_string (b ∷ p)) (no_string b p double (wide_letter b letter) (other_letter b 117 refl letter)) t)
      (λ t. mark_bound b bs p rest e t)
      (λ t. out (is_comment (b ∷ p)) (comment p rest e) t)
      (λ t. out (is_open (b ∷ p)) (unended p rest e) t),
)

slash_mark : (b : ℕ) (cs : List ℕ) → (b == 42) ≡ false → (b == 47) ≡ false → PieceIs 47 (b ∷ cs) (Lexeme Mark, mark_more 47 (b ∷ cs))
slash_mark b cs star slash = mark_is 47 (b ∷ cs) refl refl refl refl refl comment unended
  where
    comment : (p rest : List ℕ) → b ∷ cs ≡ p ++ rest → is_comment (47 ∷ p) ≡ false
    comment [] rest e = refl
    comment (x ∷ p) rest e = let same : b ≡ x = cc in subst (λ y. is_comment (47 ∷ y ∷ p) ≡ false) same (rw (star, slash) refl)

    unended : (p rest : List ℕ) → b ∷ cs ≡ p ++ rest → is_open (47 ∷ p) ≡ false
    unended [] rest e = refl
    unended (x ∷ p) rest e = let same : b ≡ x = cc in subst (λ y. is_open (47 ∷ y ∷ p) ≡ false) same (rw star refl)

slash_alone : PieceIs 47 [] (Lexeme Mark, 0)
slash_alone = (form_mark (47 ∷ []) refl refl refl refl refl, λ p rest s e f. rw (no_bytes p rest e) (omega arith))

slash_is : (bs : List ℕ) → PieceIs 47 bs (slash_at bs)
slash_is [] = slash_alone
slash_is (b ∷ cs) = go (b == 42) refl (b == 47) refl
  where
    go : (t : Bool) → (b == 42) ≡ t → (u : Bool) → (b == 47) ≡ u →
        PieceIs 47 (b ∷ cs) (cond t (or_piece (one_more (comment_end false 0 cs)) Comment (Open, length cs + 1)) (cond u (Comment, run is_no_line_end 0 cs + 1) (Lexeme Mark, mark_more 47 (b ∷ cs))))
    go true h u k = subst (λ x. PieceIs 47 (x ∷ cs) (or_piece (one_more (comment_end false 0 cs)) Comment (Open, length cs + 1))) (sym (eqb-true b 42 h))
        (star_comment cs (comment_end false 0 cs) (comment_reads cs) (stays_open_none false 0 cs))
    go false h true k = subst (λ x. PieceIs 47 (x ∷ cs) (Comment, run is_no_line_end 0 cs + 1)) (sym (eqb-true b 47 k))
        (subst (λ n. PieceIs 47 (47 ∷ cs) (Comment, n)) (sym (add-one (run is_no_line_end 0 cs))) (line_comment (run is_no_line_end 0 cs) cs (run_reads is_no_line_end cs)))
    go false h false k = slash_mark b cs h k

-- Bytes that stand by themselves.
form_singles : (bs : List ℕ) → is_name bs ≡ false → is_number bs ≡ false → is_constant bs ≡ false → is_string bs ≡ false → is_mark bs ≡ false → is_comment bs ≡ false → is_open bs ≡ false →
    form_of bs ≡ cond (is_single is_lone bs) (Some (Lexeme Lone)) (cond (is_single is_blank bs) (Some Blank) (cond (is_single (λ b. b == 10) bs) (Some LineEnd) (cond (is_single is_bad bs) (Some Bad) None)))
unfolding form_of
form_singles bs name number constant string mark comment unended = rw (name, number, constant, string, mark, comment, unended) refl

form_rest : (b : ℕ) → is_name (b ∷ []) ≡ false → is_number (b ∷ []) ≡ false → is_constant (b ∷ []) ≡ false → is_string (b ∷ []) ≡ false → is_mark (b ∷ []) ≡ false →
    is_comment (b ∷ []) ≡ false → is_open (b ∷ []) ≡ false → is_bad b ≡ (not (is_lone b) && (not (is_blank b) && not (b == 10))) → form_of (b ∷ []) ≡ Some (single_of b)
form_rest b name number constant string mark comment unended bad =
    form_singles (b ∷ []) name number constant string mark comment unended ∙ rw bad (go (is_lone b) (is_blank b) (b == 10))
  where
    go : (l w f : Bool) → cond (l && true) (Some (Lexeme Lone)) (cond (w && true) (Some Blank) (cond (f && true) (Some LineEnd) (cond ((not l && (not w && not f)) && true) (Some Bad) None))) ≡
        Some (cond l (Lexeme Lone) (cond w Blank (cond f LineEnd Bad)))
    go true w f = refl
    go false true f = refl
    go false false true = refl
    go false false false = refl

-- a byte that begins no name, number or mark is bad where it isn't lone, blank or a line end
bad_rest : (b : ℕ) → is_letter b ≡ false → is_digit b ≡ false → is_mark_byte b ≡ false → is_bad b ≡ (not (is_lone b) && (not (is_blank b) && not (b == 10)))
bad_rest b letter digit mark = rw (letter, digit, mark) (go (is_printable b) (is_blank b) (b == 10))
  where
    go : (p w f : Bool) → not (p || (w || f)) ≡ (not (p && true) && (not w && not f))
    go true w f = refl
    go false true f = refl
    go false false true = refl
    go false false false = refl

digit_part : (b : ℕ) (bs : List ℕ) → begins_number b bs ≡ false → is_digit b ≡ false
digit_part b bs h = go (is_digit b) h
  where
    go : (t : Bool) → (t || ((b == 46) && starts is_digit bs)) ≡ false → t ≡ false
    go true h = h
    go false h = refl

single_is : (b : ℕ) (bs : List ℕ) → is_letter b ≡ false → begins_number b bs ≡ false → (b == 39) ≡ false → (b == 34) ≡ false → (b == 47) ≡ false → is_mark_byte b ≡ false → PieceIs b bs (single_of b, 0)
single_is b bs letter number single double slash mark = (
  form_rest b (no_name b [] letter) (no_number b bs [] bs refl number) (no_constant b [] single (wide_letter b letter)) (no_string b [] double (wide_letter b letter) (other_letter b 117 refl letter))
      (no_mark b [] mark) (no_comment b [] slash) (no_open b [] slash) (bad_rest b letter (digit_part b bs number) mark),
  λ p rest s e f. longest_form b 0 p s f
      (λ t. out (is_name (b ∷ p)) (no_name b p letter) t)
      (λ t. out (is_number (b ∷ p)) (no_number b bs p rest e number) t)
      (λ t. out (is_constant (b ∷ p)) (no_constant b p single (wide_letter b letter)) t)
      (λ t. out (is_string (b ∷ p)) (no_string b p double (wide_letter b letter) (other_letter b 117 refl letter)) t)
      (λ t. out (is_mark (b ∷ p)) (no_mark b p mark) t)
      (λ t. out (is_comment (b ∷ p)) (no_comment b p slash) t)
      (λ t. out (is_open (b ∷ p)) (no_open b p slash) t),
)

other_is : (b : ℕ) (bs : List ℕ) → is_letter b ≡ false → begins_number b bs ≡ false → PieceIs b bs (other_at b bs)
other_is b bs letter number = go (b == 39) refl (b == 34) refl (b == 47) refl (is_mark_byte b) refl
  where
    go : (t : Bool) → (b == 39) ≡ t → (u : Bool) → (b == 34) ≡ u → (v : Bool) → (b == 47) ≡ v → (w : Bool) → is_mark_byte b ≡ w →
        PieceIs b bs (cond t (or_piece (partner 39 false 0 bs) (Lexeme Quote) (Lexeme Lone, 0)) (cond u (or_piece (partner 34 false 0 bs) (Lexeme Str) (Lexeme Lone, 0))
        (cond v (slash_at bs) (cond w (Lexeme Mark, mark_more b bs) (single_of b, 0)))))
    go true h u i v j w k = subst (λ x. PieceIs x bs (or_piece (partner 39 false 0 bs) (Lexeme Quote) (Lexeme Lone, 0))) (sym (eqb-true b 39 h)) (single_quote bs (partner 39 false 0 bs) (partner_reads 39 bs))
    go false h true i v j w k = subst (λ x. PieceIs x bs (or_piece (partner 34 false 0 bs) (Lexeme Str) (Lexeme Lone, 0))) (sym (eqb-true b 34 i)) (double_quote bs (partner 34 false 0 bs) (partner_reads 34 bs))
    go false h false i true j w k = subst (λ x. PieceIs x bs (slash_at bs)) (sym (eqb-true b 47 j)) (slash_is bs)
    go false h false i false j true k = mark_is b bs k letter number h i (λ p rest e. no_comment b p j) (λ p rest e. no_open b p j)
    go false h false i false j false k = single_is b bs letter number h i j k

pub piece_is : (b : ℕ) (bs : List ℕ) → PieceIs b bs (piece_at b bs)
unfolding piece_at
piece_is b bs = go (is_letter b) refl (begins_number b bs) refl
  where
    go : (t : Bool) → is_letter b ≡ t → (u : Bool) → begins_number b bs ≡ u → PieceIs b bs (cond t (letter_at b bs) (cond u (Lexeme Number, number_run b 0 bs) (other_at b bs)))
    go true h u k = letter_is b bs h
    go false h true k = number_is b bs h k
    go false h false k = other_is b bs h k
