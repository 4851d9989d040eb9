-- The tokens of a text that is made of words are these words.
use Rattle.std.proofs.Common.{◌≡◌, ℕ, List, [], ◌∷◌, ◌++◌, map, Bool, true, false, refl, ◌∙◌, ap, arith}
use Rattle.std.proofs.lemmas.Bool.{eqb-true}
use Rattle.std.proofs.lemmas.Bool.Decides.{nat_tests}
use Rattle.std.proofs.lemmas.List.{map-append}
use Rattle.std.specs.Prelude.{not, ◌&&◌, ◌||◌, ◌==◌, nat_le}
use Rattle.c_text.specs.declared.tokens.Token.{Token}
use Rattle.c_text.specs.declared.source.Placed.{Placed}
use Rattle.c_text.specs.declared.pieces.Sort.{Sort}
use Rattle.c_text.specs.declared.pieces.Sort.TheVariants.{Lexeme, Blank, LineEnd, Comment, Open, Bad}
use Rattle.c_text.specs.Source.{without_order_mark, line_behind, col_behind, placed, line_ends, spliced, shown, bytes_of}
use Rattle.c_text.specs.Forms.{is_within, is_bad, all_are}
use Rattle.c_text.specs.Tokens.{Piece, bytes_in, is_white, first_behind, token_in, tokens_of, bad_bytes}
use Rattle.c_text.proofs.Scans.{out, both}
use Rattle.round_trip.specs.Words.{Bit, bit_text, bits_text, CutsBack, is_plain_byte, is_plain_sort, is_plain_bit, all_plain, word_of, words_of, said, Marked, marked, marked_word, marked_words}
use Rattle.round_trip.specs.Unlimited.{other_faults_in, other_faults, UnlimitedTokens}
use Rattle.round_trip.proofs.Pieces.{bit_of, cut_back}

bytes_placed : (line col : ℕ) (bs : List ℕ) → bytes_of (placed line col bs) ≡ bs
bytes_placed line col [] = refl
bytes_placed line col (b ∷ bs) = ap (λ r. b ∷ r) (bytes_placed (line_behind line b) (col_behind col b) bs)

-- a byte of a written text is none of these
not_that : (b c : ℕ) → is_plain_byte c ≡ false → is_plain_byte b ≡ true → (b == c) ≡ false
not_that b c other plain = go (b == c) refl
  where
    go : (t : Bool) → (b == c) ≡ t → t ≡ false
    go true e = out (is_plain_byte b) (ap is_plain_byte (eqb-true b c e) ∙ other) plain
    go false e = refl

and_no : (s t : Bool) → s ≡ false → (s && t) ≡ false
and_no s t h = rw h refl

same_lines : (line col : ℕ) (bs : List ℕ) → all_are is_plain_byte bs ≡ true → line_ends (placed line col bs) ≡ placed line col bs
same_lines line col [] h = refl
same_lines line col (b ∷ bs) h =
    let b_is = (both (is_plain_byte b) (all_are is_plain_byte bs) h).0 in
    rw (not_that b 13 refl b_is, same_lines (line_behind line b) (col_behind col b) bs (both (is_plain_byte b) (all_are is_plain_byte bs) h).1) refl

same_spliced : (line col : ℕ) (bs : List ℕ) → all_are is_plain_byte bs ≡ true → spliced false (placed line col bs) ≡ placed line col bs
same_spliced line col [] h = refl
same_spliced line col (b ∷ bs) h =
    let b_is = (both (is_plain_byte b) (all_are is_plain_byte bs) h).0 in
    rw (not_that b 92 refl b_is, same_spliced (line_behind line b) (col_behind col b) bs (both (is_plain_byte b) (all_are is_plain_byte bs) h).1) refl

no_order_mark : (bs : List ℕ) → all_are is_plain_byte bs ≡ true → without_order_mark bs ≡ bs
no_order_mark [] h = refl
no_order_mark (a ∷ []) h = refl
no_order_mark (a ∷ b ∷ []) h = refl
no_order_mark (a ∷ b ∷ c ∷ bs) h = rw (not_that a 239 refl (both (is_plain_byte a) (all_are is_plain_byte (b ∷ c ∷ bs)) h).0) refl

pub shown_plain : (bs : List ℕ) → all_are is_plain_byte bs ≡ true → shown bs ≡ placed 1 1 bs
shown_plain bs h = rw (no_order_mark bs h, same_lines 1 1 bs h) (same_spliced 1 1 bs h)

-- the words of pieces, with their marks
pub same_marks : (ps : List Piece) (spaced first : Bool) → map marked (tokens_of spaced first ps) ≡ marked_words spaced first (map bit_of ps)
same_marks [] spaced first = refl
same_marks (p ∷ ps) spaced first =
    map-append marked (token_in p.sort (bytes_in p) p.begin.place spaced first) (tokens_of (is_white p.sort) (first_behind p.sort first) ps)
    ∙ rw (same_marks ps (is_white p.sort) (first_behind p.sort first)) (go p.sort (marked_words (is_white p.sort) (first_behind p.sort first) (map bit_of ps)))
  where
    go : (sort : Sort) (rest : List Marked) → map marked (token_in sort (bytes_in p) p.begin.place spaced first) ++ rest ≡ marked_word sort (bytes_in p) spaced first ++ rest
    go (Lexeme kind) rest = refl
    go Blank rest = refl
    go LineEnd rest = refl
    go Comment rest = refl
    go Open rest = refl
    go Bad rest = refl

or_false : (t : Bool) → (t || false) ≡ true → t ≡ true
or_false true h = refl
or_false false h = h

between : (b : ℕ) → nat_le 32 b ≡ true → nat_le 33 b ≡ false → b ≡ 32
between b low high = grind (arith, nat_tests)

plain_not_bad : (b : ℕ) → is_plain_byte b ≡ true → is_bad b ≡ false
plain_not_bad b h = go (b == 10) refl (nat_le 33 b) refl h
  where
    go : (t : Bool) → (b == 10) ≡ t → (u : Bool) → nat_le 33 b ≡ u → ((is_within 32 126 b && not (b == 92)) || t) ≡ true → is_bad b ≡ false
    go true e u f h = ap is_bad (eqb-true b 10 e)
    go false e true f h = rw (f, (both (nat_le 32 b) (nat_le b 126) (both (is_within 32 126 b) (not (b == 92)) (or_false (is_within 32 126 b && not (b == 92)) h)).0).1) refl
    go false e false f h =
        let low = (both (nat_le 32 b) (nat_le b 126) (both (is_within 32 126 b) (not (b == 92)) (or_false (is_within 32 126 b && not (b == 92)) h)).0).0 in
        ap is_bad (between b low f)

none_bad : (cs : List Placed) → all_are is_plain_byte (bytes_of cs) ≡ true → bad_bytes cs ≡ []
none_bad [] h = refl
none_bad (c ∷ cs) h = rw (plain_not_bad c.byte (both (is_plain_byte c.byte) (all_are is_plain_byte (bytes_of cs)) h).0) (none_bad cs (both (is_plain_byte c.byte) (all_are is_plain_byte (bytes_of cs)) h).1)

no_faults_in : (sort : Sort) (p : Piece) → is_plain_sort sort ≡ true → all_are is_plain_byte (bytes_in p) ≡ true → other_faults_in sort p ≡ []
no_faults_in (Lexeme kind) p h k = none_bad (p.begin ∷ p.others) k
no_faults_in Blank p h k = none_bad (p.begin ∷ p.others) k
no_faults_in LineEnd p h k = none_bad (p.begin ∷ p.others) k
no_faults_in Comment p h k = absurd (cc)
no_faults_in Open p h k = absurd (cc)
no_faults_in Bad p h k = absurd (cc)

pub no_faults : (ps : List Piece) → all_plain (map bit_of ps) ≡ true → other_faults ps ≡ []
no_faults [] h = refl
no_faults (p ∷ ps) h =
    let first = (both (is_plain_bit (bit_of p)) (all_plain (map bit_of ps)) h).0 in
    let others = (both (is_plain_bit (bit_of p)) (all_plain (map bit_of ps)) h).1 in
    let parts = both (is_plain_sort p.sort) (all_are is_plain_byte (bytes_in p)) first in
    rw (no_faults_in p.sort p parts.0 parts.1) (no_faults ps others)

all_of_both : (xs ys : List ℕ) → all_are is_plain_byte xs ≡ true → all_are is_plain_byte ys ≡ true → all_are is_plain_byte (xs ++ ys) ≡ true
all_of_both [] ys h k = k
all_of_both (x ∷ xs) ys h k = rw ((both (is_plain_byte x) (all_are is_plain_byte xs) h).0) (all_of_both xs ys (both (is_plain_byte x) (all_are is_plain_byte xs) h).1 k)

plain_text : (bits : List Bit) → all_plain bits ≡ true → all_are is_plain_byte (bits_text bits []) ≡ true
plain_text [] h = refl
plain_text (b ∷ bs) h =
    let first = (both (is_plain_bit b) (all_plain bs) h).0 in
    let bytes = (both (is_plain_sort b.sort) (all_are is_plain_byte (bit_text b)) first).1 in
    let heads = both (is_plain_byte b.first) (all_are is_plain_byte b.others) bytes in
    rw heads.0 (all_of_both b.others (bits_text bs []) heads.1 (plain_text bs (both (is_plain_bit b) (all_plain bs) h).1))

-- a text that is made of words, each of which ends where the next one begins, has these words as its tokens
pub marks_again : (bits : List Bit) → CutsBack bits [] → all_plain bits ≡ true → (ts : List Token) × UnlimitedTokens (bits_text bits []) ts × (map marked ts ≡ marked_words false true bits)
unfolding UnlimitedTokens
marks_again bits cuts plain =
    let text : List ℕ = bits_text bits [] in
    let seen : shown text ≡ placed 1 1 text = shown_plain text (plain_text bits plain) in
    let cut = cut_back bits (placed 1 1 text) (bytes_placed 1 1 text) cuts in (
      tokens_of false true cut.0,
      (cut.0, rw seen cut.1, no_faults cut.0 (rw cut.2 plain), refl),
      same_marks cut.0 false true ∙ ap (marked_words false true) cut.2,
    )

-- marks taken off
words_marked : (bits : List Bit) (spaced first : Bool) → map (λ m. m.word) (marked_words spaced first bits) ≡ words_of bits
words_marked [] spaced first = refl
words_marked (b ∷ bs) spaced first =
    map-append (λ m. m.word) (marked_word b.sort (bit_text b) spaced first) (marked_words (is_white b.sort) (first_behind b.sort first) bs)
    ∙ rw (words_marked bs (is_white b.sort) (first_behind b.sort first)) (go b.sort)
  where
    go : (sort : Sort) → map (λ m. m.word) (marked_word sort (bit_text b) spaced first) ++ words_of bs ≡ word_of sort (bit_text b) ++ words_of bs
    go (Lexeme kind) = refl
    go Blank = refl
    go LineEnd = refl
    go Comment = refl
    go Open = refl
    go Bad = refl

said_marked : (ts : List Token) → map said ts ≡ map (λ m. m.word) (map marked ts)
said_marked [] = refl
said_marked (t ∷ ts) = ap (λ ws. said t ∷ ws) (said_marked ts)

pub said_of : (ts : List Token) (bits : List Bit) (spaced first : Bool) → map marked ts ≡ marked_words spaced first bits → map said ts ≡ words_of bits
said_of ts bits spaced first e = said_marked ts ∙ ap (map (λ m. m.word)) e ∙ words_marked bits spaced first

pub words_again : (bits : List Bit) → CutsBack bits [] → all_plain bits ≡ true → (ts : List Token) × UnlimitedTokens (bits_text bits []) ts × (map said ts ≡ words_of bits)
words_again bits cuts plain = let again = marks_again bits cuts plain in (again.0, again.1, said_of again.0 bits false true again.2)
