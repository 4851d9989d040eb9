-- Where words end.
use Rattle.std.proofs.Common.{◌≡◌, ℕ, suc, ◌+◌, List, [], ◌∷◌, ◌++◌, length, None, Bool, true, false, cond, refl, ◌∙◌, ap, arith, add-zero}
use Rattle.std.specs.Prelude.{not, ◌&&◌, ◌||◌, ◌==◌, codes}
use Rattle.c_text.specs.declared.tokens.TokenKind.TheVariants.{Name, Number, Quote, Str, Mark, Lone}
use Rattle.c_text.specs.declared.pieces.Sort.TheVariants.{Lexeme, Blank, LineEnd}
use Rattle.c_text.specs.Forms.{is_one_of, all_are, starts, is_digit, is_letter, is_name_byte, goes_on, all_go_on, begins_number, is_wide, is_mark_byte, is_mark_pair, is_mark_triple}
use Rattle.c_text.specs.Reading.{run, number_run, partner, quoted, utf8_quoted, only_if, or_piece, one_more, letter_at, mark_more, slash_at, single_of, piece_at}
use Rattle.std.proofs.lemmas.Bool.{eqb-true}
use Rattle.c_text.proofs.Scans.{out, both}
use Rattle.c_text.proofs.Shapes.{mark_no_letter, mark_no_digit, letter_no_digit}
use Rattle.round_trip.specs.Words.{last_of, goes_on_name, ends_name, ends_number, goes_on_mark, ends_mark, ends_pair}

pub space_at : (rest : List ℕ) → piece_at 32 rest ≡ (Blank, 0)
unfolding piece_at
space_at rest = refl

pub line_end_at : (rest : List ℕ) → piece_at 10 rest ≡ (LineEnd, 0)
unfolding piece_at
line_end_at rest = refl

either : (s t : Bool) → (s || t) ≡ false → (s ≡ false) × (t ≡ false)
either true t h = absurd (cc)
either false t h = (refl, h)

not_true : (t : Bool) → not t ≡ true → t ≡ false
not_true true h = absurd (cc)
not_true false h = refl

-- a run goes over these bytes and ends behind them
run_over : (p : ℕ → Bool) (bs rest : List ℕ) (n : ℕ) → all_are p bs ≡ true → starts p rest ≡ false → run p n (bs ++ rest) ≡ length bs + n
run_over p [] [] n h k = omega arith
run_over p [] (c ∷ rest) n h k = rw k (omega arith)
run_over p (b ∷ bs) rest n h k = rw (both (p b) (all_are p bs) h).0 (run_over p bs rest (suc n) (both (p b) (all_are p bs) h).1 k ∙ omega arith)

no_name_byte : (rest : List ℕ) → ends_name rest ≡ true → starts is_name_byte rest ≡ false
no_name_byte [] h = refl
no_name_byte (c ∷ rest) h = (either (is_name_byte c) _ (not_true (goes_on_name c) h)).0

-- none of these bytes, and none behind them, is that quote first
no_quote : (quote : ℕ) (bs rest : List ℕ) → is_name_byte quote ≡ false → all_are is_name_byte bs ≡ true → starts (λ c. c == quote) rest ≡ false → quoted quote (bs ++ rest) ≡ None
no_quote quote [] [] q h k = refl
no_quote quote [] (c ∷ rest) q h k = rw k refl
no_quote quote (b ∷ bs) rest q h k = go (b == quote) refl
  where
    go : (t : Bool) → (b == quote) ≡ t → cond t (one_more (partner quote false 0 (bs ++ rest))) None ≡ None
    go true e = out (is_name_byte b) (ap is_name_byte (eqb-true b quote e) ∙ q) (both (is_name_byte b) (all_are is_name_byte bs) h).0
    go false e = refl

starts_single : (rest : List ℕ) → ends_name rest ≡ true → starts (λ c. c == 39) rest ≡ false
starts_single [] h = refl
starts_single (c ∷ rest) h = (either (c == 39) (c == 34) (either (is_name_byte c) _ (not_true (goes_on_name c) h)).1).0

starts_double : (rest : List ℕ) → ends_name rest ≡ true → starts (λ c. c == 34) rest ≡ false
starts_double [] h = refl
starts_double (c ∷ rest) h = (either (c == 39) (c == 34) (either (is_name_byte c) _ (not_true (goes_on_name c) h)).1).1

no_utf8 : (bs rest : List ℕ) → all_are is_name_byte bs ≡ true → ends_name rest ≡ true → utf8_quoted (bs ++ rest) ≡ None
no_utf8 [] [] h k = refl
no_utf8 [] (c ∷ rest) h k = go (c == 56) refl
  where
    go : (t : Bool) → (c == 56) ≡ t → cond t (one_more (quoted 34 rest)) None ≡ None
    go true e = out (is_name_byte c) (no_name_byte (c ∷ rest) k) (ap is_name_byte (eqb-true c 56 e))
    go false e = refl
no_utf8 (b ∷ bs) rest h k = go (b == 56)
  where
    go : (t : Bool) → cond t (one_more (quoted 34 (bs ++ rest))) None ≡ None
    go true = ap one_more (no_quote 34 bs rest refl (both (is_name_byte b) (all_are is_name_byte bs) h).1 (starts_double rest k))
    go false = refl

only_none : (t : Bool) → only_if t None ≡ None
only_none true = refl
only_none false = refl

pub name_at : (b : ℕ) (bs rest : List ℕ) → is_letter b ≡ true → all_are is_name_byte bs ≡ true → ends_name rest ≡ true → piece_at b (bs ++ rest) ≡ (Lexeme Name, length bs)
unfolding piece_at
name_at b bs rest letter named ends =
    rw (
      letter,
      no_quote 39 bs rest refl named (starts_single rest ends),
      no_quote 34 bs rest refl named (starts_double rest ends),
      no_utf8 bs rest named ends,
      only_none (is_wide b),
      only_none (b == 117),
      run_over is_name_byte bs rest 0 named (no_name_byte rest ends),
      add-zero (length bs),
    ) refl

number_over : (b : ℕ) (bs rest : List ℕ) (n : ℕ) → all_go_on b bs ≡ true → ends_number (last_of b bs) rest ≡ true → number_run b n (bs ++ rest) ≡ length bs + n
number_over b [] [] n h k = omega arith
number_over b [] (c ∷ rest) n h k = rw (not_true (goes_on b c) k) (omega arith)
number_over b (c ∷ bs) rest n h k = rw (both (goes_on b c) (all_go_on c bs) h).0 (number_over c bs rest (suc n) (both (goes_on b c) (all_go_on c bs) h).1 k ∙ omega arith)

digit_no_letter : (b : ℕ) → is_digit b ≡ true → is_letter b ≡ false
digit_no_letter b h = go (is_letter b) refl
  where
    go : (t : Bool) → is_letter b ≡ t → t ≡ false
    go true e = out (is_digit b) (letter_no_digit b e) h
    go false e = refl

-- a number that begins with a digit
pub number_at : (b : ℕ) (bs rest : List ℕ) → is_digit b ≡ true → all_go_on b bs ≡ true → ends_number (last_of b bs) rest ≡ true → piece_at b (bs ++ rest) ≡ (Lexeme Number, length bs)
unfolding piece_at
number_at b bs rest digit on ends = rw (digit_no_letter b digit, digit, number_over b bs rest 0 on ends, add-zero (length bs)) refl

and_false : (t : Bool) → (t && false) ≡ false
and_false true = refl
and_false false = refl

triple_false : (t u v w x : Bool) → (t && (u || v)) ≡ false → (t && ((u && w) || (v && x))) ≡ false
triple_false true true v w x h = absurd (cc)
triple_false true false true w x h = absurd (cc)
triple_false true false false w x h = refl
triple_false false u v w x h = refl

no_triple : (a c d : ℕ) → ((a == c) && is_one_of (codes ".<>") a) ≡ false → is_mark_triple a c d ≡ false
no_triple a c d h = triple_false (a == c) (a == 46) (is_one_of (codes "<>") a) (d == 46) (d == 61) h

-- what a mark of one byte is in front of a rest
one_mark : (a c : ℕ) (rest : List ℕ) → goes_on_mark a c ≡ false → mark_more a (c ∷ rest) ≡ 0
one_mark a c [] h = rw (either (is_mark_pair a c) _ h).0 refl
one_mark a c (d ∷ rest) h = rw (no_triple a c d (either ((a == c) && is_one_of (codes ".<>") a) _ (either (is_mark_pair a c) _ h).1).0, (either (is_mark_pair a c) _ h).0) refl

no_number : (a : ℕ) (rest : List ℕ) → is_mark_byte a ≡ true → ends_mark a rest ≡ true → begins_number a rest ≡ false
no_number a [] mark ends = rw (mark_no_digit a mark) (and_false (a == 46))
no_number a (c ∷ rest) mark ends = rw (mark_no_digit a mark) (either ((a == 47) && ((c == 42) || (c == 47))) _ (either ((a == c) && is_one_of (codes ".<>") a) _ (either (is_mark_pair a c) _ (not_true (goes_on_mark a c) ends)).1).1).1

slash_mark : (rest : List ℕ) → ends_mark 47 rest ≡ true → slash_at rest ≡ (Lexeme Mark, 0)
slash_mark [] h = refl
slash_mark (c ∷ rest) h =
    let not_on : goes_on_mark 47 c ≡ false = not_true (goes_on_mark 47 c) h in
    let star_or_slash : ((c == 42) || (c == 47)) ≡ false = (either ((c == 42) || (c == 47)) _ (either ((47 == c) && is_one_of (codes ".<>") 47) _ (either (is_mark_pair 47 c) _ not_on).1).1).0 in
    rw ((either (c == 42) (c == 47) star_or_slash).0, (either (c == 42) (c == 47) star_or_slash).1, one_mark 47 c rest not_on) refl

alone_more : (a : ℕ) (rest : List ℕ) → ends_mark a rest ≡ true → mark_more a rest ≡ 0
alone_more a [] h = refl
alone_more a (c ∷ rest) h = one_mark a c rest (not_true (goes_on_mark a c) h)

-- a mark of one byte
pub mark_at : (a : ℕ) (rest : List ℕ) → is_mark_byte a ≡ true → ends_mark a rest ≡ true → piece_at a rest ≡ (Lexeme Mark, 0)
unfolding piece_at
mark_at a rest mark ends = go (is_letter a) (mark_no_letter a mark) (begins_number a rest) (no_number a rest mark ends) (a == 39) refl (a == 34) refl (a == 47) refl
  where
    go : (l : Bool) → l ≡ false → (n : Bool) → n ≡ false → (t : Bool) → (a == 39) ≡ t → (u : Bool) → (a == 34) ≡ u → (v : Bool) → (a == 47) ≡ v →
        cond l (letter_at a rest) (cond n (Lexeme Number, number_run a 0 rest)
        (cond t (or_piece (partner 39 false 0 rest) (Lexeme Quote) (Lexeme Lone, 0)) (cond u (or_piece (partner 34 false 0 rest) (Lexeme Str) (Lexeme Lone, 0))
        (cond v (slash_at rest) (cond (is_mark_byte a) (Lexeme Mark, mark_more a rest) (single_of a, 0)))))) ≡ (Lexeme Mark, 0)
    go true p n q t h u i v j = absurd (cc)
    go false p true q t h u i v j = absurd (cc)
    go false p false q true h u i v j = out (is_mark_byte a) (ap is_mark_byte (eqb-true a 39 h)) mark
    go false p false q false h true i v j = out (is_mark_byte a) (ap is_mark_byte (eqb-true a 34 i)) mark
    go false p false q false h false i true j = slash_mark rest (rw (← eqb-true a 47 j) ends)
    go false p false q false h false i false j = rw (mark, alone_more a rest ends) refl

-- what a mark of two bytes has behind its first in front of a rest
pair_more : (a b : ℕ) (rest : List ℕ) → is_mark_pair a b ≡ true → ends_pair a b rest ≡ true → mark_more a (b ∷ rest) ≡ 1
pair_more a b [] pair ends = rw pair refl
pair_more a b (c ∷ rest) pair ends = rw (not_true (is_mark_triple a b c) ends, pair) refl

-- A mark of two bytes. None of these begins with a `.` or a `/` that a number or a comment begins with, but `/=`.
pub pair_at : (a b : ℕ) (rest : List ℕ) → is_mark_byte a ≡ true → is_mark_pair a b ≡ true → (a == 46) ≡ false → (a == 47) ≡ false → ends_pair a b rest ≡ true → piece_at a (b ∷ rest) ≡ (Lexeme Mark, 1)
unfolding piece_at
pair_at a b rest mark pair dot slash ends = go (is_letter a) (mark_no_letter a mark) (begins_number a (b ∷ rest)) (rw (mark_no_digit a mark, dot) refl) (a == 39) refl (a == 34) refl (a == 47) slash
  where
    go : (l : Bool) → l ≡ false → (n : Bool) → n ≡ false → (t : Bool) → (a == 39) ≡ t → (u : Bool) → (a == 34) ≡ u → (v : Bool) → v ≡ false →
        cond l (letter_at a (b ∷ rest)) (cond n (Lexeme Number, number_run a 0 (b ∷ rest))
        (cond t (or_piece (partner 39 false 0 (b ∷ rest)) (Lexeme Quote) (Lexeme Lone, 0)) (cond u (or_piece (partner 34 false 0 (b ∷ rest)) (Lexeme Str) (Lexeme Lone, 0))
        (cond v (slash_at (b ∷ rest)) (cond (is_mark_byte a) (Lexeme Mark, mark_more a (b ∷ rest)) (single_of a, 0)))))) ≡ (Lexeme Mark, 1)
    go true p n q t h u i v j = absurd (cc)
    go false p true q t h u i v j = absurd (cc)
    go false p false q true h u i v j = out (is_mark_byte a) (ap is_mark_byte (eqb-true a 39 h)) mark
    go false p false q false h true i v j = out (is_mark_byte a) (ap is_mark_byte (eqb-true a 34 i)) mark
    go false p false q false h false i true j = absurd (cc)
    go false p false q false h false i false j = rw (mark, pair_more a b rest pair ends) refl

pub over_at : (rest : List ℕ) → piece_at 47 (61 ∷ rest) ≡ (Lexeme Mark, 1)
unfolding piece_at
over_at [] = refl
over_at (c ∷ rest) = refl

-- a shift with an assignment
pub shift_at : (a : ℕ) (rest : List ℕ) → is_mark_byte a ≡ true → is_mark_triple a a 61 ≡ true → (a == 46) ≡ false → (a == 47) ≡ false → piece_at a (a ∷ 61 ∷ rest) ≡ (Lexeme Mark, 2)
unfolding piece_at
shift_at a rest mark triple dot slash = go (is_letter a) (mark_no_letter a mark) (begins_number a (a ∷ 61 ∷ rest)) (rw (mark_no_digit a mark, dot) refl) (a == 39) refl (a == 34) refl (a == 47) slash
  where
    go : (l : Bool) → l ≡ false → (n : Bool) → n ≡ false → (t : Bool) → (a == 39) ≡ t → (u : Bool) → (a == 34) ≡ u → (v : Bool) → v ≡ false →
        cond l (letter_at a (a ∷ 61 ∷ rest)) (cond n (Lexeme Number, number_run a 0 (a ∷ 61 ∷ rest))
        (cond t (or_piece (partner 39 false 0 (a ∷ 61 ∷ rest)) (Lexeme Quote) (Lexeme Lone, 0)) (cond u (or_piece (partner 34 false 0 (a ∷ 61 ∷ rest)) (Lexeme Str) (Lexeme Lone, 0))
        (cond v (slash_at (a ∷ 61 ∷ rest)) (cond (is_mark_byte a) (Lexeme Mark, mark_more a (a ∷ 61 ∷ rest)) (single_of a, 0)))))) ≡ (Lexeme Mark, 2)
    go true p n q t h u i v j = absurd (cc)
    go false p true q t h u i v j = absurd (cc)
    go false p false q true h u i v j = out (is_mark_byte a) (ap is_mark_byte (eqb-true a 39 h)) mark
    go false p false q false h true i v j = out (is_mark_byte a) (ap is_mark_byte (eqb-true a 34 i)) mark
    go false p false q false h false i true j = absurd (cc)
    go false p false q false h false i false j = rw (mark, triple) refl
