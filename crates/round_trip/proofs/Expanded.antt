-- Directives and macros leave the tokens of a written unit as they are.
use Rattle.std.proofs.Common.{◌≡◌, ℕ, List, [], ◌∷◌, ◌++◌, length, map, Bool, true, false, Option, Some, None, refl, sym, ap, subst}
use Rattle.std.specs.Prelude.{not, ◌&&◌, ◌||◌, bytes_eq, codes}
use Rattle.std.specs.List.{list_any}
use Rattle.c_text.specs.declared.pieces.Sort.{Sort}
use Rattle.c_text.specs.declared.pieces.Sort.TheVariants.{Lexeme, Blank, LineEnd, Comment, Open, Bad}
use Rattle.c_text.specs.declared.tokens.Dialect.TheVariants.{Neon}
use Rattle.c_text.specs.declared.tokens.Token.{Token}
use Rattle.c_text.specs.declared.tokens.TokenKind.{TokenKind}
use Rattle.c_text.specs.declared.tokens.TokenKind.TheVariants as kinds
use Rattle.c_text.specs.PredefinedNames.{Macro, predefined_names}
use Rattle.c_text.specs.Tokens.{is_white, first_behind}
use Rattle.c_text.proofs.Scans.{both}
use Rattle.c_macros.specs.Arguments.{is_mark, is_name_kind}
use Rattle.c_macros.specs.Free.{AllFree}
use Rattle.c_directives.specs.Parts.{begins_directive}
use Rattle.c_directives.specs.Predefined.{predefined, predefined_in}
use Rattle.c_directives.specs.Printed.{NoDirective, PrintedText, line_ends}
use Rattle.round_trip.specs.Unlimited.{UnlimitedExpansion}
use Rattle.round_trip.specs.Words.{Bit, bit_text, word_of, words_of, said, Marked, marked, marked_word, marked_words, is_free_word, is_free_sort, is_plain_bit, is_written_bit, all_written}
use Rattle.round_trip.proofs.HeaderLines.{header_words, behind_lines}
use Rattle.round_trip.proofs.Whole.{said_of}

abbrev Word : Type 0
Word = TokenKind × List ℕ

abbrev all_free : List Word → Bool
all_free [] = true
all_free (w ∷ ws) = is_free_word w.0 w.1 && all_free ws

words_free : (bits : List Bit) → all_written bits ≡ true → all_free (words_of bits) ≡ true
words_free [] h = refl
words_free (b ∷ bs) h =
    let parts = both (is_written_bit b) (all_written bs) h in
    go b.sort (both (is_plain_bit b) (is_free_sort b.sort (bit_text b)) parts.0).1 (words_free bs parts.1)
  where
    go : (sort : Sort) → is_free_sort sort (bit_text b) ≡ true → all_free (words_of bs) ≡ true → all_free (word_of sort (bit_text b) ++ words_of bs) ≡ true
    go (Lexeme kind) free rest = rw free rest
    go Blank free rest = rest
    go LineEnd free rest = rest
    go Comment free rest = rest
    go Open free rest = rest
    go Bad free rest = rest

-- no `#`
is_not : (v : Bool) → not v ≡ true → v ≡ false
is_not true h = absurd (cc)
is_not false h = refl

no_hash : (kind : TokenKind) (t : Token) → t.kind ≡ kind → is_free_word kind t.text ≡ true → begins_directive t ≡ false
no_hash kind t is free = go t.first (is_mark (codes "#") t) (other kind t is free)
  where
    other : (kind : TokenKind) (t : Token) → t.kind ≡ kind → is_free_word kind t.text ≡ true → is_mark (codes "#") t ≡ false
    other kinds.Name t is free = rw is refl
    other kinds.Number t is free = rw is refl
    other kinds.Quote t is free = rw is refl
    other kinds.Str t is free = rw is refl
    other kinds.Mark t is free = rw (is, is_not (bytes_eq t.text (codes "#")) free) refl
    other kinds.Lone t is free = rw is refl

    go : (u v : Bool) → v ≡ false → (u && v) ≡ false
    go true v h = h
    go false v h = refl

-- no macro
no_macro_in : (ms : List Macro) (x : List ℕ) → list_any (λ m. bytes_eq x m.name) ms ≡ false → predefined_in ms x ≡ None
no_macro_in [] x h = refl
no_macro_in (m ∷ ms) x h = go (bytes_eq x m.name) refl (λ k. no_macro_in ms x k) h
  where
    go : (v : Bool) → bytes_eq x m.name ≡ v → (list_any (λ m. bytes_eq x m.name) ms ≡ false → predefined_in ms x ≡ None) → (v || list_any (λ m. bytes_eq x m.name) ms) ≡ false →
        predefined_in (m ∷ ms) x ≡ None
    go true e rest h = absurd (cc)
    go false e rest h = rw e (rest h)

no_macro : (kind : TokenKind) (x : List ℕ) → is_free_word kind x ≡ true → is_name_kind kind ≡ true → predefined Neon x ≡ None
unfolding predefined
no_macro kinds.Name x free named = no_macro_in (predefined_names Neon) x (is_not (list_any (λ m. bytes_eq x m.name) (predefined_names Neon)) free)
no_macro kinds.Number x free named = absurd (cc)
no_macro kinds.Quote x free named = absurd (cc)
no_macro kinds.Str x free named = absurd (cc)
no_macro kinds.Mark x free named = absurd (cc)
no_macro kinds.Lone x free named = absurd (cc)

no_directives : (ts : List Token) → all_free (map said ts) ≡ true → NoDirective ts
no_directives [] h = tt
no_directives (t ∷ ts) h = let parts = both (is_free_word t.kind t.text) (all_free (map said ts)) h in (no_hash t.kind t refl parts.0, no_directives ts parts.1)

no_macros : (ts : List Token) → all_free (map said ts) ≡ true → AllFree (predefined Neon) ts
no_macros [] h = tt
no_macros (t ∷ ts) h = let parts = both (is_free_word t.kind t.text) (all_free (map said ts)) h in (no_macro t.kind t.text parts.0, no_macros ts parts.1)

-- the first token behind a line's end begins a line
abbrev first_mark : Marked → List Marked → Marked
first_mark m [] = m
first_mark m (n ∷ ns) = n

begins : (ts : List Token) (bits : List Bit) (spaced : Bool) → map marked ts ≡ marked_words spaced true bits → line_ends ts ≡ true
begins [] bits spaced e = refl
begins (t ∷ ts) [] spaced e = absurd (cc)
begins (t ∷ ts) (b ∷ bs) spaced e = go b.sort (λ s. begins (t ∷ ts) bs s) e
  where
    go : (sort : Sort) → ((s : Bool) → map marked (t ∷ ts) ≡ marked_words s true bs → line_ends (t ∷ ts) ≡ true) →
        map marked (t ∷ ts) ≡ marked_word sort (bit_text b) spaced true ++ marked_words (is_white sort) (first_behind sort true) bs → line_ends (t ∷ ts) ≡ true
    go (Lexeme kind) later e = ap (λ m. m.first) (ap (first_mark (marked t)) e)
    go Blank later e = later true e
    go LineEnd later e = later true e
    go Comment later e = later true e
    go Open later e = later false e
    go Bad later e = later false e

-- the tokens of written words behind the lines that include headers
pub expanded : PrintedText → (front ts : List Token) (bits : List Bit) → map marked front ≡ header_words → map marked ts ≡ marked_words true true bits → all_written bits ≡ true → UnlimitedExpansion (front ++ ts) ts
expanded law front ts bits are is written work most within =
    let free : all_free (map said ts) ≡ true = subst (λ ws. all_free ws ≡ true) (sym (said_of ts bits true true is)) (words_free bits written) in
    law (record { work = work; tokens = most; dialect = Neon }) (front ++ ts) ts (behind_lines front ts are (begins ts bits true is)) (no_directives ts free) (no_macros ts free) within
