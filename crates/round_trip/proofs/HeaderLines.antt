-- The lines that a written unit begins with include headers of the Neon dialect.
use Rattle.std.proofs.Common.{◌≡◌, ℕ, List, [], ◌∷◌, ◌++◌, map, drop, Bool, true, false, Some, refl, sym, ◌∙◌, ap, subst}
use Rattle.std.specs.Prelude.{bytes_eq, codes}
use Rattle.std.specs.List.{list_any}
use Rattle.std.proofs.lemmas.List.{append_assoc}
use Rattle.c_text.specs.declared.tokens.Dialect.TheVariants.{Neon}
use Rattle.c_text.specs.declared.tokens.Place.{Place}
use Rattle.c_text.specs.declared.tokens.Token.{Token}
use Rattle.c_text.specs.declared.tokens.TokenKind.{TokenKind}
use Rattle.c_text.specs.declared.tokens.TokenKind.TheVariants.{Name, Mark}
use Rattle.c_directives.specs.Headers.{headers, header}
use Rattle.c_directives.specs.Printed.{IsInclude, Behind, NoLine, OneLine, line_ends}
use Rattle.c_directives.specs.Words.{word_of}
use Rattle.round_trip.specs.Words.{Marked, marked}

abbrev word : TokenKind → List ℕ → Bool → Bool → Marked
word kind text spaced first = record { word = (kind, text); spaced = spaced; first = first }

-- a header's name, `<NAME.h>`
abbrev header_name : List ℕ → List Marked
header_name name =
    word Mark (codes "<") true false ∷ word Name name false false ∷ word Mark (codes ".") false false ∷ word Name (codes "h") false false ∷ word Mark (codes ">") false false ∷ []

-- the line that includes it; the truth value says whether a line stands before it
abbrev include_line : Bool → List ℕ → List Marked
include_line behind name = word Mark (codes "#") behind true ∷ word Name (codes "include") false false ∷ header_name name

abbrev pub header_words : List Marked
header_words = include_line false (codes "arm_neon") ++ (include_line true (codes "stddef") ++ include_line true (codes "stdint"))

-- tokens are their words at their places
abbrev first_place : List Place → Place
first_place [] = record { line = 1; col = 1 }
first_place (p ∷ ps) = p

abbrev other_places : List Place → List Place
other_places [] = []
other_places (p ∷ ps) = ps

abbrev placed_word : Marked → Place → Token
placed_word m p = record { kind = m.word.0; text = m.word.1; place = p; spaced = m.spaced; first = m.first }

abbrev placed_words : List Marked → List Place → List Token
placed_words [] ps = []
placed_words (m ∷ ms) ps = placed_word m (first_place ps) ∷ placed_words ms (other_places ps)

abbrev places : List Token → List Place
places ts = map (λ t. t.place) ts

as_words : (ts : List Token) → ts ≡ placed_words (map marked ts) (places ts)
as_words [] = refl
as_words (t ∷ ts) = ap (λ us. t ∷ us) (as_words ts)

abbrev first_mark : Marked → List Marked → Marked
first_mark w [] = w
first_mark w (v ∷ ws) = v

pub split_marks : (front back : List Marked) (ts : List Token) → map marked ts ≡ front ++ back → (us : List Token) × (vs : List Token) × (ts ≡ us ++ vs) × (map marked us ≡ front) × (map marked vs ≡ back)
split_marks [] back ts e = ([], ts, refl, refl, e)
split_marks (w ∷ front) back [] e = absurd (cc)
split_marks (w ∷ front) back (t ∷ ts) e = go (ap (first_mark w) e) (split_marks front back ts (ap (drop 1) e))
  where
    go : marked t ≡ w → (us : List Token) × (vs : List Token) × (ts ≡ us ++ vs) × (map marked us ≡ front) × (map marked vs ≡ back) → (us : List Token) × (vs : List Token) × (t ∷ ts ≡ us ++ vs) × (map marked us ≡ w ∷ front) × (map marked vs ≡ back)
    go first (us, vs, is, a, b) = (t ∷ us, vs, ap (λ r. t ∷ r) is, rw (first, a) refl, b)

-- a line in front of others
record IsHeader (name : List ℕ) : Type 0 where
  shown : List ℕ
  names : (ps : List Place) → header (placed_words (header_name name) ps) ≡ Some shown
  known : list_any (bytes_eq shown) (headers Neon) ≡ true

include_is : (behind : Bool) (name : List ℕ) (p q : Place) (ps : List Place) → IsHeader name →
    IsInclude Neon (placed_word (word Mark (codes "#") behind true) p) (placed_word (word Name (codes "include") false false) q) (placed_words (header_name name) ps)
unfolding word_of
include_is behind name p q ps h =
    record { begins = refl; inside = (refl, (refl, (refl, (refl, (refl, (refl, tt)))))); says = refl; name = h.shown; names = h.names ps; known = h.known }

lined : (behind : Bool) (name : List ℕ) (us rest ts : List Token) → IsHeader name → map marked us ≡ include_line behind name → line_ends rest ≡ true → Behind Neon rest ts → Behind Neon (us ++ rest) ts
lined behind name us rest ts h is ends more =
    let ps : List Place = places us in
    let qs : List Place = other_places ps in
    subst (λ l. Behind Neon (l ++ rest) ts) (sym (as_words us ∙ ap (λ ms. placed_words ms ps) is))
    (OneLine (placed_word (word Mark (codes "#") behind true) (first_place ps)) (placed_word (word Name (codes "include") false false) (first_place qs)) (placed_words (header_name name) (other_places qs)) rest ts
    (include_is behind name (first_place ps) (first_place qs) (other_places qs) h) ends more)

begins_line : (behind : Bool) (name : List ℕ) (us rest : List Token) → map marked us ≡ include_line behind name → line_ends (us ++ rest) ≡ true
begins_line behind name us rest is = subst (λ l. line_ends (l ++ rest) ≡ true) (sym (as_words us ∙ ap (λ ms. placed_words ms (places us)) is)) refl

three_lines : (us vs ws ts : List Token) → map marked us ≡ include_line false (codes "arm_neon") → map marked vs ≡ include_line true (codes "stddef") → map marked ws ≡ include_line true (codes "stdint") →
    line_ends ts ≡ true → Behind Neon (us ++ (vs ++ (ws ++ ts))) ts
three_lines us vs ws ts a b c ends =
    lined false (codes "arm_neon") us (vs ++ (ws ++ ts)) ts (record { shown = codes "<arm_neon.h>"; names = λ ps. refl; known = refl }) a (begins_line true (codes "stddef") vs (ws ++ ts) b)
    (lined true (codes "stddef") vs (ws ++ ts) ts (record { shown = codes "<stddef.h>"; names = λ ps. refl; known = refl }) b (begins_line true (codes "stdint") ws ts c)
    (lined true (codes "stdint") ws ts ts (record { shown = codes "<stdint.h>"; names = λ ps. refl; known = refl }) c ends (NoLine ts)))

-- these lines, and then tokens that begin a line
pub behind_lines : (front ts : List Token) → map marked front ≡ header_words → line_ends ts ≡ true → Behind Neon (front ++ ts) ts
behind_lines front ts are ends = go (split_marks (include_line false (codes "arm_neon")) (include_line true (codes "stddef") ++ include_line true (codes "stdint")) front are)
  where
    last : (us others : List Token) → front ≡ us ++ others → map marked us ≡ include_line false (codes "arm_neon") →
        (vs : List Token) × (ws : List Token) × (others ≡ vs ++ ws) × (map marked vs ≡ include_line true (codes "stddef")) × (map marked ws ≡ include_line true (codes "stdint")) → Behind Neon (front ++ ts) ts
    last us others is a (vs, ws, split, b, c) =
        let whole : front ++ ts ≡ us ++ (vs ++ (ws ++ ts)) =
        ap (λ l. l ++ ts) is ∙ append_assoc us others ts ∙ ap (λ l. us ++ (l ++ ts)) split ∙ ap (λ l. us ++ l) (append_assoc vs ws ts) in
        subst (λ l. Behind Neon l ts) (sym whole) (three_lines us vs ws ts a b c ends)

    go : (us : List Token) × (others : List Token) × (front ≡ us ++ others) × (map marked us ≡ include_line false (codes "arm_neon")) × (map marked others ≡ include_line true (codes "stddef") ++ include_line true (codes "stdint")) →
        Behind Neon (front ++ ts) ts
    go (us, others, is, a, b) = last us others is a (split_marks (include_line true (codes "stddef")) (include_line true (codes "stdint")) others b)
