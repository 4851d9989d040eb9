-- A text that is made of words is cut back into them.
use Rattle.std.proofs.Common.{◌≡◌, ℕ, zero, suc, ◌≤◌, List, [], ◌∷◌, ◌++◌, length, take, drop, map, Some, refl, sym, ◌∙◌, ap, arith}
use Rattle.c_text.specs.declared.source.Placed.{Placed}
use Rattle.c_text.specs.declared.pieces.Sort.{Sort}
use Rattle.c_text.specs.Source.{bytes_of}
use Rattle.c_text.specs.Forms.{form_of}
use Rattle.c_text.specs.Tokens.{Piece, IsLongest, Cut}
use Rattle.c_text.proofs.Longest.{piece_is}
use Rattle.c_text.specs.Reading.{piece_at, piece_of}
use Rattle.c_text.proofs.Steps.{bytes_of-take, bytes_of-drop}
use Rattle.round_trip.specs.Words.{Bit, bits_text, CutsBack}

-- what a piece is, without its place
abbrev pub bit_of : Piece → Bit
bit_of p = record { sort = p.sort; first = p.begin.byte; others = bytes_of p.others }

take_all : (xs ys : List ℕ) → take (length xs) (xs ++ ys) ≡ xs
take_all [] ys = refl
take_all (x ∷ xs) ys = ap (λ r. x ∷ r) (take_all xs ys)

drop_all : (xs ys : List ℕ) → drop (length xs) (xs ++ ys) ≡ ys
drop_all [] ys = refl
drop_all (x ∷ xs) ys = drop_all xs ys

parts : (n : ℕ) (cs : List Placed) → cs ≡ take n cs ++ drop n cs
parts zero cs = refl
parts (suc n) [] = refl
parts (suc n) (c ∷ cs) = ap (λ r. c ∷ r) (parts n cs)

-- no form is longer than the word that stands first
first_longest : (b n : ℕ) (bs : List ℕ) (sort : Sort) → piece_at b bs ≡ (sort, n) → IsLongest (suc n) (b ∷ bs)
first_longest b n bs sort at [] rest s e f = omega arith
first_longest b n bs sort at (x ∷ p) rest s e f =
    let begins : x ≡ b = cc in
    let behind : bs ≡ p ++ rest = cc in
    let less : length p ≤ (piece_at b bs).1 = (piece_is b bs).1 p rest s behind (rw (← begins) f) in
    let same : (piece_at b bs).1 ≡ n = ap (λ x. x.1) at in
    omega (arith, less, same)

first_form : (b : ℕ) (others bs : List ℕ) (sort : Sort) → piece_at b (others ++ bs) ≡ (sort, length others) → form_of (b ∷ others) ≡ Some sort
first_form b others bs sort at =
    ap (λ n. form_of (b ∷ n)) (sym (take_all others bs)) ∙ ap (λ n. form_of (b ∷ take n (others ++ bs))) (sym (ap (λ x. x.1) at)) ∙ (piece_is b (others ++ bs)).0 ∙ ap (λ x. Some x.0) at

pub cut_back : (bits : List Bit) (cs : List Placed) → bytes_of cs ≡ bits_text bits [] → CutsBack bits [] → (ps : List Piece) × Cut cs ps × (map bit_of ps ≡ bits)
unfolding Cut
cut_back [] [] e h = ([], refl, refl)
cut_back [] (c ∷ cs) e h = absurd (cc)
cut_back (b ∷ bs) [] e h = absurd (cc)
cut_back (b ∷ bs) (c ∷ cs) e (is, others) =
    let begins : c.byte ≡ b.first = cc in
    let behind : bytes_of cs ≡ b.others ++ bits_text bs [] = cc in
    let after : bytes_of (drop (length b.others) cs) ≡ bits_text bs [] = bytes_of-drop (length b.others) cs ∙ rw behind (drop_all b.others (bits_text bs [])) in
    let front : bytes_of (take (length b.others) cs) ≡ b.others = bytes_of-take (length b.others) cs ∙ rw behind (take_all b.others (bits_text bs [])) in
    let next = cut_back bs (drop (length b.others) cs) after others in (
      piece_of b.sort c (take (length b.others) cs) ∷ next.0,
      (
        drop (length b.others) cs,
        ap (λ r. c ∷ r) (parts (length b.others) cs),
        rw (begins, front) (first_form b.first b.others (bits_text bs []) b.sort is),
        rw (front, begins, behind) (first_longest b.first (length b.others) (b.others ++ bits_text bs []) b.sort is),
        next.1,
      ),
      rw (front, next.2, begins) refl,
    )

pub text_append : (xs ys : List Bit) (rest : List ℕ) → bits_text (xs ++ ys) rest ≡ bits_text xs (bits_text ys rest)
text_append [] ys rest = refl
text_append (x ∷ xs) ys rest = ap (λ t. x.first ∷ (x.others ++ t)) (text_append xs ys rest)

pub cuts_append : (xs ys : List Bit) (rest : List ℕ) → CutsBack xs (bits_text ys rest) → CutsBack ys rest → CutsBack (xs ++ ys) rest
cuts_append [] ys rest h k = k
cuts_append (x ∷ xs) ys rest (is, h) k = (rw (text_append xs ys rest) is, cuts_append xs ys rest h k)
