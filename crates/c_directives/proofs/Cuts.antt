-- A text is cut in the same way however many tokens it may have at most.
use Rattle.std.proofs.Common.{◌≡◌, ℕ, zero, suc, ◌≤◌, List, [], ◌∷◌, length, drop, refl, ap, arith}
use Rattle.std.proofs.lemmas.List.{length-drop}
use Rattle.c_text.specs.declared.tokens.Token.{Token}
use Rattle.c_directives.specs.Parts.{part_length, part_of, parts_most, parts_of}

pub most_same : (n m : ℕ) (ts : List Token) → length ts ≤ n → length ts ≤ m → parts_most n ts ≡ parts_most m ts
most_same zero zero [] h g = refl
most_same zero (suc m) [] h g = refl
most_same (suc n) zero [] h g = refl
most_same (suc n) (suc m) [] h g = refl
most_same zero m (t ∷ ts) h g = absurd (omega (arith, h))
most_same (suc n) zero (t ∷ ts) h g = absurd (omega (arith, g))
most_same (suc n) (suc m) (t ∷ ts) h g =
    let short = length-drop (part_length t ts) ts in
    ap (λ ps. part_of t ts ∷ ps) (most_same n m (drop (part_length t ts) ts) (omega (arith, h, short)) (omega (arith, g, short)))

-- the parts by the first
pub parts_first : (t : Token) (ts : List Token) → parts_of (t ∷ ts) ≡ part_of t ts ∷ parts_of (drop (part_length t ts) ts)
unfolding parts_of
parts_first t ts =
    ap (λ ps. part_of t ts ∷ ps)
    (most_same (length ts) (length (drop (part_length t ts) ts)) (drop (part_length t ts) ts) (omega (arith, length-drop (part_length t ts) ts)) (omega arith))
