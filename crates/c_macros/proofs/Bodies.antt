-- Bodies with their arguments put in, token by token.
use Rattle.std.proofs.Common.{◌≡◌, ◌∙◌, ℕ, ◌+◌, ◌<◌, ◌≤◌, List, ◌∷◌, ◌++◌, length, get_or, drop, ap, sym, append_assoc, length-append}
use Rattle.std.proofs.lemmas.List.{append-nil, drop_more}
use Rattle.std.proofs.Math.ListN.{drop_of_length-le}
use Rattle.c_text.specs.declared.tokens.Token.{Token}
use Rattle.c_text.specs.declared.tokens.Place.{Place}
use Rattle.c_macros.specs.declared.macros.Piece.{Piece}
use Rattle.c_macros.specs.Expansion.{put, filled}

-- one more token of a body
pub filled-more : (place : Place) (args : List (List Token)) (body : List Piece) (i : ℕ) (p : Piece) → i < length body → p ≡ get_or body i p →
    filled place args (drop i body) ≡ put place args p.token p.parameter ++ filled place args (drop (i + 1) body)
filled-more place args body i p h e = ap (filled place args) (drop_more body i p h ∙ ap (λ x. x ∷ drop (i + 1) body) (sym e))

pub fill_more : (place : Place) (args : List (List Token)) (body : List Piece) (i : ℕ) (p : Piece) (whole out : List Token) → i < length body → p ≡ get_or body i p →
    whole ≡ out ++ filled place args (drop i body) → whole ≡ (out ++ put place args p.token p.parameter) ++ filled place args (drop (i + 1) body)
fill_more place args body i p whole out h e f =
    f ∙ ap (λ x. out ++ x) (filled-more place args body i p h e) ∙ sym (append_assoc out (put place args p.token p.parameter) (filled place args (drop (i + 1) body)))

pub fill_all : (place : Place) (args : List (List Token)) (body : List Piece) (i : ℕ) (whole out : List Token) → length body ≤ i →
    whole ≡ out ++ filled place args (drop i body) → out ≡ whole
fill_all place args body i whole out h f =
    sym (f ∙ ap (λ x. out ++ filled place args x) (drop_of_length-le body h) ∙ append-nil out)

-- its length
pub length_more : (place : Place) (args : List (List Token)) (body : List Piece) (i : ℕ) (p : Piece) → i < length body → p ≡ get_or body i p →
    length (filled place args (drop i body)) ≡ length (put place args p.token p.parameter) + length (filled place args (drop (i + 1) body))
length_more place args body i p h e =
    ap length (filled-more place args body i p h e) ∙ length-append (put place args p.token p.parameter) (filled place args (drop (i + 1) body))

pub length_all : (place : Place) (args : List (List Token)) (body : List Piece) (i : ℕ) → length body ≤ i → length (filled place args (drop i body)) ≡ 0
length_all place args body i h = ap (λ x. length (filled place args x)) (drop_of_length-le body h)
