-- The expansion of tokens (C11 6.10.3): each use is replaced by its body with its arguments, and the result is expanded again.
use Rattle.std.specs.Prelude.{ℕ, zero, suc, ◌+◌, List, [], ◌∷◌, ◌++◌, length, Bool, if◌then◌else◌, nat_lt, slice_get, unwrap_or, Option, Some, None, Result, Ok, Err}
use Rattle.c_text.specs.declared.tokens.Token.{Token}
use Rattle.c_text.specs.declared.tokens.Place.{Place}
use Rattle.c_text.specs.declared.refusals.Refusal.{Refusal}
use Rattle.c_text.specs.Details.{refusal_of}
use Rattle.c_macros.specs.declared.macros.Piece.{Piece}
use Rattle.c_macros.specs.Definition.{Macros}
use Rattle.c_macros.specs.Arguments.{Sight, Plain, Wrong, Use, sight}

-- the numbers of the refusals: a macro used against the rules, too many bodies within bodies, too much work
abbrev pub bad_macro : ℕ
bad_macro = 7

abbrev pub too_deep : ℕ
too_deep = 19

abbrev pub too_many : ℕ
too_many = 20

-- what is made, and all work that is done by then; or what is refused
abbrev pub Made : Type 0 → Type 0
Made X = Result (X × ℕ) Refusal

abbrev pub and_then : {A B : Type 0} → Made A → (A → ℕ → Made B) → Made B
and_then (Ok (x, work)) f = f x work
and_then (Err r) f = Err r

-- behind these tokens
abbrev pub behind : List Token → List Token → ℕ → Made (List Token)
behind front ts work = Ok (front ++ ts, work)

-- the outermost use: that in which a use stands, in its body or in an argument of it, or else itself
abbrev pub outermost : Option Token → Token → Token
outermost None t = t
outermost (Some u) t = u

-- a token of a body has the place of the use; a parameter is replaced by its argument, whose tokens keep their places
abbrev pub put : Place → List (List Token) → Token → Option ℕ → List Token
put place args t None = record t { place = place } ∷ []
put place args t (Some n) = unwrap_or (slice_get args n) []

-- a body with its arguments put in
abbrev pub filled : Place → List (List Token) → List Piece → List Token
filled place args [] = []
filled place args (p ∷ ps) = put place args p.token p.parameter ++ filled place args ps

-- expands tokens, told the work that was done before
abbrev pub Expands : Type 0
Expands = List Token → ℕ → Made (List Token)

-- the same, told the outermost use that they stand in, if they stand in one
abbrev pub Within : Type 0
Within = Option Token → Expands

-- each argument expanded by itself, from left to right; those that stand nowhere in the body aren't expanded
abbrev pub each : Expands → List Bool → List (List Token) → ℕ → Made (List (List Token))
each go [] args work = Ok ([], work)
each go (used ∷ more) [] work = Ok ([], work)
each go (used ∷ more) (a ∷ args) work =
    and_then (if used then go a work else Ok ([], work)) (λ x w. and_then (each go more args w) (λ xs v. Ok (x ∷ xs, v)))

-- what expands a body, told the outermost use, and the uses in whose bodies it stands, the outermost first
abbrev pub Bodies : Type 0
Bodies = Token → List Token → Expands

-- a use's body with expanded arguments: its work is done, and it is expanded again
abbrev pub replaced : ℕ → Bodies → List Token → Token → Token → List Token → ℕ → Made (List Token)
replaced limit bodies uses top t ts work =
    let sum = work + (1 + length ts) in
    if nat_lt limit sum then Err (refusal_of too_many top) else bodies top (uses ++ t ∷ []) ts sum

-- a token and those behind it, where `go` expands shorter lists
abbrev pub begun : ℕ → Bodies → List Token → Within → Option Token → Token → List Token → Sight → ℕ → Made (List Token)
begun limit bodies uses go top t ts Plain work = and_then (go top ts work) (behind (t ∷ []))
begun limit bodies uses go top t ts Wrong work = Err (refusal_of bad_macro t)
begun limit bodies uses go top t ts (Use m args rest) work =
    and_then (each (go (Some (outermost top t))) m.used args work) (λ xs w.
    and_then (replaced limit bodies uses (outermost top t) t (filled t.place xs m.body) w) (λ ys v.
    and_then (go top rest v) (behind ys)))

-- a list of at most this many tokens
abbrev pub expand_most : ℕ → Macros → Bodies → List Token → ℕ → Within
expand_most limit macros bodies uses n top [] work = Ok ([], work)
expand_most limit macros bodies uses zero top (t ∷ ts) work = Ok ([], work)
expand_most limit macros bodies uses (suc n) top (t ∷ ts) work =
    begun limit bodies uses (λ u us w. expand_most limit macros bodies uses n u us w) top t ts (sight macros uses t ts) work

-- what expands bodies where so many more may stand within them
unfoldable pub bodies_in : ℕ → Macros → ℕ → Bodies
bodies_in limit macros zero top uses ts work = Err (refusal_of too_deep top)
bodies_in limit macros (suc depth) top uses ts work = expand_most limit macros (λ t us vs w. bodies_in limit macros depth t us vs w) uses (length ts) (Some top) ts work

-- tokens in the bodies of these uses, where so many more bodies may stand within them
unfoldable pub expand_in : ℕ → Macros → ℕ → List Token → Within
expand_in limit macros depth uses top ts work = expand_most limit macros (bodies_in limit macros depth) uses (length ts) top ts work
