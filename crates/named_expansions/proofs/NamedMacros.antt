-- The names among the tokens that macros leave (C11 6.10.3): each comes from a body or from the tokens that are expanded.
use Rattle.std.proofs.Common.{◌≡◌, refl, ℕ, zero, suc, ◌+◌, Bool, true, false, cond, List, [], ◌∷◌, ◌++◌, length, take, drop, Option, Some, None, Ok, Err}
use Rattle.std.specs.Prelude.{nat_lt, slice_get, unwrap_or, codes}
use Rattle.c_text.specs.declared.tokens.TokenKind.TheVariants as kinds
use Rattle.c_text.specs.declared.tokens.Token.{Token}
use Rattle.c_text.specs.declared.tokens.Place.{Place}
use Rattle.c_text.specs.Details.{refusal_of}
use Rattle.c_text.specs.Forms.{is_name}
use Rattle.c_text.specs.Tokens.{AllNamed}
use Rattle.c_macros.specs.declared.macros.Piece.{Piece}
use Rattle.c_macros.specs.declared.roles.Role.{Role}
use Rattle.c_macros.specs.declared.roles.Role.TheVariants.{Opens, Closes, Parts, Other}
use Rattle.c_macros.specs.Definition.{Definition, Macros}
use Rattle.c_macros.specs.Arguments.{is_name_kind, is_mark, Cut, onto, before, role, cut_at, arguments, Sight, Plain, Wrong, Use, fits, closed, called, named, found, among, sight}
use Rattle.c_macros.specs.Expansion.{too_many, Made, and_then, behind, outermost, put, filled, Expands, Within, each, Bodies, replaced, begun, expand_most, bodies_in, expand_in}

abbrev pub TokenNamed : Token → Type 0
TokenNamed t = t.kind ≡ kinds.Name → is_name t.text ≡ true

abbrev pub ListsNamed : List (List Token) → Type 0
ListsNamed [] = Unit {0}
ListsNamed (a ∷ args) = AllNamed a × ListsNamed args

abbrev pub PiecesNamed : List Piece → Type 0
PiecesNamed [] = Unit {0}
PiecesNamed (p ∷ ps) = TokenNamed p.token × PiecesNamed ps

-- each name in a body is one of C
abbrev pub MacrosNamed : Macros → Type 0
MacrosNamed macros = (x : List ℕ) (m : Definition) → macros x ≡ Some m → PiecesNamed m.body

pub joined : (xs ys : List Token) → AllNamed xs → AllNamed ys → AllNamed (xs ++ ys)
joined [] ys h g = g
joined (t ∷ xs) ys h g = (h.0, joined xs ys h.1 g)

pub taken : (n : ℕ) (ts : List Token) → AllNamed ts → AllNamed (take n ts)
taken zero ts h = tt
taken (suc n) [] h = tt
taken (suc n) (t ∷ ts) h = (h.0, taken n ts h.1)

pub dropped : (n : ℕ) (ts : List Token) → AllNamed ts → AllNamed (drop n ts)
dropped zero ts h = h
dropped (suc n) [] h = tt
dropped (suc n) (t ∷ ts) h = dropped n ts h.1

-- ---- arguments

abbrev CutNamed : Cut → Type 0
CutNamed None = Unit {0}
CutNamed (Some (first, (others, rest))) = AllNamed first × ListsNamed others × AllNamed rest

onto_named : (t : Token) (c : Cut) → TokenNamed t → CutNamed c → CutNamed (onto t c)
onto_named t None h g = tt
onto_named t (Some (first, (others, rest))) h g = ((h, g.0), g.1, g.2)

before_named : (c : Cut) → CutNamed c → CutNamed (before c)
before_named None g = tt
before_named (Some (first, (others, rest))) g = (tt, (g.0, g.1), g.2)

cut_named : (r : Role) (inner : ℕ) (t : Token) (go : ℕ → Cut) (ts : List Token) → TokenNamed t → AllNamed ts → ((n : ℕ) → CutNamed (go n)) → CutNamed (cut_at r inner t go ts)
cut_named Opens inner t go ts h k g = onto_named t (go (inner + 1)) h (g (inner + 1))
cut_named Closes zero t go ts h k g = (tt, tt, k)
cut_named Closes (suc inner) t go ts h k g = onto_named t (go inner) h (g inner)
cut_named Parts zero t go ts h k g = before_named (go 0) (g 0)
cut_named Parts (suc inner) t go ts h k g = onto_named t (go (suc inner)) h (g (suc inner))
cut_named Other inner t go ts h k g = onto_named t (go inner) h (g inner)

arguments_named : (ts : List Token) (inner : ℕ) → AllNamed ts → CutNamed (arguments inner ts)
arguments_named [] inner h = tt
arguments_named (t ∷ ts) inner h = cut_named (role t) inner t (λ n. arguments n ts) ts h.0 h.1 (λ n. arguments_named ts n h.1)

-- ---- what a token begins

abbrev SightNamed : Sight → Type 0
SightNamed Plain = Unit {0}
SightNamed Wrong = Unit {0}
SightNamed (Use m args rest) = PiecesNamed m.body × ListsNamed args × AllNamed rest

sight_if : (b : Bool) (s t : Sight) → SightNamed s → SightNamed t → SightNamed (cond b s t)
sight_if true s t h g = h
sight_if false s t h g = g

closed_named : (m : Definition) (c : Cut) → PiecesNamed m.body → CutNamed c → SightNamed (closed m c)
closed_named m None h g = tt
closed_named m (Some (first, (others, rest))) h g = sight_if (fits m.used (first ∷ others)) (Use m (first ∷ others) rest) Wrong (h, (g.0, g.1), g.2) tt

called_named : (m : Definition) (ts : List Token) → PiecesNamed m.body → AllNamed ts → SightNamed (called m ts)
called_named m [] h g = tt
called_named m (t ∷ ts) h g = sight_if (is_mark (codes "(") t) (closed m (arguments 0 ts)) Wrong (closed_named m (arguments 0 ts) h (arguments_named ts 0 g.1)) tt

found_named : (o : Option Definition) (busy : Bool) (ts : List Token) → ((m : Definition) → o ≡ Some m → PiecesNamed m.body) → AllNamed ts → SightNamed (found o busy ts)
found_named None busy ts h g = tt
found_named (Some m) busy ts h g =
    sight_if busy Wrong (named m ts) tt
    (sight_if m.function_like (called m ts) (Use m [] ts) (called_named m ts (h m refl) g) (h m refl, tt, g))

sight_named : (macros : Macros) (uses : List Token) (t : Token) (ts : List Token) → MacrosNamed macros → AllNamed ts → SightNamed (sight macros uses t ts)
unfolding sight
sight_named macros uses t ts h g = sight_if (is_name_kind t.kind) (found (macros t.text) (among t.text uses) ts) Plain (found_named (macros t.text) (among t.text uses) ts (h t.text) g) tt

-- ---- what is made

abbrev pub Makes : {X : Type 0} → (X → Type 0) → Made X → Type 0
Makes P (Ok (x, work)) = P x
Makes P (Err r) = Unit {0}

pub makes_then : {A B : Type 0} (P : A → Type 0) (Q : B → Type 0) (m : Made A) (f : A → ℕ → Made B) → Makes P m → ((x : A) (w : ℕ) → P x → Makes Q (f x w)) → Makes Q (and_then m f)
makes_then P Q (Ok (x, work)) f h g = g x work h
makes_then P Q (Err r) f h g = tt

makes_if : {A : Type 0} (P : A → Type 0) (b : Bool) (m n : Made A) → Makes P m → Makes P n → Makes P (cond b m n)
makes_if P true m n h g = h
makes_if P false m n h g = g

argument_named : (args : List (List Token)) (n : ℕ) → ListsNamed args → AllNamed (unwrap_or (slice_get args n) [])
argument_named [] n h = tt
argument_named (a ∷ args) zero h = h.0
argument_named (a ∷ args) (suc n) h = argument_named args n h.1

put_named : (place : Place) (args : List (List Token)) (t : Token) (o : Option ℕ) → ListsNamed args → TokenNamed t → AllNamed (put place args t o)
put_named place args t None h g = (g, tt)
put_named place args t (Some n) h g = argument_named args n h

filled_named : (place : Place) (args : List (List Token)) (ps : List Piece) → ListsNamed args → PiecesNamed ps → AllNamed (filled place args ps)
filled_named place args [] h g = tt
filled_named place args (p ∷ ps) h g = joined (put place args p.token p.parameter) (filled place args ps) (put_named place args p.token p.parameter h g.0) (filled_named place args ps h g.1)

abbrev ExpandsNamed : Expands → Type 0
ExpandsNamed go = (ts : List Token) (w : ℕ) → AllNamed ts → Makes AllNamed (go ts w)

abbrev WithinNamed : Within → Type 0
WithinNamed go = (top : Option Token) → ExpandsNamed (go top)

abbrev BodiesNamed : Bodies → Type 0
BodiesNamed bodies = (top : Token) (uses : List Token) → ExpandsNamed (bodies top uses)

each_named : (go : Expands) → ExpandsNamed go → (used : List Bool) (args : List (List Token)) (work : ℕ) → ListsNamed args → Makes ListsNamed (each go used args work)
each_named go one [] args work h = tt
each_named go one (used ∷ more) [] work h = tt
each_named go one (used ∷ more) (a ∷ args) work h =
    makes_then AllNamed ListsNamed (cond used (go a work) (Ok ([], work))) (λ x w. and_then (each go more args w) (λ xs v. Ok (x ∷ xs, v)))
    (makes_if AllNamed used (go a work) (Ok ([], work)) (one a work h.0) tt)
    (λ x w k. makes_then ListsNamed ListsNamed (each go more args w) (λ xs v. Ok (x ∷ xs, v)) (each_named go one more args w h.1) (λ xs v l. (k, l)))

replaced_named : (limit : ℕ) (bodies : Bodies) (uses : List Token) (top t : Token) (ts : List Token) (work : ℕ) → BodiesNamed bodies → AllNamed ts → Makes AllNamed (replaced limit bodies uses top t ts work)
replaced_named limit bodies uses top t ts work b h =
    let sum = work + (1 + length ts) in
    makes_if AllNamed (nat_lt limit sum) (Err (refusal_of too_many top)) (bodies top (uses ++ t ∷ []) ts sum) tt (b top (uses ++ t ∷ []) ts sum h)

begun_named : (limit : ℕ) (bodies : Bodies) (uses : List Token) (go : Within) (top : Option Token) (t : Token) (ts : List Token) (s : Sight) (work : ℕ) →
    BodiesNamed bodies → WithinNamed go → TokenNamed t → AllNamed ts → SightNamed s → Makes AllNamed (begun limit bodies uses go top t ts s work)
begun_named limit bodies uses go top t ts Plain work b g n h s = makes_then AllNamed AllNamed (go top ts work) (behind (t ∷ [])) (g top ts work h) (λ ys v k. (n, k))
begun_named limit bodies uses go top t ts Wrong work b g n h s = tt
begun_named limit bodies uses go top t ts (Use m args rest) work b g n h s =
    makes_then ListsNamed AllNamed (each (go (Some (outermost top t))) m.used args work) _ (each_named (go (Some (outermost top t))) (g (Some (outermost top t))) m.used args work s.1) (λ xs w k.
    makes_then AllNamed AllNamed (replaced limit bodies uses (outermost top t) t (filled t.place xs m.body) w) _ (replaced_named limit bodies uses (outermost top t) t (filled t.place xs m.body) w b (filled_named t.place xs m.body k s.0)) (λ ys v l.
    makes_then AllNamed AllNamed (go top rest v) (behind ys) (g top rest v s.2) (λ zs u j. joined ys zs l j)))

most_named : (limit : ℕ) (macros : Macros) (bodies : Bodies) (uses : List Token) → MacrosNamed macros → BodiesNamed bodies → (n : ℕ) (top : Option Token) (ts : List Token) (work : ℕ) → AllNamed ts →
    Makes AllNamed (expand_most limit macros bodies uses n top ts work)
most_named limit macros bodies uses m b n top [] work h = tt
most_named limit macros bodies uses m b zero top (t ∷ ts) work h = tt
most_named limit macros bodies uses m b (suc n) top (t ∷ ts) work h =
    begun_named limit bodies uses (λ u us w. expand_most limit macros bodies uses n u us w) top t ts (sight macros uses t ts) work b (λ u us w k. most_named limit macros bodies uses m b n u us w k) h.0 h.1 (sight_named macros uses t ts m h.1)

bodies_named : (limit : ℕ) (macros : Macros) → MacrosNamed macros → (depth : ℕ) → BodiesNamed (bodies_in limit macros depth)
unfolding bodies_in
bodies_named limit macros m zero top uses ts work h = tt
bodies_named limit macros m (suc depth) top uses ts work h =
    most_named limit macros (λ t us vs w. bodies_in limit macros depth t us vs w) uses m (λ t us vs w k. bodies_named limit macros m depth t us vs w k) (length ts) (Some top) ts work h

-- Tokens whose names are names of C expand to such tokens.
pub in_named : (limit : ℕ) (macros : Macros) (depth : ℕ) (uses : List Token) (top : Option Token) (ts : List Token) (work : ℕ) → MacrosNamed macros → AllNamed ts → Makes AllNamed (expand_in limit macros depth uses top ts work)
unfolding expand_in
in_named limit macros depth uses top ts work m h = most_named limit macros (bodies_in limit macros depth) uses m (bodies_named limit macros m depth) (length ts) top ts work h
