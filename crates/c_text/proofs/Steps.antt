-- Steps of the loop over pieces.
use Rattle.std.proofs.Common.{◌≡◌, ℕ, zero, suc, ◌+◌, ◌<◌, ◌≤◌, List, [], ◌∷◌, ◌++◌, length, take, drop, Bool, true, false, refl, sym, ◌∙◌, ap, arith, append_assoc, append-nil, add-one, Some, None, Err}
use Rattle.c_text.specs.declared.tokens.Token.{Token}
use Rattle.c_text.specs.declared.refusals.Refusal.{Refusal}
use Rattle.c_text.specs.declared.refusals.Fail.{Fail}
use Rattle.c_text.specs.declared.refusals.Fail.TheVariants.{Refused, Memory}
use Rattle.c_text.specs.declared.source.Placed.{Placed}
use Rattle.c_text.specs.declared.pieces.Sort.{Sort}
use Rattle.c_text.specs.declared.pieces.Sort.TheVariants.{Lexeme}
use Rattle.c_text.specs.declared.tokens.TokenKind.{TokenKind}
use Rattle.c_text.specs.declared.tokens.TokenKind.TheVariants.{Name}
use Rattle.std.specs.Prelude.{nat_lt}
use Rattle.std.proofs.lemmas.Bool.Decides.{nat_tests}
use Rattle.c_text.specs.Source.{bytes_of}
use Rattle.c_text.specs.Tokens.{bytes_in, long_name, long_names, is_white, first_behind, token_in, tokens_of, faults_in, faults_of, first_of}
use Rattle.c_text.specs.Reading.{piece_at, piece_of, pieces}
use Rattle.c_text.specs.Answers.{Refuses, Gives}

pub length-bytes_of : (cs : List Placed) → length (bytes_of cs) ≡ length cs
length-bytes_of [] = refl
length-bytes_of (c ∷ cs) = ap suc (length-bytes_of cs)

pub bytes_of-take : (n : ℕ) (cs : List Placed) → bytes_of (take n cs) ≡ take n (bytes_of cs)
bytes_of-take zero cs = refl
bytes_of-take (suc n) [] = refl
bytes_of-take (suc n) (c ∷ cs) = ap (λ bs. c.byte ∷ bs) (bytes_of-take n cs)

pub bytes_of-drop : (n : ℕ) (cs : List Placed) → bytes_of (drop n cs) ≡ drop n (bytes_of cs)
bytes_of-drop zero cs = refl
bytes_of-drop (suc n) [] = refl
bytes_of-drop (suc n) (c ∷ cs) = bytes_of-drop n cs

pub pieces_behind : (n : ℕ) (cs : List Placed) → pieces n cs ≡ pieces 0 (drop n cs)
unfolding pieces
pieces_behind zero cs = refl
pieces_behind (suc n) [] = refl
pieces_behind (suc n) (c ∷ cs) = pieces_behind n cs

pub pieces_begin : (c : Placed) (cs : List Placed) →
    pieces 0 (c ∷ cs) ≡ piece_of (piece_at c.byte (bytes_of cs)).0 c (take (piece_at c.byte (bytes_of cs)).1 cs) ∷ pieces 0 (drop (piece_at c.byte (bytes_of cs)).1 cs)
unfolding pieces
pieces_begin c cs =
    ap (λ ps. piece_of (piece_at c.byte (bytes_of cs)).0 c (take (piece_at c.byte (bytes_of cs)).1 cs) ∷ ps) (pieces_behind (piece_at c.byte (bytes_of cs)).1 cs)

-- the same with names for the parts
pub pieces_next : (rest cs others after : List Placed) (bs : List ℕ) (c : Placed) (x : Sort × ℕ) → rest ≡ c ∷ cs → bs ≡ bytes_of cs → x ≡ piece_at c.byte bs → others ≡ take x.1 cs → after ≡ drop x.1 cs →
    pieces 0 rest ≡ piece_of x.0 c others ∷ pieces 0 after
pieces_next rest cs others after bs c x is same at front back = rw (is, front, back, at, same) (pieces_begin c cs)

pub bytes_behind : (text bs : List ℕ) (rest cs : List Placed) (c : Placed) → text ≡ bytes_of rest → rest ≡ c ∷ cs → bs ≡ drop 1 text → bs ≡ bytes_of cs
bytes_behind text bs rest cs c h is b = b ∙ rw (h, is) refl

pub spelled : (text front : List ℕ) (rest cs others : List Placed) (c : Placed) (n : ℕ) → text ≡ bytes_of rest → rest ≡ c ∷ cs → front ≡ take (n + 1) text → others ≡ take n cs →
    front ≡ c.byte ∷ bytes_of others
spelled text front rest cs others c n h is f o = f ∙ rw (h, is, add-one n, o, bytes_of-take n cs) refl

pub bytes_after : (text behind : List ℕ) (rest cs after : List Placed) (c : Placed) (n : ℕ) → text ≡ bytes_of rest → rest ≡ c ∷ cs → behind ≡ drop (n + 1) text → after ≡ drop n cs →
    behind ≡ bytes_of after
bytes_after text behind rest cs after c n h is b a = b ∙ rw (h, is, add-one n, a, bytes_of-drop n cs) refl

pub first_some : (a b : List Refusal) (r : Refusal) → first_of a ≡ Some r → first_of (a ++ b) ≡ Some r
first_some [] b r h = cc
first_some (x ∷ a) b r h = h

pub first_none : (a b : List Refusal) → None ≡ first_of a → first_of (a ++ b) ≡ first_of b
first_none [] b h = refl
first_none (x ∷ a) b h = cc

pub no_first : (a : List Refusal) → None ≡ first_of a → a ≡ []
no_first [] h = refl
no_first (x ∷ a) h = cc

is_above : (n : ℕ) → 255 ≤ n → nat_lt 255 (suc n) ≡ true
is_above n h = grind (arith, nat_tests)

not_above : (n : ℕ) → n < 255 → nat_lt 255 (suc n) ≡ false
not_above n h = grind (arith, nat_tests)

pub long_above : (kind : TokenKind) (c : Placed) (cs : List Placed) → kind ≡ Name → 255 ≤ length cs →
    Some (long_name c (c.byte ∷ bytes_of cs)) ≡ first_of (long_names (Lexeme kind) c (c.byte ∷ bytes_of cs))
long_above kind c cs named h = rw (named, length-bytes_of cs, is_above (length cs) h) refl

pub long_within : (kind : TokenKind) (c : Placed) (cs : List Placed) → kind ≡ Name → length cs < 255 →
    None ≡ first_of (long_names (Lexeme kind) c (c.byte ∷ bytes_of cs))
long_within kind c cs named h = rw (named, length-bytes_of cs, not_above (length cs) h) refl

-- what came before the rest has no faults, and these tokens
abbrev pub SoFar : List Placed → List Token → Bool → Bool → List Placed → Type 0
SoFar chars out spaced first rest =
    (faults_of (pieces 0 chars) ≡ faults_of (pieces 0 rest)) × (tokens_of false true (pieces 0 chars) ≡ out ++ tokens_of spaced first (pieces 0 rest))

pub so_far_next : (chars rest after others : List Placed) (c : Placed) (sort : Sort) (bytes : List ℕ) (out new : List Token) (spaced first next_spaced next_first : Bool) →
    SoFar chars out spaced first rest → pieces 0 rest ≡ piece_of sort c others ∷ pieces 0 after → faults_in sort (piece_of sort c others) ≡ [] → bytes ≡ bytes_in (piece_of sort c others) →
    new ≡ out ++ token_in sort bytes c.place spaced first → next_spaced ≡ is_white sort → next_first ≡ first_behind sort first → SoFar chars new next_spaced next_first after
so_far_next chars rest after others c sort bytes out new spaced first next_spaced next_first h is none spelled grown white begins = (
  h.0 ∙ rw is (rw none refl),
  h.1 ∙ rw (is, grown, white, begins, spelled) (sym (append_assoc out (token_in sort (bytes_in (piece_of sort c others)) c.place spaced first) (tokens_of (is_white sort) (first_behind sort first) (pieces 0 after)))),
)

pub so_far_end : (chars rest : List Placed) (out : List Token) (spaced first : Bool) → SoFar chars out spaced first rest → length rest ≡ 0 →
    (faults_of (pieces 0 chars) ≡ []) × (out ≡ tokens_of false true (pieces 0 chars))
unfolding pieces
so_far_end chars [] out spaced first h none = (h.0, sym (h.1 ∙ append-nil out))
so_far_end chars (c ∷ cs) out spaced first h none = absurd (omega arith)

pub so_far_fault : (chars rest after others : List Placed) (c : Placed) (sort : Sort) (out : List Token) (spaced first : Bool) (fault : Refusal) (e : Fail) →
    SoFar chars out spaced first rest → pieces 0 rest ≡ piece_of sort c others ∷ pieces 0 after → Some fault ≡ first_of (faults_in sort (piece_of sort c others)) → Refuses e fault →
    Gives (Err e) (pieces 0 chars)
so_far_fault chars rest after others c sort out spaced first fault Memory h is begins refused = tt
so_far_fault chars rest after others c sort out spaced first fault (Refused r) h is begins refused =
    ap first_of h.0 ∙ rw is (first_some (faults_in sort (piece_of sort c others)) (faults_of (pieces 0 after)) fault (sym begins)) ∙ ap Some (sym refused)
