-- The pieces that are read are a cut of the text, and the only one.
use Rattle.std.proofs.Common.{◌≡◌, ℕ, zero, suc, ◌≤◌, List, [], ◌∷◌, ◌++◌, length, take, drop, Some, true, false, refl, sym, subst, ◌∙◌, ap, arith, ◌⊎◌, inl, inr, Result, Ok, Err, IfOk, Vec}
use Rattle.std.specs.declared.alloc.Global.{Global}
use Rattle.c_text.specs.declared.tokens.Token.{Token}
use Rattle.c_text.specs.declared.refusals.Refusal.{Refusal}
use Rattle.c_text.specs.declared.refusals.Fail.{Fail}
use Rattle.c_text.specs.declared.refusals.Fail.TheVariants.{Refused, Memory}
use Rattle.c_text.specs.declared.source.Placed.{Placed}
use Rattle.c_text.specs.declared.pieces.Sort.{Sort}
use Rattle.c_text.specs.declared.pieces.Sort.TheVariants.{Lexeme, Blank, LineEnd, Comment, Open, Bad}
use Rattle.c_text.specs.declared.tokens.TokenKind.TheVariants.{Name, Number, Quote, Str, Mark, Lone}
use Rattle.c_text.specs.declared.tokens.Place.{Place}
use Rattle.std.specs.Prelude.{◌==◌, cond, Bool, Option, None}
use Rattle.c_text.specs.Source.{bytes_of, shown}
use Rattle.c_text.specs.Forms.{is_name, is_number, is_constant, is_string, is_mark, is_lone, is_blank, is_single, is_comment, is_open, is_bad, form_of}
use Rattle.c_text.specs.Tokens.{AllNamed, is_white, first_behind, token_in, Piece, bytes_in, IsLongest, Cut, tokens_of, faults_of, first_of, Tokens, FirstFault}
use Rattle.c_text.specs.Reading.{piece_at, piece_of, pieces}
use Rattle.c_text.specs.Answers.{Gives, IfRefused}
use Rattle.c_text.proofs.Longest.{piece_is, PieceIs}
use Rattle.c_text.proofs.Steps.{length-bytes_of, bytes_of-take}

parts : (n : ℕ) (cs : List Placed) → cs ≡ take n cs ++ drop n cs
parts zero cs = refl
parts (suc n) [] = refl
parts (suc n) (c ∷ cs) = ap (λ r. c ∷ r) (parts n cs)

bytes_of-append : (cs ds : List Placed) → bytes_of (cs ++ ds) ≡ bytes_of cs ++ bytes_of ds
bytes_of-append [] ds = refl
bytes_of-append (c ∷ cs) ds = ap (λ bs. c.byte ∷ bs) (bytes_of-append cs ds)

-- as many bytes as there are, or n
bytes_taken : (n : ℕ) (bs : List ℕ) → (p rest : List ℕ) → bs ≡ p ++ rest → length p ≤ n → length p ≤ length (take n bs)
bytes_taken n bs [] rest e h = omega arith
bytes_taken zero bs (x ∷ p) rest e h = absurd (omega arith)
bytes_taken (suc n) [] (x ∷ p) rest e h = absurd (cc)
bytes_taken (suc n) (b ∷ bs) (x ∷ p) rest e h = let less : length p ≤ length (take n bs) = bytes_taken n bs p rest (cc) (omega arith) in omega arith

longest_piece : (c : Placed) (cs : List Placed) (x : Sort × ℕ) → PieceIs c.byte (bytes_of cs) x → IsLongest (length (c.byte ∷ bytes_of (take x.1 cs))) (c.byte ∷ bytes_of cs)
longest_piece c cs x h [] rest s e f = omega arith
longest_piece c cs x h (b ∷ p) rest s e f =
    let same : b ≡ c.byte = cc in
    let behind : bytes_of cs ≡ p ++ rest = cc in
    let less : length p ≤ x.1 = h.1 p rest s behind (subst (λ y. form_of (y ∷ p) ≡ Some s) same f) in
    let all : length p ≤ length (bytes_of (take x.1 cs)) = rw (bytes_of-take x.1 cs) (bytes_taken x.1 (bytes_of cs) p rest behind less) in
    omega arith

cut_pieces : (text : List Placed) (n : ℕ) → Cut (drop n text) (pieces n text)
unfolding Cut pieces
cut_pieces [] zero = refl
cut_pieces [] (suc n) = refl
cut_pieces (c ∷ cs) (suc n) = cut_pieces cs n
cut_pieces (c ∷ cs) zero = go (piece_at c.byte (bytes_of cs)) (piece_is c.byte (bytes_of cs)) (cut_pieces cs (piece_at c.byte (bytes_of cs)).1)
  where
    go : (x : Sort × ℕ) → PieceIs c.byte (bytes_of cs) x → Cut (drop x.1 cs) (pieces x.1 cs) → Cut (c ∷ cs) (piece_of x.0 c (take x.1 cs) ∷ pieces x.1 cs)
    go x h others =
        (drop x.1 cs, ap (λ r. c ∷ r) (parts x.1 cs), ap (λ bs. form_of (c.byte ∷ bs)) (bytes_of-take x.1 cs) ∙ h.0, longest_piece c cs x h, others)

same_front : (a b c d : List Placed) → a ++ b ≡ c ++ d → length a ≡ length c → (a ≡ c) × (b ≡ d)
same_front [] b [] d e h = (refl, e)
same_front [] b (y ∷ c) d e h = absurd (omega arith)
same_front (x ∷ a) b [] d e h = absurd (omega arith)
same_front (x ∷ a) b (y ∷ c) d e h = let others = same_front a b c d (cc) (omega arith) in let first : x ≡ y = cc in (cc others.0, others.1)

bytes_whole : (text rest : List Placed) (p : Piece) → text ≡ (p.begin ∷ p.others) ++ rest → bytes_of text ≡ bytes_in p ++ bytes_of rest
bytes_whole text rest p e = ap bytes_of e ∙ ap (λ bs. p.begin.byte ∷ bs) (bytes_of-append p.others rest)

same_piece : (p q : Piece) → p.sort ≡ q.sort → p.begin ≡ q.begin → p.others ≡ q.others → p ≡ q
same_piece p q a b c = ap (λ s. piece_of s p.begin p.others) a ∙ ap (λ x. piece_of q.sort x p.others) b ∙ ap (λ xs. piece_of q.sort q.begin xs) c

pub one_cut : (text : List Placed) (ps qs : List Piece) → Cut text ps → Cut text qs → ps ≡ qs
unfolding Cut
one_cut text [] [] a b = refl
one_cut text [] (q ∷ qs) a (rest, is, form, longest, others) = absurd (cc)
one_cut text (p ∷ ps) [] (rest, is, form, longest, others) b = absurd (cc)
one_cut text (p ∷ ps) (q ∷ qs) (rest, is, form, longest, others) (rest', is', form', longest', others') =
    let less : length (bytes_in p) ≤ length (bytes_in q) = longest' (bytes_in p) (bytes_of rest) p.sort (bytes_whole text rest p is) form in
    let more : length (bytes_in q) ≤ length (bytes_in p) = longest (bytes_in q) (bytes_of rest') q.sort (bytes_whole text rest' q is') form' in
    let equal : length p.others ≡ length q.others = omega (arith, length-bytes_of p.others, length-bytes_of q.others) in
    let fronts = same_front (p.begin ∷ p.others) rest (q.begin ∷ q.others) rest' (sym is ∙ is') (ap suc equal) in
    let begins : p.begin ≡ q.begin = cc fronts.0 in
    let behinds : p.others ≡ q.others = cc fronts.0 in
    let sorts : Some p.sort ≡ Some q.sort = sym form ∙ rw (begins, behinds) form' in
    let first : p ≡ q = same_piece p q (cc) begins behinds in
    let next : ps ≡ qs = one_cut rest' ps qs (subst (λ r. Cut r ps) fronts.1 others) others' in
    cc

-- What is read, said of the whole source.
cut_source : (source : List ℕ) → Cut (shown source) (pieces 0 (shown source))
cut_source source = cut_pieces (shown source) 0

pub tokens_read : (source : List ℕ) (ts : List Token) → Tokens source ts → (faults_of (pieces 0 (shown source)) ≡ []) × (ts ≡ tokens_of false true (pieces 0 (shown source)))
unfolding Tokens
tokens_read source ts (ps, cut, none, is) =
    let same : ps ≡ pieces 0 (shown source) = one_cut (shown source) ps (pieces 0 (shown source)) cut (cut_source source) in
    (rw (← same) none, rw (← same) is)

pub fault_read : (source : List ℕ) (r : Refusal) → FirstFault source r → first_of (faults_of (pieces 0 (shown source))) ≡ Some r
unfolding FirstFault
fault_read source r (ps, cut, is) = rw (← one_cut (shown source) ps (pieces 0 (shown source)) cut (cut_source source)) is

pub found : (source : List ℕ) (r : Result (Vec Token Global) Fail) → Gives r (pieces 0 (shown source)) → IfOk r (λ v. Tokens source v.items)
unfolding Tokens
found source (Ok v) h = (pieces 0 (shown source), cut_source source, h.0, h.1)
found source (Err e) h = tt

pub only : (source : List ℕ) (r : Result (Vec Token Global) Fail) → Gives r (pieces 0 (shown source)) → IfOk r (λ v. (ts : List Token) → Tokens source ts → ts ≡ v.items)
only source (Ok v) h = λ ts t. (tokens_read source ts t).1 ∙ sym h.1
only source (Err e) h = tt

pub refused : (source : List ℕ) (r : Result (Vec Token Global) Fail) → Gives r (pieces 0 (shown source)) → IfRefused r (λ f. FirstFault source f)
unfolding FirstFault
refused source (Ok v) h = tt
refused source (Err (Refused f)) h = (pieces 0 (shown source), cut_source source, h)
refused source (Err Memory) h = tt

pub none : (source : List ℕ) (r : Result (Vec Token Global) Fail) → Gives r (pieces 0 (shown source)) → IfRefused r (λ f. (ts : List Token) → Tokens source ts → ⊥)
none source (Ok v) h = tt
none source (Err (Refused f)) h = λ ts t. let clean = (tokens_read source ts t).0 in let some : first_of [] ≡ Some f = rw clean at h in cc
none source (Err Memory) h = tt

pub clean : (source : List ℕ) (r : Result (Vec Token Global) Fail) → Gives r (pieces 0 (shown source)) → IfOk r (λ v. (f : Refusal) → FirstFault source f → ⊥)
clean source (Ok v) h = λ f t. let some = fault_read source f t in let nothing : first_of [] ≡ Some f = rw h.0 at some in cc
clean source (Err e) h = tt

pub first : (source : List ℕ) (r : Result (Vec Token Global) Fail) → Gives r (pieces 0 (shown source)) → IfRefused r (λ f. (g : Refusal) → FirstFault source g → g ≡ f)
first source (Ok v) h = tt
first source (Err (Refused f)) h = λ g t. let same : Some g ≡ Some f = sym (fault_read source g t) ∙ h in cc
first source (Err Memory) h = tt

pub one_token_list : (source : List ℕ) (ts us : List Token) → Tokens source ts → Tokens source us → ts ≡ us
one_token_list source ts us h k = (tokens_read source ts h).1 ∙ sym (tokens_read source us k).1

pub tokens_or_fault : (source : List ℕ) → ((ts : List Token) × Tokens source ts) ⊎ ((r : Refusal) × FirstFault source r)
unfolding Tokens FirstFault
tokens_or_fault source = go (faults_of (pieces 0 (shown source))) refl
  where
    go : (fs : List Refusal) → faults_of (pieces 0 (shown source)) ≡ fs → ((ts : List Token) × Tokens source ts) ⊎ ((r : Refusal) × FirstFault source r)
    go [] h = inl (tokens_of false true (pieces 0 (shown source)), (pieces 0 (shown source), cut_source source, h, refl))
    go (f ∷ fs) h = inr (f, (pieces 0 (shown source), cut_source source, ap first_of h))

-- The names among the tokens.
other_form : {A : Type 0} (t : Bool) (x y : Option Sort) (s : Sort) → cond t x y ≡ Some s → (x ≡ Some s → A) → (y ≡ Some s → A) → A
other_form true x y s e f g = f e
other_form false x y s e f g = g e

is_name_form : (bs : List ℕ) → form_of bs ≡ Some (Lexeme Name) → is_name bs ≡ true
unfolding form_of
is_name_form bs e = go (is_name bs) e
  where
    go : (t : Bool) → cond t (Some (Lexeme Name)) (cond (is_number bs) (Some (Lexeme Number)) (cond (is_constant bs) (Some (Lexeme Quote)) (cond (is_string bs) (Some (Lexeme Str))
        (cond (is_mark bs) (Some (Lexeme Mark)) (cond (is_single is_lone bs) (Some (Lexeme Lone)) (cond (is_single is_blank bs) (Some Blank) (cond (is_single (λ b. b == 10) bs) (Some LineEnd)
        (cond (is_comment bs) (Some Comment) (cond (is_open bs) (Some Open) (cond (is_single is_bad bs) (Some Bad) None)))))))))) ≡ Some (Lexeme Name) → t ≡ true
    go true e = refl
    go false e =
        other_form (is_number bs) _ _ (Lexeme Name) e (λ x. absurd (cc)) (λ e. other_form (is_constant bs) _ _ (Lexeme Name) e (λ x. absurd (cc))
        (λ e. other_form (is_string bs) _ _ (Lexeme Name) e (λ x. absurd (cc)) (λ e. other_form (is_mark bs) _ _ (Lexeme Name) e (λ x. absurd (cc))
        (λ e. other_form (is_single is_lone bs) _ _ (Lexeme Name) e (λ x. absurd (cc)) (λ e. other_form (is_single is_blank bs) _ _ (Lexeme Name) e (λ x. absurd (cc))
        (λ e. other_form (is_single (λ b. b == 10) bs) _ _ (Lexeme Name) e (λ x. absurd (cc)) (λ e. other_form (is_comment bs) _ _ (Lexeme Name) e (λ x. absurd (cc))
        (λ e. other_form (is_open bs) _ _ (Lexeme Name) e (λ x. absurd (cc)) (λ e. other_form (is_single is_bad bs) _ _ (Lexeme Name) e (λ x. absurd (cc)) (λ e. absurd (cc)))))))))))

named_front : (sort : Sort) (bytes : List ℕ) (place : Place) (spaced first : Bool) (ts : List Token) → form_of bytes ≡ Some sort → AllNamed ts → AllNamed (token_in sort bytes place spaced first ++ ts)
named_front (Lexeme kind) bytes place spaced first ts h others = (λ named. is_name_form bytes (rw named at h), others)
named_front Blank bytes place spaced first ts h others = others
named_front LineEnd bytes place spaced first ts h others = others
named_front Comment bytes place spaced first ts h others = others
named_front Open bytes place spaced first ts h others = others
named_front Bad bytes place spaced first ts h others = others

named_tokens : (text : List Placed) (ps : List Piece) (spaced first : Bool) → Cut text ps → AllNamed (tokens_of spaced first ps)
unfolding Cut
named_tokens text [] spaced first h = tt
named_tokens text (p ∷ ps) spaced first (rest, is, form, longest, others) =
    named_front p.sort (bytes_in p) p.begin.place spaced first (tokens_of (is_white p.sort) (first_behind p.sort first) ps) form (named_tokens rest ps (is_white p.sort) (first_behind p.sort first) others)

pub names : (source : List ℕ) (r : Result (Vec Token Global) Fail) → Gives r (pieces 0 (shown source)) → IfOk r (λ v. AllNamed v.items)
names source (Ok v) h = rw h.1 (named_tokens (shown source) (pieces 0 (shown source)) false true (cut_source source))
names source (Err e) h = tt
