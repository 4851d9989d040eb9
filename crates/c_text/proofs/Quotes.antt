-- A quote without a partner stays without one up to the line's end.
use Rattle.std.proofs.Common.{◌≡◌, ℕ, suc, List, [], ◌∷◌, ◌++◌, Option, Some, None, Bool, true, false, cond, refl, sym, ◌∙◌, ap, append_assoc, take, drop}
use Rattle.std.specs.Prelude.{not, ◌==◌, ◌&&◌, ◌||◌}
use Rattle.std.proofs.lemmas.Bool.{eqb-true}
use Rattle.c_text.specs.declared.tokens.TokenKind.TheVariants.{Lone, Quote, Str}
use Rattle.c_text.specs.declared.pieces.Sort.{Sort}
use Rattle.c_text.specs.declared.pieces.Sort.TheVariants.{Lexeme}
use Rattle.c_text.specs.declared.pieces.Alone.{Alone}
use Rattle.c_text.specs.Forms.{all_are, is_no_line_end, is_partner, escapes}
use Rattle.c_text.specs.Reading.{partner, or_piece, piece_at}
use Rattle.c_text.specs.AloneQuotes.{is_lone_sort, is_alone, alone_behind, NoPartner, AreAlone}
use Rattle.c_text.specs.declared.source.Placed.{Placed}
use Rattle.c_text.specs.Source.{bytes_of}
use Rattle.c_text.proofs.Scans.{both}
use Rattle.c_text.proofs.Longest.{cut_at}

none_shift : (quote : ℕ) (bs : List ℕ) (escaped : Bool) (n m : ℕ) → partner quote escaped n bs ≡ None → partner quote escaped m bs ≡ None
none_shift quote [] escaped n m h = refl
none_shift quote (b ∷ bs) escaped n m h = go (b == 10) (is_partner quote escaped b) h (none_shift quote bs (escapes escaped b) (suc n) (suc m))
  where
    go : (s t : Bool) → cond s None (cond t (Some (suc n)) (partner quote (escapes escaped b) (suc n) bs)) ≡ None →
        (partner quote (escapes escaped b) (suc n) bs ≡ None → partner quote (escapes escaped b) (suc m) bs ≡ None) →
        cond s None (cond t (Some (suc m)) (partner quote (escapes escaped b) (suc m) bs)) ≡ None
    go true t h ih = refl
    go false true h ih = absurd (cc)
    go false false h ih = ih h

-- the next such quote is escaped, so what follows it is read alike from both
quote_here : (quote : ℕ) (rest : List ℕ) (escaped : Bool) (n m : ℕ) → (quote == 10) ≡ false → (quote == quote) ≡ true → partner quote escaped n (quote ∷ rest) ≡ None → partner quote false m rest ≡ None
quote_here quote rest true n m line same h =
    let behind : partner quote false (suc n) rest ≡ None = rw line at h in
    none_shift quote rest false (suc n) m behind
quote_here quote rest false n m line same h = let some : Some (suc n) ≡ None = rw (line, same) at h in absurd (cc)

alone_later : (quote : ℕ) → (quote == 10) ≡ false → (quote == quote) ≡ true → (p bs rest : List ℕ) (escaped : Bool) (n m : ℕ) → partner quote escaped n bs ≡ None → bs ≡ p ++ (quote ∷ rest) →
    all_are is_no_line_end p ≡ true → partner quote false m rest ≡ None
alone_later quote line same [] bs rest escaped n m h e t = quote_here quote rest escaped n m line same (rw e at h)
alone_later quote line same (x ∷ p) bs rest escaped n m h e t =
    go (x == 10) refl (is_partner quote escaped x) (rw e at h) (λ k. alone_later quote line same p (p ++ (quote ∷ rest)) rest (escapes escaped x) (suc n) m k refl passes.1)
  where
    passes : (not (x == 10) ≡ true) × (all_are is_no_line_end p ≡ true)
    passes = both (not (x == 10)) (all_are is_no_line_end p) t

    go : (s : Bool) → (x == 10) ≡ s → (u : Bool) → cond s None (cond u (Some (suc n)) (partner quote (escapes escaped x) (suc n) (p ++ (quote ∷ rest)))) ≡ None →
        (partner quote (escapes escaped x) (suc n) (p ++ (quote ∷ rest)) ≡ None → partner quote false m rest ≡ None) → partner quote false m rest ≡ None
    go true k u h ih = let differs : not true ≡ true = rw k at passes.0 in absurd (cc)
    go false k true h ih = absurd (cc)
    go false k false h ih = ih h

no_partner_begin : (quote : ℕ) (bs : List ℕ) → (quote == 10) ≡ false → (quote == quote) ≡ true → partner quote false 0 bs ≡ None → NoPartner quote (quote ∷ bs)
no_partner_begin quote bs line same h [] rest e t = let behind : rest ≡ bs = cc in rw behind h
no_partner_begin quote bs line same h (x ∷ p) rest e t =
    alone_later quote line same p bs rest false 0 0 h (cc) (both (is_no_line_end x) (all_are is_no_line_end p) t).1

all_joined : (f : ℕ → Bool) (p q : List ℕ) → all_are f p ≡ true → all_are f q ≡ true → all_are f (p ++ q) ≡ true
all_joined f [] q a b = b
all_joined f (x ∷ p) q a b = let parts = both (f x) (all_are f p) a in rw parts.0 (all_joined f p q parts.1 b)

no_partner_behind : (quote : ℕ) (text front after : List ℕ) → NoPartner quote text → text ≡ front ++ after → all_are is_no_line_end front ≡ true → NoPartner quote after
no_partner_behind quote text front after h is line p rest e t =
    h (front ++ p) rest (is ∙ ap (λ r. front ++ r) e ∙ sym (append_assoc front p (quote ∷ rest))) (all_joined is_no_line_end front p line t)

single_alone : (bs : List ℕ) → is_lone_sort (piece_at 39 bs).0 ≡ true → partner 39 false 0 bs ≡ None
unfolding piece_at
single_alone bs h = go (partner 39 false 0 bs) h
  where
    go : (o : Option ℕ) → is_lone_sort (or_piece o (Lexeme Quote) (Lexeme Lone, 0)).0 ≡ true → o ≡ None
    go None h = refl
    go (Some m) h = absurd (cc)

double_alone : (bs : List ℕ) → is_lone_sort (piece_at 34 bs).0 ≡ true → partner 34 false 0 bs ≡ None
unfolding piece_at
double_alone bs h = go (partner 34 false 0 bs) h
  where
    go : (o : Option ℕ) → is_lone_sort (or_piece o (Lexeme Str) (Lexeme Lone, 0)).0 ≡ true → o ≡ None
    go None h = refl
    go (Some m) h = absurd (cc)

split : {A : Type 0} (s t : Bool) → (s || t) ≡ true → (s ≡ true → A) → (t ≡ true → A) → A
split true t h f g = f refl
split false t h f g = g h

quote_next : (quote : ℕ) (known lone : Bool) (text bs front after : List ℕ) (b : ℕ) → (quote == 10) ≡ false → (quote == quote) ≡ true → (known ≡ true → NoPartner quote text) → text ≡ b ∷ bs → text ≡ front ++ after →
    (lone ≡ true → b ≡ quote → partner quote false 0 bs ≡ None) → (all_are is_no_line_end front && (known || (lone && (b == quote)))) ≡ true → NoPartner quote after
quote_next quote known lone text bs front after b line same h begins is begin t =
    let parts = both (all_are is_no_line_end front) (known || (lone && (b == quote))) t in
    split known (lone && (b == quote)) parts.1
    (λ k. no_partner_behind quote text front after (h k) is parts.0)
    (λ k.
    let here = both lone (b == quote) k in
    let quoted : b ≡ quote = eqb-true b quote here.1 in
    no_partner_behind quote (quote ∷ bs) front after (no_partner_begin quote bs line same (begin here.0 quoted)) (ap (λ x. x ∷ bs) (sym quoted) ∙ sym begins ∙ is) parts.0)

pub alone_next : (alone : Alone) (text bs front after : List ℕ) (b : ℕ) (x : Sort × ℕ) → AreAlone alone text → text ≡ b ∷ bs → x ≡ piece_at b bs → text ≡ front ++ after →
    AreAlone (alone_behind alone x.0 b front) after
alone_next alone text bs front after b x h begins at is = (
  quote_next 39 alone.single (is_lone_sort x.0) text bs front after b refl refl h.0 begins is (λ k e. single_alone bs (rw (at, e) at k)),
  quote_next 34 alone.double (is_lone_sort x.0) text bs front after b refl refl h.1 begins is (λ k e. double_alone bs (rw (at, e) at k)),
)

pub alone_first : (alone : Alone) (text bs : List ℕ) (b : ℕ) → AreAlone alone text → text ≡ b ∷ bs → is_alone alone b ≡ true → partner b false 0 bs ≡ None
alone_first alone text bs b h begins t =
    split ((b == 39) && alone.single) ((b == 34) && alone.double) t
    (λ k. let parts = both (b == 39) alone.single k in let quote : b ≡ 39 = eqb-true b 39 parts.0 in rw quote (h.0 parts.1 [] bs (begins ∙ ap (λ x. x ∷ bs) quote) refl))
    (λ k. let parts = both (b == 34) alone.double k in let quote : b ≡ 34 = eqb-true b 34 parts.0 in rw quote (h.1 parts.1 [] bs (begins ∙ ap (λ x. x ∷ bs) quote) refl))

pub text_begins : (text bs : List ℕ) (rest cs : List Placed) (c : Placed) → text ≡ bytes_of rest → rest ≡ c ∷ cs → bs ≡ bytes_of cs → text ≡ c.byte ∷ bs
text_begins text bs rest cs c h is behind = h ∙ ap bytes_of is ∙ ap (λ x. c.byte ∷ x) (sym behind)

pub joined_at : (n : ℕ) (text front after : List ℕ) → front ≡ take n text → after ≡ drop n text → text ≡ front ++ after
joined_at n text front after a b = rw (a, b) (cut_at n text)
