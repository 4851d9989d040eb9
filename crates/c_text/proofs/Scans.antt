-- What each scan finds is the longest prefix that passes its test.
use Rattle.std.proofs.Common.{◌≡◌, ℕ, suc, ◌+◌, ◌≤◌, List, [], ◌∷◌, ◌++◌, length, take, Option, Some, None, Bool, true, false, cond, refl, sym, ◌∙◌, arith, add-zero, add-one}
use Rattle.std.specs.Prelude.{◌==◌, ◌&&◌}
use Rattle.c_text.specs.Forms.{all_are, is_empty, starts, goes_on, all_go_on, is_partner, escapes, closes, is_quoted, is_utf8_quoted, ends_comment, stays_open}
use Rattle.c_text.specs.Reading.{run, number_run, partner, comment_end, one_more, quoted, utf8_quoted}

pub out : {P : Type 0} (t : Bool) → t ≡ false → t ≡ true → P
out t not_so so = absurd (cc)

pub both : (s t : Bool) → (s && t) ≡ true → (s ≡ true) × (t ≡ true)
both true t h = (refl, h)
both false t h = absurd (cc)

-- this many bytes and n more are the longest prefix that passes, or none does
abbrev pub Found : (List ℕ → Bool) → Option ℕ → ℕ → List ℕ → Type 0
Found test (Some m) n bs = (k : ℕ) × (m ≡ k + n) × (test (take k bs) ≡ true) × ((p rest : List ℕ) → bs ≡ p ++ rest → test p ≡ true → length p ≤ k)
Found test None n bs = (p rest : List ℕ) → bs ≡ p ++ rest → test p ≡ true → ⊥

abbrev pub Reads : (List ℕ → Bool) → Option ℕ → List ℕ → Type 0
Reads test (Some m) bs = (test (take m bs) ≡ true) × ((p rest : List ℕ) → bs ≡ p ++ rest → test p ≡ true → length p ≤ m)
Reads test None bs = (p rest : List ℕ) → bs ≡ p ++ rest → test p ≡ true → ⊥

found_reads : (test : List ℕ → Bool) (o : Option ℕ) (bs : List ℕ) → Found test o 0 bs → Reads test o bs
found_reads test None bs h = h
found_reads test (Some m) bs (k, is, passes, longest) = rw (is, add-zero k) (passes, longest)

pub no_bytes : (p rest : List ℕ) → [] ≡ p ++ rest → p ≡ []
no_bytes [] rest e = refl
no_bytes (x ∷ p) rest e = cc

run_found : (f : ℕ → Bool) (bs : List ℕ) (n : ℕ) → Found (all_are f) (Some (run f n bs)) n bs
run_found f [] n = (0, sym (zero_more n), refl, λ p rest e h. rw (no_bytes p rest e) (omega arith))
  where
    zero_more : (n : ℕ) → 0 + n ≡ n
    zero_more n = omega arith
run_found f (b ∷ bs) n = go (f b) refl (run_found f bs (suc n))
  where
    longer : (k : ℕ) → ((p rest : List ℕ) → bs ≡ p ++ rest → all_are f p ≡ true → length p ≤ k) → (p rest : List ℕ) → b ∷ bs ≡ p ++ rest → all_are f p ≡ true → length p ≤ suc k
    longer k h [] rest e t = omega arith
    longer k h (x ∷ p) rest e t = let less : length p ≤ k = h p rest (cc) (both (f x) (all_are f p) t).1 in omega arith

    none : f b ≡ false → (p rest : List ℕ) → b ∷ bs ≡ p ++ rest → all_are f p ≡ true → length p ≤ 0
    none not_so [] rest e t = omega arith
    none not_so (x ∷ p) rest e t = let same : b ≡ x = cc in out (f x) (rw (← same) not_so) (both (f x) (all_are f p) t).0

    go : (t : Bool) → f b ≡ t → Found (all_are f) (Some (run f (suc n) bs)) (suc n) bs → Found (all_are f) (Some (cond t (run f (suc n) bs) n)) n (b ∷ bs)
    go true so (k, is, passes, longest) = (suc k, is ∙ omega arith, rw so passes, longer k longest)
    go false not_so h = (0, omega arith, refl, none not_so)

number_found : (bs : List ℕ) (before n : ℕ) → Found (all_go_on before) (Some (number_run before n bs)) n bs
number_found [] before n = (0, omega arith, refl, λ p rest e h. rw (no_bytes p rest e) (omega arith))
number_found (b ∷ bs) before n = go (goes_on before b) refl (number_found bs b (suc n))
  where
    longer : (k : ℕ) → ((p rest : List ℕ) → bs ≡ p ++ rest → all_go_on b p ≡ true → length p ≤ k) → (p rest : List ℕ) → b ∷ bs ≡ p ++ rest → all_go_on before p ≡ true → length p ≤ suc k
    longer k h [] rest e t = omega arith
    longer k h (x ∷ p) rest e t =
        let same : x ≡ b = cc in
        let less : length p ≤ k = h p rest (cc) (rw same at (both (goes_on before x) (all_go_on x p) t).1) in
        omega arith

    none : goes_on before b ≡ false → (p rest : List ℕ) → b ∷ bs ≡ p ++ rest → all_go_on before p ≡ true → length p ≤ 0
    none not_so [] rest e t = omega arith
    none not_so (x ∷ p) rest e t = let same : b ≡ x = cc in out (goes_on before x) (rw (← same) not_so) (both (goes_on before x) (all_go_on x p) t).0

    go : (t : Bool) → goes_on before b ≡ t → Found (all_go_on b) (Some (number_run b (suc n) bs)) (suc n) bs → Found (all_go_on before) (Some (cond t (number_run b (suc n) bs) n)) n (b ∷ bs)
    go true so (k, is, passes, longest) = (suc k, is ∙ omega arith, rw so passes, longer k longest)
    go false not_so h = (0, omega arith, refl, none not_so)

-- a test that goes on with what is behind a byte
abbrev Steps : (List ℕ → Bool) → (List ℕ → Bool) → ℕ → Type 0
Steps test next b = (test [] ≡ false) × ((p : List ℕ) → test (b ∷ p) ≡ next p)

go_on : (test next : List ℕ → Bool) (b : ℕ) (bs : List ℕ) (n : ℕ) (o : Option ℕ) → Steps test next b → Found next o (suc n) bs → Found test o n (b ∷ bs)
go_on test next b bs n None step h = never
  where
    never : (p rest : List ℕ) → b ∷ bs ≡ p ++ rest → test p ≡ true → ⊥
    never [] rest e t = out (test []) step.0 t
    never (x ∷ p) rest e t = let same : x ≡ b = cc in h p rest (cc) (sym (step.1 p) ∙ rw same at t)
go_on test next b bs n (Some m) step (k, is, passes, longest) = (suc k, is ∙ omega arith, step.1 (take k bs) ∙ passes, longer)
  where
    longer : (p rest : List ℕ) → b ∷ bs ≡ p ++ rest → test p ≡ true → length p ≤ suc k
    longer [] rest e t = omega arith
    longer (x ∷ p) rest e t =
        let same : x ≡ b = cc in
        let less : length p ≤ k = longest p rest (cc) (sym (step.1 p) ∙ rw same at t) in
        omega arith

-- a test that fails with this byte in front
abbrev Stops : (List ℕ → Bool) → ℕ → Type 0
Stops test b = (test [] ≡ false) × ((p : List ℕ) → test (b ∷ p) ≡ false)

stop : (test : List ℕ → Bool) (b : ℕ) (bs : List ℕ) → Stops test b → (p rest : List ℕ) → b ∷ bs ≡ p ++ rest → test p ≡ true → ⊥
stop test b bs h [] rest e t = out (test []) h.0 t
stop test b bs h (x ∷ p) rest e t = let same : x ≡ b = cc in out (test (b ∷ p)) (h.1 p) (rw same at t)

-- a test that ends with this byte
abbrev Ends : (List ℕ → Bool) → ℕ → Type 0
Ends test b = (test [] ≡ false) × ((p : List ℕ) → test (b ∷ p) ≡ is_empty p)

pub empty_length : (p : List ℕ) → is_empty p ≡ true → length p ≤ 0
empty_length [] h = omega arith
empty_length (x ∷ p) h = absurd (cc)

done : (test : List ℕ → Bool) (b : ℕ) (bs : List ℕ) (n : ℕ) → Ends test b → Found test (Some (suc n)) n (b ∷ bs)
done test b bs n h = (1, omega arith, h.1 [], longest)
  where
    longest : (p rest : List ℕ) → b ∷ bs ≡ p ++ rest → test p ≡ true → length p ≤ 1
    longest [] rest e t = omega arith
    longest (x ∷ p) rest e t =
        let same : x ≡ b = cc in
        let short : length p ≤ 0 = empty_length p (sym (h.1 p) ∙ rw same at t) in
        omega arith

never_empty : (test : List ℕ → Bool) → test [] ≡ false → (p rest : List ℕ) → [] ≡ p ++ rest → test p ≡ true → ⊥
never_empty test h p rest e t = let none : p ≡ [] = no_bytes p rest e in out (test []) h (rw none at t)

partner_found : (quote : ℕ) (bs : List ℕ) (escaped : Bool) (n : ℕ) → Found (closes quote escaped) (partner quote escaped n bs) n bs
partner_found quote [] escaped n = never_empty (closes quote escaped) refl
partner_found quote (b ∷ bs) escaped n = go (b == 10) refl (is_partner quote escaped b) refl (partner_found quote bs (escapes escaped b) (suc n))
  where
    go : (s : Bool) → (b == 10) ≡ s → (t : Bool) → is_partner quote escaped b ≡ t →
        Found (closes quote (escapes escaped b)) (partner quote (escapes escaped b) (suc n) bs) (suc n) bs →
        Found (closes quote escaped) (cond s None (cond t (Some (suc n)) (partner quote (escapes escaped b) (suc n) bs))) n (b ∷ bs)
    go true a t c h = stop (closes quote escaped) b bs (refl, λ p. rw a refl)
    go false a true c h = done (closes quote escaped) b bs n (refl, λ p. rw (a, c) refl)
    go false a false c h =
        go_on (closes quote escaped) (closes quote (escapes escaped b)) b bs n (partner quote (escapes escaped b) (suc n) bs) (refl, λ p. rw (a, c) refl) h

comment_found : (bs : List ℕ) (star : Bool) (n : ℕ) → Found (ends_comment star) (comment_end star n bs) n bs
comment_found [] star n = never_empty (ends_comment star) refl
comment_found (b ∷ bs) star n = go (star && (b == 47)) refl (comment_found bs (b == 42) (suc n))
  where
    go : (t : Bool) → (star && (b == 47)) ≡ t → Found (ends_comment (b == 42)) (comment_end (b == 42) (suc n) bs) (suc n) bs →
        Found (ends_comment star) (cond t (Some (suc n)) (comment_end (b == 42) (suc n) bs)) n (b ∷ bs)
    go true c h = done (ends_comment star) b bs n (refl, λ p. rw c refl)
    go false c h = go_on (ends_comment star) (ends_comment (b == 42)) b bs n (comment_end (b == 42) (suc n) bs) (refl, λ p. rw c refl) h

pub run_reads : (f : ℕ → Bool) (bs : List ℕ) → Reads (all_are f) (Some (run f 0 bs)) bs
run_reads f bs = found_reads (all_are f) (Some (run f 0 bs)) bs (run_found f bs 0)

pub number_reads : (before : ℕ) (bs : List ℕ) → Reads (all_go_on before) (Some (number_run before 0 bs)) bs
number_reads before bs = found_reads (all_go_on before) (Some (number_run before 0 bs)) bs (number_found bs before 0)

pub partner_reads : (quote : ℕ) (bs : List ℕ) → Reads (closes quote false) (partner quote false 0 bs) bs
partner_reads quote bs = found_reads (closes quote false) (partner quote false 0 bs) bs (partner_found quote bs false 0)

pub comment_reads : (bs : List ℕ) → Reads (ends_comment false) (comment_end false 0 bs) bs
comment_reads bs = found_reads (ends_comment false) (comment_end false 0 bs) bs (comment_found bs false 0)

-- the same behind one more byte
pub reads_behind : (test next : List ℕ → Bool) (b : ℕ) (bs : List ℕ) (o : Option ℕ) → Steps test next b → Reads next o bs → Reads test (one_more o) (b ∷ bs)
reads_behind test next b bs None step h = go_on test next b bs 0 None step h
reads_behind test next b bs (Some m) step h = rw (add-one m) (step.1 (take m bs) ∙ h.0, longer)
  where
    longer : (p rest : List ℕ) → b ∷ bs ≡ p ++ rest → test p ≡ true → length p ≤ suc m
    longer [] rest e t = omega arith
    longer (x ∷ p) rest e t =
        let same : x ≡ b = cc in
        let less : length p ≤ m = h.1 p rest (cc) (sym (step.1 p) ∙ rw same at t) in
        omega arith

pub quoted_reads : (quote : ℕ) (bs : List ℕ) → Reads (is_quoted quote) (quoted quote bs) bs
quoted_reads quote [] = never_empty (is_quoted quote) refl
quoted_reads quote (b ∷ bs) = go (b == quote) refl (partner_reads quote bs)
  where
    go : (t : Bool) → (b == quote) ≡ t → Reads (closes quote false) (partner quote false 0 bs) bs → Reads (is_quoted quote) (cond t (one_more (partner quote false 0 bs)) None) (b ∷ bs)
    go true c h = reads_behind (is_quoted quote) (closes quote false) b bs (partner quote false 0 bs) (refl, λ p. rw c refl) h
    go false c h = stop (is_quoted quote) b bs (refl, λ p. rw c refl)

pub utf8_reads : (bs : List ℕ) → Reads is_utf8_quoted (utf8_quoted bs) bs
utf8_reads [] = never_empty is_utf8_quoted refl
utf8_reads (b ∷ bs) = go (b == 56) refl (quoted_reads 34 bs)
  where
    go : (t : Bool) → (b == 56) ≡ t → Reads (is_quoted 34) (quoted 34 bs) bs → Reads is_utf8_quoted (cond t (one_more (quoted 34 bs)) None) (b ∷ bs)
    go true c h = reads_behind is_utf8_quoted (is_quoted 34) b bs (quoted 34 bs) (refl, λ p. rw c refl) h
    go false c h = stop is_utf8_quoted b bs (refl, λ p. rw c refl)

-- Prefixes of the same bytes.
pub heads : (p rest q others : List ℕ) (f g : ℕ → Bool) → p ++ rest ≡ q ++ others → ((x : ℕ) → f x ≡ true → g x ≡ true → ⊥) → starts f p ≡ true → starts g q ≡ true → ⊥
heads [] rest q others f g e h a b = absurd (cc)
heads (x ∷ p) rest [] others f g e h a b = absurd (cc)
heads (x ∷ p) rest (y ∷ q) others f g e h a b = let same : x ≡ y = cc in h y (rw same at a) b

pub starts_prefix : (p rest bs : List ℕ) (f : ℕ → Bool) → bs ≡ p ++ rest → starts f p ≡ true → starts f bs ≡ true
starts_prefix [] rest bs f e h = absurd (cc)
starts_prefix (x ∷ p) rest bs f e h = rw e h

-- where all of one prefix passes and not all of another, it is shorter
pub all_shorter : (f : ℕ → Bool) (p q rest others : List ℕ) → p ++ rest ≡ q ++ others → all_are f p ≡ true → all_are f q ≡ false → length p ≤ length q
all_shorter f [] q rest others e a b = omega arith
all_shorter f (x ∷ p) [] rest others e a b = absurd (cc)
all_shorter f (x ∷ p) (y ∷ q) rest others e a b =
    let same : x ≡ y = cc in
    let passes = both (f x) (all_are f p) a in
    let less : length p ≤ length q = all_shorter f p q rest others (cc) passes.1 (rw (rw same at passes.0) at b) in
    omega arith

-- a comment that stays open up to here hasn't ended before
pub open_shorter : (star : Bool) (p q rest others : List ℕ) → p ++ rest ≡ q ++ others → stays_open star p ≡ true → ends_comment star q ≡ true → length p ≤ length q
open_shorter star [] q rest others e a b = omega arith
open_shorter star (x ∷ p) [] rest others e a b = absurd (cc)
open_shorter star (x ∷ p) (y ∷ q) rest others e a b = go (star && (x == 47)) refl (λ h k. open_shorter (x == 42) p q rest others (cc) h k)
  where
    same : x ≡ y
    same = cc

    go : (t : Bool) → (star && (x == 47)) ≡ t → (stays_open (x == 42) p ≡ true → ends_comment (x == 42) q ≡ true → length p ≤ length q) → suc (length p) ≤ suc (length q)
    go true c ih = out (stays_open star (x ∷ p)) (rw c refl) a
    go false c ih =
        let less : length p ≤ length q = ih (rw c at a) (rw c at (rw (← same) at b)) in
        omega arith

-- a comment without its end stays open
pub stays_open_none : (star : Bool) (n : ℕ) (bs : List ℕ) → comment_end star n bs ≡ None → stays_open star bs ≡ true
stays_open_none star n [] h = refl
stays_open_none star n (b ∷ bs) h = go (star && (b == 47)) h (stays_open_none (b == 42) (suc n) bs)
  where
    go : (t : Bool) → cond t (Some (suc n)) (comment_end (b == 42) (suc n) bs) ≡ None → (comment_end (b == 42) (suc n) bs ≡ None → stays_open (b == 42) bs ≡ true) →
        cond t false (stays_open (b == 42) bs) ≡ true
    go true h ih = absurd (cc)
    go false h ih = ih h
