-- The bytes that a text shows, read in one pass.
use Rattle.std.proofs.Common.{◌≡◌, ℕ, List, [], ◌∷◌, ◌++◌, length, Bool, true, false, cond, refl, sym, ◌∙◌, ap, arith, append_assoc, append-nil}
use Rattle.std.specs.Prelude.{◌==◌, ◌&&◌, ◌||◌}
use Rattle.std.proofs.lemmas.Bool.{eqb-true}
use Rattle.c_text.specs.declared.source.Placed.{Placed}
use Rattle.c_text.specs.Source.{at_place, line_behind, col_behind, placed, begins_with, line_ends, spliced}
use Rattle.c_text.specs.Forms.{starts}
use Rattle.c_text.specs.Splicing.{is_line_feed, begins_line_end, is_left_out, splices, kept, shown_from}

or_true : (x : Bool) → (x || true) ≡ true
or_true true = refl
or_true false = refl

or_false : (x : Bool) → (x || false) ≡ x
or_false true = refl
or_false false = refl

and_second : (x y : Bool) → (x && y) ≡ true → y ≡ true
and_second true y h = h
and_second false y h = absurd (cc)

placed_begins : (line col : ℕ) (bs : List ℕ) → begins_with 10 (placed line col bs) ≡ starts is_line_feed bs
placed_begins line col [] = refl
placed_begins line col (b ∷ bs) = refl

feed_first : (line col : ℕ) (bs : List ℕ) → starts is_line_feed bs ≡ true → begins_with 10 (line_ends (placed line col bs)) ≡ true
feed_first line col [] h = cc
feed_first line col (b ∷ bs) h = let is : b ≡ 10 = eqb-true b 10 h in rw is refl

line_end_begins : (line col : ℕ) (bs : List ℕ) → begins_with 10 (line_ends (placed line col bs)) ≡ begins_line_end bs
line_end_begins line col [] = refl
line_end_begins line col (b ∷ bs) =
    rw (placed_begins (line_behind line b) (col_behind col b) bs)
    (go ((b == 13) && starts is_line_feed bs) (line_ends (placed (line_behind line b) (col_behind col b) bs))
    (λ e. feed_first (line_behind line b) (col_behind col b) bs (and_second (b == 13) (starts is_line_feed bs) e)))
  where
    go : (t : Bool) (others : List Placed) → (t ≡ true → begins_with 10 others ≡ true) →
        begins_with 10 (cond t others (at_place line col b ∷ others)) ≡ ((b == 10) || t)
    go true others h = h refl ∙ sym (or_true (b == 10))
    go false others h = sym (or_false (b == 10))

joined : (t v : Bool) (c : Placed) (others shown : List Placed) → spliced v others ≡ shown →
    cond t (spliced v others) (c ∷ spliced v others) ≡ kept t c ++ shown
joined true v c others shown h = h
joined false v c others shown h = ap (λ zs. c ∷ zs) h

shown_step : (line col : ℕ) (behind : Bool) (b : ℕ) (bs : List ℕ) →
    ((v : Bool) → spliced v (line_ends (placed (line_behind line b) (col_behind col b) bs)) ≡ shown_from (line_behind line b) (col_behind col b) v bs) →
    spliced behind (line_ends (placed line col (b ∷ bs))) ≡ shown_from line col behind (b ∷ bs)
unfolding shown_from
shown_step line col behind b bs ih =
    rw (placed_begins (line_behind line b) (col_behind col b) bs)
    (go ((b == 13) && starts is_line_feed bs) (line_ends (placed (line_behind line b) (col_behind col b) bs)) ih (line_end_begins (line_behind line b) (col_behind col b) bs))
  where
    go : (t : Bool) (others : List Placed) →
        ((v : Bool) → spliced v others ≡ shown_from (line_behind line b) (col_behind col b) v bs) → begins_with 10 others ≡ begins_line_end bs →
        spliced behind (cond t others (at_place line col b ∷ others)) ≡
        kept (t || (((b == 92) && begins_line_end bs) || (behind && (b == 10)))) (at_place line col b) ++
        shown_from (line_behind line b) (col_behind col b) (cond t behind (b == 92)) bs
    go true others same begins = same behind
    go false others same begins =
        rw begins (joined (((b == 92) && begins_line_end bs) || (behind && (b == 10))) (b == 92) (at_place line col b) others _ (same (b == 92)))

shown_once : (line col : ℕ) (behind : Bool) (bs : List ℕ) → spliced behind (line_ends (placed line col bs)) ≡ shown_from line col behind bs
unfolding shown_from
shown_once line col behind [] = refl
shown_once line col behind (b ∷ bs) = shown_step line col behind b bs (λ v. shown_once (line_behind line b) (col_behind col b) v bs)

-- the whole is what was kept so far, and what is shown behind that
abbrev pub IsFront : List ℕ → List Placed → ℕ → ℕ → Bool → List ℕ → Type 0
IsFront text out line col behind rest = spliced false (line_ends (placed 1 1 text)) ≡ out ++ shown_from line col behind rest

pub front_begin : (text : List ℕ) → IsFront text [] 1 1 false text
front_begin text = shown_once 1 1 false text

front_step : (text rest bs : List ℕ) (out : List Placed) (line col b : ℕ) (behind : Bool) → IsFront text out line col behind rest → rest ≡ b ∷ bs →
    IsFront text (out ++ kept (is_left_out behind b bs) (at_place line col b)) (line_behind line b) (col_behind col b) (splices behind b bs) bs
unfolding shown_from
front_step text rest bs out line col b behind h is =
    h ∙ rw is (sym (append_assoc out (kept (is_left_out behind b bs) (at_place line col b)) (shown_from (line_behind line b) (col_behind col b) (splices behind b bs) bs)))

pub front_next : (text rest bs : List ℕ) (out new : List Placed) (line col b next_line next_col : ℕ) (behind next : Bool) → IsFront text out line col behind rest → rest ≡ b ∷ bs →
    new ≡ out ++ kept (is_left_out behind b bs) (at_place line col b) → next_line ≡ line_behind line b → next_col ≡ col_behind col b → next ≡ splices behind b bs →
    IsFront text new next_line next_col next bs
front_next text rest bs out new line col b next_line next_col behind next h is grown lines cols nexts = rw (grown, lines, cols, nexts) (front_step text rest bs out line col b behind h is)

pub front_end : (text rest : List ℕ) (out : List Placed) (line col : ℕ) (behind : Bool) → IsFront text out line col behind rest → length rest ≡ 0 →
    out ≡ spliced false (line_ends (placed 1 1 text))
unfolding shown_from
front_end text [] out line col behind h none = sym (h ∙ append-nil out)
front_end text (b ∷ rest) out line col behind h none = absurd (omega arith)
