-- Steps of the code, as what the uses that are being read still ask for.
use Rattle.std.proofs.Common.{◌≡◌, ◌∙◌, ℕ, ◌+◌, ◌≤◌, Bool, true, false, cond, List, [], ◌∷◌, ◌++◌, ◌<◌, length, drop, slice_get, Option, Some, None, Ok, Err, refl, ap, sym, inl, inr, append_assoc, arith}
use Rattle.std.proofs.lemmas.List.{append-nil, drop_more}
use Rattle.std.proofs.lemmas.Option.{slice_get_within, slice_get_cases, get_or_from_slice_get, none-some, same_Some}
use Rattle.std.proofs.Math.ListN.{drop_of_length-le}
use Rattle.c_text.specs.declared.tokens.Token.{Token}
use Rattle.c_text.specs.declared.refusals.Refusal.{Refusal}
use Rattle.c_macros.specs.Definition.{Definition, Macros}
use Rattle.c_macros.specs.Arguments.{Sight, Plain, Wrong, Use, sight}
use Rattle.c_text.specs.Details.{refusal_of}
use Rattle.c_macros.specs.Expansion.{Made, Expands, and_then, behind, outermost, begun, each, replaced, bad_macro, filled, expand_in, bodies_in}
use Rattle.c_macros.specs.Stack.{Frame, fresh, top_of, with_done, read_next, read_both, next_of, passed, size, ended, pending, resumed}
use Rattle.c_macros.specs.Gives.{frame_size, stack_size}
use Rattle.c_macros.proofs.Fuel.{and_then-same, and_then-assoc, expand-first, expand-none}

behind-twice : (a b : List Token) (made : Made (List Token)) → and_then (and_then made (behind b)) (behind a) ≡ and_then made (behind (a ++ b))
behind-twice a b (Ok (ts, w)) = ap (λ x. Ok (x, w)) (sym (append_assoc a b ts))
behind-twice a b (Err r) = refl

behind-nothing : (made : Made (List Token)) → and_then made (behind []) ≡ made
behind-nothing (Ok (ts, w)) = refl
behind-nothing (Err r) = refl

pub each-none : (go : Expands) (used : List Bool) (w : ℕ) → each go used [] w ≡ Ok ([], w)
each-none go [] w = refl
each-none go (u ∷ us) w = refl

drop_got : {A : Type 0} (xs : List A) (n : ℕ) (x : A) → slice_get xs n ≡ Some x → drop n xs ≡ x ∷ drop (n + 1) xs
drop_got xs n x e = drop_more xs n x (slice_get_within xs n x e) ∙ ap (λ y. y ∷ drop (n + 1) xs) (get_or_from_slice_get xs n x x e)

drop_past : {A : Type 0} (xs : List A) (n : ℕ) → slice_get xs n ≡ None → drop n xs ≡ []
drop_past xs n e = elim ((slice_get_cases xs n).1) [ inl p ↦ absurd (none-some p.0 (sym e ∙ p.2)) | inr p ↦ drop_of_length-le xs p.0 ]

module _ (limit : ℕ) (macros : Macros) (depth : ℕ) (uses : List Token) where
  -- one more use, the innermost
  pub resumed-push : (fs : List Frame) (f : Frame) (made : Made (List Token)) →
      resumed limit macros depth uses (fs ++ f ∷ []) made ≡ resumed limit macros depth uses fs (and_then made (λ x w. pending limit macros depth uses (with_done x f) w))
  resumed-push [] f made = refl
  resumed-push (g ∷ fs) f made = ap (λ m. and_then m (λ x w. pending limit macros depth uses (with_done x g) w)) (resumed-push fs f made)

  pub resumed-refused : (fs : List Frame) (r : Refusal) → resumed limit macros depth uses fs (Err r) ≡ Err r
  resumed-refused [] r = refl
  resumed-refused (g ∷ fs) r = ap (λ m. and_then m (λ x w. pending limit macros depth uses (with_done x g) w)) (resumed-refused fs r)

  first-is : (top : Option Token) (t : Token) (ts : List Token) (w : ℕ) (s : Sight) → s ≡ sight macros uses t ts →
      expand_in limit macros depth uses top (t ∷ ts) w ≡ begun limit (bodies_in limit macros depth) uses (expand_in limit macros depth uses) top t ts s w
  first-is top t ts w s e =
      expand-first limit macros depth uses top t ts w ∙ ap (λ x. begun limit (bodies_in limit macros depth) uses (expand_in limit macros depth uses) top t ts x w) (sym e)

  -- a token that begins no use
  pub first-plain : (top : Option Token) (t : Token) (ts front : List Token) (w : ℕ) → Plain ≡ sight macros uses t ts →
      and_then (expand_in limit macros depth uses top (t ∷ ts) w) (behind front) ≡ and_then (expand_in limit macros depth uses top ts w) (behind (front ++ t ∷ []))
  first-plain top t ts front w e =
      ap (λ m. and_then m (behind front)) (first-is top t ts w Plain e) ∙
      behind-twice front (t ∷ []) (expand_in limit macros depth uses top ts w)

  pub first-wrong : (top : Option Token) (t : Token) (ts front : List Token) (w : ℕ) → Wrong ≡ sight macros uses t ts →
      and_then (expand_in limit macros depth uses top (t ∷ ts) w) (behind front) ≡ Err (refusal_of bad_macro t)
  first-wrong top t ts front w e = ap (λ m. and_then m (behind front)) (first-is top t ts w Wrong e)

  pub first-use : (top : Option Token) (t : Token) (ts front : List Token) (w : ℕ) (m : Definition) (args : List (List Token)) (rest : List Token) → Use m args rest ≡ sight macros uses t ts →
      and_then (expand_in limit macros depth uses top (t ∷ ts) w) (behind front) ≡ pending limit macros depth uses (fresh top t m args rest front) w
  first-use top t ts front w m args rest e =
      ap (λ m. and_then m (behind front)) (first-is top t ts w (Use m args rest) e) ∙
      and_then-assoc (each (expand_in limit macros depth uses (Some (outermost top t))) m.used args w) _ (behind front) ∙
      and_then-same (each (expand_in limit macros depth uses (Some (outermost top t))) m.used args w) _ _ (λ xs v.
      and_then-assoc (replaced limit (bodies_in limit macros depth) uses (outermost top t) t (filled t.place xs m.body) v) _ (behind front) ∙
      and_then-same (replaced limit (bodies_in limit macros depth) uses (outermost top t) t (filled t.place xs m.body) v) _ _ (λ ys z. behind-twice front ys (expand_in limit macros depth uses top rest z)))

  read-next : (top : Option Token) (used : Bool) (a : List Token) (w : ℕ) →
      cond used (expand_in limit macros depth uses top a w) (Ok ([], w)) ≡ and_then (expand_in limit macros depth uses top (read_next used a) w) (behind [])
  read-next top true a w = sym (behind-nothing (expand_in limit macros depth uses top a w))
  read-next top false a w = ap (λ m. and_then m (behind [])) (sym (expand-none limit macros depth uses top w))

  -- what a frame asks for, were these its parameters and arguments that are left
  abbrev pend : Frame → List Bool → List (List Token) → ℕ → Made (List Token)
  pend f us args w = and_then (each (expand_in limit macros depth uses (Some (top_of f))) us args w) (λ xs z. ended limit macros depth uses f (f.done ++ xs) z)

  rejoined : (f : Frame) (x : List Token) (v : ℕ) →
      and_then (and_then (each (expand_in limit macros depth uses (Some (top_of f))) (drop (f.next + 1) f.definition.used) (drop (f.next + 1) f.arguments) v) (λ xs z. Ok (x ∷ xs, z)))
      (λ xs z. ended limit macros depth uses f (f.done ++ xs) z) ≡
      pending limit macros depth uses (with_done x (passed f)) v
  rejoined f x v =
      let rest = each (expand_in limit macros depth uses (Some (top_of f))) (drop (f.next + 1) f.definition.used) (drop (f.next + 1) f.arguments) v in
      and_then-assoc rest (λ xs z. Ok (x ∷ xs, z)) (λ xs z. ended limit macros depth uses f (f.done ++ xs) z) ∙
      and_then-same rest _ _ (λ xs z. ap (λ all. ended limit macros depth uses f all z) (sym (append_assoc f.done (x ∷ []) xs)))

  pending-both : (fs : List Frame) (f : Frame) (u : Bool) (a : List Token) (w : ℕ) → slice_get f.definition.used f.next ≡ Some u → slice_get f.arguments f.next ≡ Some a →
      resumed limit macros depth uses fs (pending limit macros depth uses f w) ≡
      resumed limit macros depth uses (fs ++ passed f ∷ []) (and_then (expand_in limit macros depth uses (Some (top_of f)) (read_next u a) w) (behind []))
  pending-both fs f u a w e g =
      let first = and_then (expand_in limit macros depth uses (Some (top_of f)) (read_next u a) w) (behind []) in
      let us = drop (f.next + 1) f.definition.used in
      let args = drop (f.next + 1) f.arguments in
      ap (resumed limit macros depth uses fs)
      (ap (λ x. pend f x (drop f.next f.arguments) w) (drop_got f.definition.used f.next u e) ∙ ap (λ x. pend f (u ∷ us) x w) (drop_got f.arguments f.next a g) ∙
      ap (λ m. and_then (and_then m (λ x v. and_then (each (expand_in limit macros depth uses (Some (top_of f))) us args v) (λ xs z. Ok (x ∷ xs, z)))) (λ xs z. ended limit macros depth uses f (f.done ++ xs) z)) (read-next (Some (top_of f)) u a w) ∙
      and_then-assoc first _ _ ∙
      and_then-same first _ _ (λ x v. rejoined f x v)) ∙
      sym (resumed-push fs (passed f) first)

  -- the next argument is to be read
  pub pending-next : (fs : List Frame) (f : Frame) (w : ℕ) (seg : List Token) → next_of f ≡ Some seg →
      resumed limit macros depth uses fs (pending limit macros depth uses f w) ≡
      resumed limit macros depth uses (fs ++ passed f ∷ []) (and_then (expand_in limit macros depth uses (Some (top_of f)) seg w) (behind []))
  pending-next fs f w seg e = next_cases (slice_get f.definition.used f.next) (slice_get f.arguments f.next) refl refl e where
    next_cases : (o : Option Bool) (p : Option (List Token)) → slice_get f.definition.used f.next ≡ o → slice_get f.arguments f.next ≡ p → read_both o p ≡ Some seg →
        resumed limit macros depth uses fs (pending limit macros depth uses f w) ≡
        resumed limit macros depth uses (fs ++ passed f ∷ []) (and_then (expand_in limit macros depth uses (Some (top_of f)) seg w) (behind []))
    next_cases (Some u) (Some a) g h k =
        pending-both fs f u a w g h ∙ ap (λ x. resumed limit macros depth uses (fs ++ passed f ∷ []) (and_then (expand_in limit macros depth uses (Some (top_of f)) x w) (behind []))) (same_Some (read_next u a) seg k)
    next_cases (Some u) None g h k = absurd (none-some seg k)
    next_cases None p g h k = absurd (none-some seg k)

  -- no parameter is left, or no argument
  pub pending-end : (f : Frame) (w : ℕ) → next_of f ≡ None → pending limit macros depth uses f w ≡ ended limit macros depth uses f f.done w
  pending-end f w e = end_cases (slice_get f.definition.used f.next) (slice_get f.arguments f.next) refl refl e where
    end_cases : (o : Option Bool) (p : Option (List Token)) → slice_get f.definition.used f.next ≡ o → slice_get f.arguments f.next ≡ p → read_both o p ≡ None →
        pending limit macros depth uses f w ≡ ended limit macros depth uses f f.done w
    end_cases (Some u) (Some a) g h k = absurd (none-some (read_next u a) (sym k))
    end_cases (Some u) None g h k =
        ap (λ args. pend f (drop f.next f.definition.used) args w) (drop_past f.arguments f.next h) ∙
        ap (λ m. and_then m (λ xs z. ended limit macros depth uses f (f.done ++ xs) z)) (each-none (expand_in limit macros depth uses (Some (top_of f))) (drop f.next f.definition.used) w) ∙
        ap (λ all. ended limit macros depth uses f all w) (append-nil f.done)
    end_cases None p g h k =
        ap (λ us. pend f us (drop f.next f.arguments) w) (drop_past f.definition.used f.next g) ∙ ap (λ all. ended limit macros depth uses f all w) (append-nil f.done)

-- what is read of an argument is no longer than it
read_short : (u : Bool) (a : List Token) → length (read_next u a) ≤ length a
read_short true a = omega arith
read_short false a = omega arith

-- a step shortens what is left
pub next_shorter : (f : Frame) (seg : List Token) → next_of f ≡ Some seg → frame_size (passed f) + length seg < frame_size f
next_shorter f seg e = short_cases (slice_get f.definition.used f.next) (slice_get f.arguments f.next) refl refl e where
  short_cases : (o : Option Bool) (p : Option (List Token)) → slice_get f.definition.used f.next ≡ o → slice_get f.arguments f.next ≡ p → read_both o p ≡ Some seg →
      frame_size (passed f) + length seg < frame_size f
  short_cases (Some u) (Some a) g h k =
      omega (arith, read_short u a, ap length (same_Some (read_next u a) seg k), ap size (drop_got f.arguments f.next a h))
  short_cases (Some u) None g h k = absurd (none-some seg k)
  short_cases None p g h k = absurd (none-some seg k)

pub stack_size-push : (fs : List Frame) (f : Frame) → stack_size (fs ++ f ∷ []) ≡ stack_size fs + frame_size f
stack_size-push [] f = omega arith
stack_size-push (g ∷ fs) f = omega (arith, stack_size-push fs f)
