-- What the code's steps say of what is left.
use Rattle.std.proofs.Common.{◌≡◌, ◌∙◌, ℕ, zero, suc, ◌<◌, false, List, [], ◌∷◌, length, Option, Result, Ok, Err, IfOk, refl, ap, sym, arith}
use Rattle.std.proofs.lemmas.Bool.{lt-leb}
use Rattle.std.specs.declared.alloc.AllocError.{AllocError}
use Rattle.lane_core.specs.declared.number.Num.{Num}
use Rattle.c_text.specs.declared.tokens.Token.{Token}
use Rattle.c_conditions.specs.declared.signs.Infix.{Infix}
use Rattle.c_conditions.specs.declared.signs.Link.TheVariants as links
use Rattle.c_conditions.specs.declared.reading.Pending.{Pending}
use Rattle.c_conditions.specs.declared.reading.Step.{Step}
use Rattle.c_conditions.specs.declared.reading.Step.TheVariants as steps
use Rattle.c_conditions.specs.Signs.{link_of}
use Rattle.c_conditions.specs.Levels.{goes_on, first_link}
use Rattle.c_conditions.specs.Stack.{Goes}

goes_step : (a b : Option Num) (s : Step) (stack : List Pending) → a ≡ b → Goes b s stack → Goes a s stack
goes_step a b (steps.Done n) stack e h = e ∙ h
goes_step a b (steps.Next left) stack e h = e ∙ h

-- what is answered of one value is answered of the same one
pub goes_along : (a b : Option Num) (r : Result Step AllocError) (stack : List Pending) → a ≡ b → IfOk r (λ s. Goes b s stack) → IfOk r (λ s. Goes a s stack)
goes_along a b (Ok s) stack e h = goes_step a b s stack e h
goes_along a b (Err f) stack e h = tt

pub no_tokens : (ts : List Token) → length ts ≡ 0 → ts ≡ []
no_tokens [] h = refl
no_tokens (t ∷ ts) h = absurd (omega (arith, h))

-- where the first token doesn't go on

pub unlinked_end : (k : ℕ) (all : List Token) → all ≡ [] → goes_on k (first_link all) ≡ false
unlinked_end k all e = ap (λ x. goes_on k (first_link x)) e

pub unlinked_infix : (k l : ℕ) (op : Infix) (t : Token) (ts all : List Token) → all ≡ t ∷ ts → links.Infix l op ≡ link_of t → l < k →
    goes_on k (first_link all) ≡ false
unlinked_infix k l op t ts all e h g = ap (λ x. goes_on k (first_link x)) e ∙ sym (ap (goes_on k) h) ∙ lt-leb k l g

pub unlinked_question : (k : ℕ) (t : Token) (ts all : List Token) → all ≡ t ∷ ts → links.Question ≡ link_of t → (k ≡ 0 → ⊥) → goes_on k (first_link all) ≡ false
unlinked_question k t ts all e h g = ap (λ x. goes_on k (first_link x)) e ∙ sym (ap (goes_on k) h) ∙ lt-leb k 0 (above k g) where
  above : (n : ℕ) → (n ≡ 0 → ⊥) → 0 < n
  above zero h = absurd (h refl)
  above (suc n) h = omega arith

pub unlinked_nothing : (k : ℕ) (t : Token) (ts all : List Token) → all ≡ t ∷ ts → links.Nothing ≡ link_of t → goes_on k (first_link all) ≡ false
unlinked_nothing k t ts all e h = ap (λ x. goes_on k (first_link x)) e ∙ sym (ap (goes_on k) h)
