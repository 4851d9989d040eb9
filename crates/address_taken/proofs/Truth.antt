-- Laws of truth values.
use Rattle.std.proofs.Common.{◌≡◌, ◌∙◌, Bool, true, false, not, ◌&&◌, ◌||◌, refl, sym, ap, true≢false}

pub or_past : (a b s : Bool) → (a || (b || s)) ≡ ((a || b) || s)
or_past true b s = refl
or_past false b s = refl

pub row_step : (t e u d l : Bool) → (t || (not e && (u || (not d && l)))) ≡ ((t || (not e && u)) || (not (e || d) && l))
row_step true e u d l = refl
row_step false true u d l = refl
row_step false false u d l = refl

pub object_step : (e o u d l : Bool) → (not e && (o || (u || (not d && l)))) ≡ ((not e && (o || u)) || (not (e || d) && l))
object_step true o u d l = refl
object_step false true u d l = refl
object_step false false u d l = refl

pub object_answer : (o u d l : Bool) → ((o || (u || (not d && l))) || l) ≡ (o || (u || l))
object_answer true u d l = refl
object_answer false true d l = refl
object_answer false false true l = refl
object_answer false false false true = refl
object_answer false false false false = refl

pub settled : (u d l : Bool) → l ≡ false → (u || (not d && l)) ≡ u
settled true d l h = refl
settled false true l h = refl
settled false false l h = h

-- what was hidden is marked again
pub back : (u d h f : Bool) → ((not d && f) || h) ≡ (f || false) → (h || (u || (not d && (not d && f)))) ≡ (u || f)
back true d true f e = refl
back true d false f e = refl
back false true true true e = refl
back false true true false e = absurd (true≢false e)
back false true false true e = absurd (true≢false (sym e))
back false true false false e = refl
back false false true true e = refl
back false false true false e = absurd (true≢false e)
back false false false f e = refl

pub back_around : (u d h f l : Bool) → ((not d && f) || h) ≡ (f || false) → (h || (u || (not d && (l || (not d && f))))) ≡ ((u || (not d && l)) || f)
back_around true d true f l e = refl
back_around true d false f l e = refl
back_around false true true true l e = refl
back_around false true true false l e = absurd (true≢false e)
back_around false true false true l e = absurd (true≢false (sym e))
back_around false true false false l e = refl
back_around false false true f true e = refl
back_around false false false f true e = refl
back_around false false true true false e = refl
back_around false false true false false e = absurd (true≢false e)
back_around false false false f false e = refl

pub three : (a b c o p q r : Bool) → p ≡ (b || o) → q ≡ (a || p) → r ≡ (c || q) → r ≡ ((c || (a || b)) || o)
three a b c o p q r e f g = g ∙ ap (λ t. c || t) f ∙ ap (λ t. c || (a || t)) e ∙ ap (λ t. c || t) (or_past a b o) ∙ or_past c (a || b) o

pub two : (a b o q r : Bool) → q ≡ (b || o) → r ≡ (a || q) → r ≡ ((a || b) || o)
two a b o q r f g = g ∙ ap (λ t. a || t) f ∙ or_past a b o

pub or_false : (a b : Bool) → b ≡ false → (a || b) ≡ a
or_false true b e = refl
or_false false b e = e

-- a statement that declares nothing
pub beside : (alone d u o k : Bool) → d ≡ false → k ≡ (u || o) → k ≡ (u || (not (not alone && d) && o))
beside true d u o k e h = h
beside false true u o k e h = absurd (true≢false e)
beside false false u o k e h = h
