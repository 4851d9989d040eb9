-- Laws of operands that are variables and constants alone: reading them changes nothing.
use Rattle.std.proofs.Common.{◌≡◌, ℕ, zero, suc, List, [], ◌∷◌, true, Option, Some, None, refl, sym, ap, ◌∙◌, subst}
use Rattle.std.proofs.lemmas.Bool.{and_parts}
use Rattle.c_text.specs.declared.tokens.Place.{Place}
use Rattle.c_tree.specs.declared.types.CType.{CType}
use Rattle.c_tree.specs.Tree.{Tree, Trees, Node, Const, Name, NoTrees, More}
use Rattle.c_memory.specs.declared.value.Value.{Value}
use Rattle.c_memory.specs.MeaningObjects.{value_at}
use Rattle.c_memory.specs.MeaningState.{Location, Apart, Halves, InBlock, Binding, State, Out, Done, Turns, Undefined, then_do, ◌>>=◌, pure, defined, found}
use Rattle.c_memory.specs.Meaning.{Calls, expression, values, type_of, object_value, array_value}
use Rattle.seq_core.specs.InPlace.{Readable}
use Rattle.seq_core.specs.Listed.{listed}
use Rattle.simulation.specs.Alike.{Given, Arguments, Objects, Alike, After, Ends}
use Rattle.written_forms.specs.TypedValues.{TypedValues}
use Rattle.written_forms.specs.Seen.{Sees}
use Rattle.written_forms.specs.Moved.{Plans, is_plain, are_plain, all_true, moved, moved_all}
use Rattle.written_forms.specs.Ready.{types_of}
use Rattle.written_forms.proofs.Arguments.{AllAlike}

-- a step that leaves the state, if it is defined
abbrev pub Stays : {A : Type 0} → State → Out A → Type 0
Stays x (Done a y) = y ≡ x
Stays x Turns = ⊥
Stays x Undefined = Unit {0}

defined_stays : {A : Type 0} (o : Option A) (x : State) → Stays x (defined o x)
defined_stays None x = tt
defined_stays (Some a) x = refl

location_stays : (t : CType) (l : Location) (x : State) → Stays x (value_at t l x)
location_stays t (Apart (Some v)) x = refl
location_stays t (Apart None) x = tt
location_stays t (Halves a b) x = tt
location_stays t (InBlock k) x = defined_stays _ x

array_stays : (l : Location) (x : State) → Stays x (array_value l x)
array_stays (Apart v) x = tt
array_stays (Halves a b) x = tt
array_stays (InBlock k) x = refl

object_stays : (t : CType) (b : Binding) (x : State) → Stays x (object_value t b x)
object_stays (CType.Array e n k) b x = array_stays b.location x
object_stays (CType.Int s) b x = location_stays b.ty b.location x
object_stays CType.M128 b x = location_stays b.ty b.location x
object_stays CType.M256 b x = location_stays b.ty b.location x
object_stays (CType.Neon l w) b x = location_stays b.ty b.location x
object_stays CType.Pair b x = location_stays b.ty b.location x
object_stays (CType.Pointer e k) b x = location_stays b.ty b.location x
object_stays CType.Void b x = location_stays b.ty b.location x

given_stays : (o : Out Value) (x : State) → Stays x o → Stays x (then_do o (λ v. λ s. Done (Some v) s))
given_stays (Done a y) x h = h
given_stays Turns x h = h
given_stays Undefined x h = h

found_stays : (o : Option Binding) (x : State) → Stays x (then_do (then_do (defined o x) (λ b. object_value b.ty b)) (λ v. λ s. Done (Some v) s))
found_stays None x = tt
found_stays (Some b) x = given_stays (object_value b.ty b x) x (object_stays b.ty b x)

pub plain_stays : (a : Tree) (c : Calls) (x : State) → is_plain a ≡ true → Stays x (expression a c x)
plain_stays (Node p t (Name y)) c x h = found_stays (found y x.objects) x
plain_stays (Node p t (Const n)) c x h = refl
plain_stays (Node p t _) c x h = absurd (cc)

moved_stays : (plans : Plans) (sees : Sees) (a : Tree) (d : Calls) (x : State) → is_plain a ≡ true → Stays x (expression (moved plans sees a) d x)
moved_stays plans sees (Node p t (Name y)) d x h = found_stays (found y x.objects) x
moved_stays plans sees (Node p t (Const n)) d x h = refl
moved_stays plans sees (Node p t _) d x h = absurd (cc)

-- each reads as this value
abbrev pub Read : Calls → Trees → List Value → State → Type 0
Read d NoTrees [] y = Unit {0}
Read d (More b others) (w ∷ ws) y = (expression b d y ≡ Done (Some w) y) × Read d others ws y
Read d _ _ y = ⊥

-- how the operands of both end
abbrev pub PlainlyEnded : Calls → Trees → Trees → State → State → Out (List Value) → Type 0
PlainlyEnded d all others x y Undefined = Unit {0}
PlainlyEnded d all others x y Turns = ⊥
PlainlyEnded d all others x y (Done vs u) = (u ≡ x) × ((ws : List Value) × Arguments TypedValues (types_of all) vs ws × Read d others ws y)

plain_step : (n : ℕ) (E : Objects) (c d : Calls) (a b : Tree) (rest others : Trees) (x y : State) (o r : Out (Option Value)) → expression b d y ≡ r → Stays x o → Stays y r
    → Ends (Given TypedValues (type_of a)) (After n E y) o r → PlainlyEnded d rest others x y (values rest c x)
    → PlainlyEnded d (More a rest) (More b others) x y (then_do (then_do o defined) (λ v. values rest c >>= (λ vs. pure (v ∷ vs))))
plain_step n E c d a b rest others x y Undefined r e s t h k = tt
plain_step n E c d a b rest others x y Turns r e s t h k = absurd s
plain_step n E c d a b rest others x y (Done None u) r e s t h k = tt
plain_step n E c d a b rest others x y (Done (Some v) u) (Done (Some w) z) e s t h k =
    subst (λ i. PlainlyEnded d (More a rest) (More b others) x y (then_do (values rest c i) (λ vs. λ j. Done (v ∷ vs) j))) (sym s) (at (values rest c x) k)
  where
    at : (q : Out (List Value)) → PlainlyEnded d rest others x y q → PlainlyEnded d (More a rest) (More b others) x y (then_do q (λ vs. λ j. Done (v ∷ vs) j))
    at Undefined g = tt
    at Turns g = g
    at (Done vs u2) g = (g.0, (w ∷ g.1.0, (h.0, g.1.1), (e ∙ ap (Done (Some w)) t, g.1.2)))
plain_step n E c d a b rest others x y (Done (Some v) u) (Done None z) e s t h k = absurd h.0
plain_step n E c d a b rest others x y (Done (Some v) u) Turns e s t h k = absurd h
plain_step n E c d a b rest others x y (Done (Some v) u) Undefined e s t h k = absurd h

pub plain_ends : (n : ℕ) (E : Objects) (c d : Calls) (plans : Plans) (sees : Sees) (all : Trees) → are_plain all ≡ true → AllAlike n E c d plans sees all → (x y : State) → Alike n E x y
    → PlainlyEnded d all (moved_all plans sees all) x y (values all c x)
plain_ends n E c d plans sees NoTrees h k x y al = (refl, ([], tt, tt))
plain_ends n E c d plans sees (More a rest) h k x y al =
    let p = and_parts (is_plain a) (are_plain rest) h in
    plain_step n E c d a (moved plans sees a) rest (moved_all plans sees rest) x y (expression a c x) (expression (moved plans sees a) d y) refl (plain_stays a c x p.0)
    (moved_stays plans sees a d y p.0) (k.0.by x y al) (plain_ends n E c d plans sees rest p.1 k.1 x y al)

-- they may be read at any place
pub plainly_readable : (d : Calls) (place : Place) (all others : Trees) (ws : List Value) (y : State) → Read d others ws y → Readable d place (listed others) ws (all_true all) y
plainly_readable d place all NoTrees [] y h i v e f = absurd (cc)
plainly_readable d place (More a all) (More b others) (w ∷ ws) y h zero v e f = let same : w ≡ v = cc in h.0 ∙ ap (λ z. Done (Some z) y) same
plainly_readable d place (More a all) (More b others) (w ∷ ws) y h (suc i) v e f = plainly_readable d place all others ws y h.1 i v e f
plainly_readable d place NoTrees (More b others) (w ∷ ws) y h i v e f = absurd (cc)
plainly_readable d place all (More b others) [] y h i v e f = absurd h
plainly_readable d place all NoTrees (w ∷ ws) y h i v e f = absurd h
