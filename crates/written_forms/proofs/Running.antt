-- Laws of operands that run where a row's call stood: the simple ones may be read anywhere among them.
use Rattle.std.proofs.Common.{◌≡◌, ℕ, List, [], ◌∷◌, Bool, true, false, Option, Some, None, refl, arith, inl, inr, ◌⊎◌}
use Rattle.std.specs.Prelude.{replicate, pos}
use Rattle.std.proofs.Common.{rules}
use Rattle.lane_core.specs.declared.number.IntType.{IntType}
use Rattle.lane_core.specs.Register.{IsRegister}
use Rattle.scalar_core.specs.Numbers.{num_of}
use Rattle.c_memory.specs.Matching.{written_integer}
use Rattle.simulation.specs.WrittenLaws.{num_written}
use Rattle.c_tree.specs.declared.types.CType.{CType}
use Rattle.c_tree.specs.Tree.{Tree, Trees, NoTrees, More}
use Rattle.c_memory.specs.declared.value.Value.{Value}
use Rattle.c_memory.specs.MeaningState.{State, Out, Done, Turns, Undefined, then_do, ◌>>=◌, pure, defined}
use Rattle.c_memory.specs.Meaning.{Calls, expression, values, type_of}
use Rattle.simulation.specs.Alike.{Given, Arguments, Objects, Alike, After, Ends, Sim}
use Rattle.simulation.specs.Steps.{after_same}
use Rattle.simulation.specs.BlockLaws.{stays_on}
use Rattle.written_forms.specs.TypedValues.{TypedValues}
use Rattle.written_forms.specs.Ready.{IsCarried, AreCarried, types_of}

zero_typed : (s : IntType) → TypedValues (CType.Int s) (Value.Int (num_of s (pos 0))) (Value.Int (num_of (written_integer s) (pos 0)))
unfolding num_of
zero_typed s = (num_written s s (pos 0), refl)

zero_register : IsRegister 16 (replicate 16 0)
zero_register = record { size = refl; bytes = record { below = λ i. search (rules, arith) } }

module _ (n : ℕ) (E : Objects) (c d : Calls) where
  -- a simple operand and what it is written as: each has one value in all states that are alike, and leaves them
  pub record Known (t : CType) (a b : Tree) : Type 0 where
    pub v : Value
    pub w : Value
    pub values : TypedValues t v w
    pub first : (x y : State) → Alike n E x y → expression a c x ≡ Done (Some v) x
    pub second : (x y : State) → Alike n E x y → expression b d y ≡ Done (Some w) y

  -- a simple operand, or one that runs alike
  abbrev pub Operand : Bool → CType → Tree → Tree → Type 0
  Operand true t a b = Known t a b
  Operand false t a b = Sim n (Given TypedValues t) E E (expression a c) (expression b d)

  abbrev pub Operands : List Bool → Trees → Trees → Type 0
  Operands [] NoTrees NoTrees = Unit {0}
  Operands (f ∷ fs) (More a rest) (More b others) = Operand f (type_of a) a b × Operands fs rest others
  Operands _ _ _ = ⊥

  -- the state is alike to one of the source
  pub record Stated (y : State) : Type 0 where
    pub state : State
    pub alike : Alike n E state y

  -- simple operands have their values among these
  abbrev pub Agree : (fs : List Bool) (all others : Trees) → Operands fs all others → List Value → Type 0
  Agree [] NoTrees NoTrees k [] = Unit {0}
  Agree (true ∷ fs) (More a rest) (More b others) k (w ∷ ws) = (w ≡ k.0.w) × Agree fs rest others k.1 ws
  Agree (false ∷ fs) (More a rest) (More b others) k (w ∷ ws) = Agree fs rest others k.1 ws
  Agree _ _ _ k _ = ⊥

  -- the other written operands run in their order, and give these values
  abbrev pub Run : List Bool → Trees → List Value → State → State → Type 0
  Run [] NoTrees [] y z = Stated y × (y ≡ z)
  Run (true ∷ fs) (More b others) (w ∷ ws) y z = Run fs others ws y z
  Run (false ∷ fs) (More b others) (w ∷ ws) y z = Stated y × ((m : State) × (expression b d y ≡ Done (Some w) m) × Run fs others ws m z)
  Run _ _ _ y z = ⊥

  -- they run up to one that wants more turns than are left
  abbrev pub Stop : List Bool → Trees → List Value → State → Type 0
  Stop (true ∷ fs) (More b others) (w ∷ ws) y = Stop fs others ws y
  Stop (false ∷ fs) (More b others) (w ∷ ws) y =
      Stated y × ((expression b d y ≡ Turns) ⊎ ((m : State) × (expression b d y ≡ Done (Some w) m) × Stop fs others ws m))
  Stop _ _ _ y = ⊥

  -- values that the operands might have
  pub record Might (fs : List Bool) (all others : Trees) (k : Operands fs all others) (vs ws : List Value) : Type 0 where
    pub values : Arguments TypedValues (types_of all) vs ws
    pub agree : Agree fs all others k ws

  -- how the operands of both end, from a state of the second
  abbrev pub Ended : (fs : List Bool) (all others : Trees) → Operands fs all others → State → Out (List Value) → Type 0
  Ended fs all others k y Undefined = Unit {0}
  Ended fs all others k y Turns = (vs : List Value) × (ws : List Value) × Might fs all others k vs ws × Stop fs others ws y
  Ended fs all others k y (Done vs u) = (ws : List Value) × (z : State) × Might fs all others k vs ws × Run fs others ws y z × After n E y u z

  -- some values of each type that is moved
  some_values : (t : CType) → IsCarried t → (v : Value) × (w : Value) × TypedValues t v w
  some_values (CType.Int s) h = (Value.Int (num_of s (pos 0)), Value.Int (num_of (written_integer s) (pos 0)), zero_typed s)
  some_values CType.M128 h = (Value.R16 (replicate 16 0), Value.R16 (replicate 16 0), ((zero_register, refl), zero_register))
  some_values t h = absurd h

  might : (fs : List Bool) (all others : Trees) (k : Operands fs all others) → AreCarried (types_of all) → (vs : List Value) × (ws : List Value) × Might fs all others k vs ws
  might [] NoTrees NoTrees k h = ([], [], record { values = tt; agree = tt })
  might (true ∷ fs) (More a rest) (More b others) k h =
      let r = might fs rest others k.1 h.1 in
      (k.0.v ∷ r.0, k.0.w ∷ r.1, record { values = (k.0.values, r.2.values); agree = (refl, r.2.agree) })
  might (false ∷ fs) (More a rest) (More b others) k h =
      let r = might fs rest others k.1 h.1 in
      let x = some_values (type_of a) h.0 in
      (x.0 ∷ r.0, x.1 ∷ r.1, record { values = (x.2, r.2.values); agree = r.2.agree })
  might [] NoTrees (More b others) k h = absurd k
  might [] (More a rest) others k h = absurd k
  might (f ∷ fs) NoTrees others k h = absurd k
  might (f ∷ fs) (More a rest) NoTrees k h = absurd k

  known_step : (fs : List Bool) (a b : Tree) (rest others : Trees) (g : Known (type_of a) a b) (k : Operands fs rest others) (y : State) (o : Out (List Value))
      → Ended fs rest others k y o → Ended (true ∷ fs) (More a rest) (More b others) (g, k) y (then_do o (λ vs. λ x. Done (g.v ∷ vs) x))
  known_step fs a b rest others g k y Undefined h = tt
  known_step fs a b rest others g k y Turns h = (g.v ∷ h.0, g.w ∷ h.1, record { values = (g.values, h.2.values); agree = (refl, h.2.agree) }, h.3)
  known_step fs a b rest others g k y (Done vs u) h =
      (g.w ∷ h.0, h.1, record { values = (g.values, h.2.values); agree = (refl, h.2.agree) }, h.3, h.4)

  -- behind an operand that has run
  behind : (fs : List Bool) (a b : Tree) (rest others : Trees) (g : Operand false (type_of a) a b) (k : Operands fs rest others) (x y u z : State) (v w : Value) (o : Out (List Value))
      → Alike n E x y → expression b d y ≡ Done (Some w) z → TypedValues (type_of a) v w → After n E y u z → Ended fs rest others k z o
      → Ended (false ∷ fs) (More a rest) (More b others) (g, k) y (then_do o (λ vs. λ s. Done (v ∷ vs) s))
  behind fs a b rest others g k x y u z v w Undefined al e r f h = tt
  behind fs a b rest others g k x y u z v w Turns al e r f h =
      (v ∷ h.0, w ∷ h.1, record { values = (r, h.2.values); agree = h.2.agree }, (record { state = x; alike = al }, inr (z, e, h.3)))
  behind fs a b rest others g k x y u z v w (Done vs s) al e r f h = (
    w ∷ h.0,
    h.1,
    record { values = (r, h.2.values); agree = h.2.agree },
    (record { state = x; alike = al }, (z, e, h.3)),
    record { alike = h.4.alike; stays = stays_on y.memory z.memory (h.1).memory f.stays h.4.stays },
  )

  ran_step : (fs : List Bool) (a b : Tree) (rest others : Trees) (g : Operand false (type_of a) a b) (k : Operands fs rest others) → AreCarried (types_of (More a rest)) → (x y : State)
      (o r : Out (Option Value)) → Alike n E x y → expression b d y ≡ r → Ends (Given TypedValues (type_of a)) (After n E y) o r
      → ((u z : State) → Alike n E u z → Ended fs rest others k z (values rest c u))
      → Ended (false ∷ fs) (More a rest) (More b others) (g, k) y (then_do (then_do o defined) (λ v. values rest c >>= (λ vs. pure (v ∷ vs))))
  ran_step fs a b rest others g k h x y Undefined r al e i next = tt
  ran_step fs a b rest others g k h x y Turns Turns al e i next =
      let q = might (false ∷ fs) (More a rest) (More b others) (g, k) h in (q.0, q.1, q.2, stopped q.1 q.2.agree)
    where
      stopped : (ws : List Value) → Agree (false ∷ fs) (More a rest) (More b others) (g, k) ws → Stop (false ∷ fs) (More b others) ws y
      stopped (w ∷ ws) j = (record { state = x; alike = al }, inl e)
      stopped [] j = absurd j
  ran_step fs a b rest others g k h x y Turns (Done s t) al e i next = absurd i
  ran_step fs a b rest others g k h x y Turns Undefined al e i next = absurd i
  ran_step fs a b rest others g k h x y (Done None u) r al e i next = tt
  ran_step fs a b rest others g k h x y (Done (Some v) u) (Done (Some w) z) al e i next =
      behind fs a b rest others g k x y u z v w (values rest c u) al e i.0 i.1 (next u z i.1.alike)
  ran_step fs a b rest others g k h x y (Done (Some v) u) (Done None z) al e i next = absurd i.0
  ran_step fs a b rest others g k h x y (Done (Some v) u) Turns al e i next = absurd i
  ran_step fs a b rest others g k h x y (Done (Some v) u) Undefined al e i next = absurd i

  pub ends : (fs : List Bool) (all others : Trees) (k : Operands fs all others) → AreCarried (types_of all) → (x y : State) → Alike n E x y → Ended fs all others k y (values all c x)
  ends [] NoTrees NoTrees k h x y al = ([], y, record { values = tt; agree = tt }, (record { state = x; alike = al }, refl), after_same n E x y al)
  ends (true ∷ fs) (More a rest) (More b others) k h x y al =
      rw (k.0.first x y al) (known_step fs a b rest others k.0 k.1 y (values rest c x) (ends fs rest others k.1 h.1 x y al))
  ends (false ∷ fs) (More a rest) (More b others) k h x y al =
      ran_step fs a b rest others k.0 k.1 h x y (expression a c x) (expression b d y) al refl (k.0.by x y al) (λ u z i. ends fs rest others k.1 h.1 u z i)
  ends [] NoTrees (More b others) k h x y al = absurd k
  ends [] (More a rest) others k h x y al = absurd k
  ends (f ∷ fs) NoTrees others k h x y al = absurd k
  ends (f ∷ fs) (More a rest) NoTrees k h x y al = absurd k
