-- Laws of a row that stands as a nest of rows in place. Compound operands stand in the nest once each and in order. Simple ones give the same
-- register from any states that are alike, as objects that are held do: they may be read early, late, more than once or not at all.
use Rattle.std.proofs.Common.{◌≡◌, ℕ, suc, true, List, [], ◌∷◌, ◌++◌, map, length, Option, Some, None, refl, sym, ap, ◌∙◌, subst, append_assoc}
use Rattle.std.proofs.lemmas.List.{map-append, append-nil}
use Rattle.lane_core.specs.declared.vector.NeonLane.TheVariants.{U8}
use Rattle.lane_core.specs.Register.{IsRegister}
use Rattle.c_text.specs.declared.tokens.Place.{Place}
use Rattle.c_tree.specs.declared.types.CType.{CType}
use Rattle.c_tree.specs.Tree.{Tree, Trees, Node, Call, NoTrees, More}
use Rattle.c_memory.specs.declared.value.Value.{Value}
use Rattle.c_memory.specs.MeaningState.{State, Out, Done, Turns, Undefined, Does, then_do, ◌>>=◌, pure, defined}
use Rattle.c_memory.specs.Meaning.{Calls, expression, values, its_value}
use Rattle.simulation.specs.Alike.{Given, Objects, Alike, Sim}
use Rattle.simulation.specs.Steps.{bind_sim, pure_sim, second_as, first_as}
use Rattle.simulation.specs.WrittenValues.{WrittenValues}

-- a vector of the written unit
abbrev pub vector : CType
vector = CType.Neon U8 true

pub data AreVectors : Value → Value → Type 0 where
  vectors : (a : List ℕ) → IsRegister 16 a → AreVectors (Value.R16 a) (Value.R16 a)

pub are_vectors : (v w : Value) → WrittenValues CType.M128 v w → AreVectors v w
are_vectors (Value.R16 a) (Value.R16 b) h = subst (λ c. AreVectors (Value.R16 a) (Value.R16 c)) h.1 (vectors a h.0)
are_vectors v w h = absurd h

-- ---- nests

abbrev pub Registers : List (List ℕ) → Type 0
Registers [] = Unit {0}
Registers (r ∷ rs) = IsRegister 16 r × Registers rs

pub registers_joined : (rs ss : List (List ℕ)) → Registers rs → Registers ss → Registers (rs ++ ss)
registers_joined [] ss h k = k
registers_joined (r ∷ rs) ss h k = (h.0, registers_joined rs ss h.1 k)

-- ---- how steps are grouped

cons_assoc : {B : Type 0} (p : Out (List Value)) (v : Value) (f : List Value → Does B)
    → then_do p (λ vs. f (v ∷ vs)) ≡ then_do (then_do p (λ vs. pure (v ∷ vs))) f
cons_assoc (Done vs s) v f = refl
cons_assoc Turns v f = refl
cons_assoc Undefined v f = refl

-- the values of a list, one after the other
pub more_assoc : {B : Type 0} (p : Out Value) (q : Does (List Value)) (f : List Value → Does B)
    → then_do p (λ v. q >>= (λ vs. f (v ∷ vs))) ≡ then_do (then_do p (λ v. q >>= (λ vs. pure (v ∷ vs)))) f
more_assoc (Done v s) q f = cons_assoc (q s) v f
more_assoc Turns q f = refl
more_assoc Undefined q f = refl

pub row_assoc : {B : Type 0} (o : Out (List Value)) (h : List Value → Does (Option Value)) (g : Value → Does B)
    → then_do o (λ ws. its_value (h ws) >>= g) ≡ then_do (then_do (then_do o h) defined) g
row_assoc (Done ws s) h g = refl
row_assoc Turns h g = refl
row_assoc Undefined h g = refl

pub split_used : {A : Type 0} (o : Out (List Value)) (f : List Value → Does A) (used more : List (List ℕ))
    → then_do o (λ vs. f (map Value.R16 used ++ (map Value.R16 more ++ vs))) ≡ then_do o (λ vs. f (map Value.R16 (used ++ more) ++ vs))
split_used (Done vs s) f used more = ap (λ z. f z s) (rw (map-append, append_assoc) refl)
split_used Turns f used more = refl
split_used Undefined f used more = refl

mutual
  -- a compound operand; a simple one, with its tree in the second unit and its register; or a row of nests
  pub data Nest : Type 0 where
    Operand : Nest
    Simple : Tree → List ℕ → Nest
    Row : List ℕ → Nests → Nest

  pub data Nests : Type 0 where
    NoNests : Nests
    And : Nest → Nests → Nests

mutual
  -- the second unit's tree of a nest, with compound operands from a list, and those that are left
  pub data Placed : Nest → Trees → Tree → Trees → Type 0 where
    operand : (b : Tree) (rest : Trees) → Placed Operand (More b rest) b rest
    simple : (b : Tree) (r : List ℕ) (rest : Trees) → Placed (Simple b r) rest b rest
    row : (p : Place) (g : List ℕ) (ts : Nests) (all args rest : Trees) → ArePlaced ts all args rest → Placed (Row g ts) all (Node p vector (Call g args)) rest

  pub data ArePlaced : Nests → Trees → Trees → Trees → Type 0 where
    none : (rest : Trees) → ArePlaced NoNests rest NoTrees rest
    another : (t : Nest) (ts : Nests) (all between rest args : Trees) (b : Tree) → Placed t all b between → ArePlaced ts between args rest
        → ArePlaced (And t ts) all (More b args) rest

-- an operand of the first unit: a simple one with its register, or a compound one
abbrev pub Kinds : Type 0
Kinds = List (Option (List ℕ))

-- from the first kinds to the second: the registers of all operands, and of the compound ones
pub data Consumed : Kinds → Kinds → List (List ℕ) → List (List ℕ) → Type 0 where
  nothing : (os : Kinds) → Consumed os os [] []
  compound : (os os' : Kinds) (r : List ℕ) (all used : List (List ℕ)) → Consumed os os' all used → Consumed (None ∷ os) os' (r ∷ all) (r ∷ used)
  skipped : (os os' : Kinds) (r : List ℕ) (all used : List (List ℕ)) → Consumed os os' all used → Consumed (Some r ∷ os) os' (r ∷ all) used

consumed_on : (os os1 os2 : Kinds) (a1 u1 a2 u2 : List (List ℕ)) → Consumed os os1 a1 u1 → Consumed os1 os2 a2 u2 → Consumed os os2 (a1 ++ a2) (u1 ++ u2)
consumed_on _ _ os2 _ _ a2 u2 (nothing os) k = k
consumed_on _ _ os2 _ _ a2 u2 (compound os os' r all used h) k = compound os os2 r (all ++ a2) (used ++ u2) (consumed_on os os' os2 all used a2 u2 h k)
consumed_on _ _ os2 _ _ a2 u2 (skipped os os' r all used h) k = skipped os os2 r (all ++ a2) (used ++ u2) (consumed_on os os' os2 all used a2 u2 h k)

module _ (neon : List ℕ → List (List ℕ) → List ℕ) where
  mutual
    -- the register of a nest for the registers of its compound operands, where `neon` is what the rows give
    pub data ValueOf : Nest → List (List ℕ) → List ℕ → Type 0 where
      of_operand : (r : List ℕ) → ValueOf Operand (r ∷ []) r
      of_simple : (b : Tree) (r : List ℕ) → ValueOf (Simple b r) [] r
      of_row : (g : List ℕ) (ts : Nests) (used rs : List (List ℕ)) → ValuesOf ts used rs → ValueOf (Row g ts) used (neon g rs)

    pub data ValuesOf : Nests → List (List ℕ) → List (List ℕ) → Type 0 where
      of_none : ValuesOf NoNests [] []
      of_more : (t : Nest) (ts : Nests) (used more : List (List ℕ)) (r : List ℕ) (rs : List (List ℕ)) → ValueOf t used r → ValuesOf ts more rs
          → ValuesOf (And t ts) (used ++ more) (r ∷ rs)

  abbrev pub count : Nests → ℕ
  count NoNests = 0
  count (And t ts) = suc (count ts)

  abbrev pub IsPure : Calls → List ℕ → ℕ → Type 0
  IsPure d g k =
      (rs : List (List ℕ)) → length rs ≡ k → Registers rs → IsRegister 16 (neon g rs) ×
      ((t : State) → d g (map Value.R16 rs) t ≡ Done (Some (Value.R16 (neon g rs))) t)

module _ (n : ℕ) (E : Objects) (neon : List ℕ → List (List ℕ) → List ℕ) (c d : Calls) where
  abbrev pub WrittenGives : Tree → List ℕ → Type 0
  WrittenGives b r = (s t : State) → Alike n E s t → its_value (expression b d) t ≡ Done (Value.R16 r) t

  abbrev mutual
    pub Fine : Nest → Type 0
    Fine Operand = Unit {0}
    Fine (Simple b r) = IsRegister 16 r × WrittenGives b r
    Fine (Row g ts) = IsPure neon d g (count neon ts) × AreFine ts

    pub AreFine : Nests → Type 0
    AreFine NoNests = Unit {0}
    AreFine (And t ts) = Fine t × AreFine ts

  -- the operands of the first unit, and the trees of the compound ones in the second
  abbrev pub Operands : Kinds → Trees → Trees → Type 0
  Operands [] NoTrees NoTrees = Unit {0}
  Operands (None ∷ os) (More a all) (More b others) =
      Sim n (WrittenValues CType.M128) E E (its_value (expression a c)) (its_value (expression b d)) × Operands os all others
  Operands (Some r ∷ os) (More a all) others =
      IsRegister 16 r × ((s t : State) → Alike n E s t → its_value (expression a c) s ≡ Done (Value.R16 r) s) × Operands os all others
  Operands _ _ _ = ⊥

  -- a simple operand of the first unit is passed over
  skip : {A B : Type 0} (V : A → B → Type 0) (a : Tree) (rest : Trees) (r : List ℕ) (f : List Value → Does A) (q : Does B)
      → ((s t : State) → Alike n E s t → its_value (expression a c) s ≡ Done (Value.R16 r) s)
      → Sim n V E E (values rest c >>= (λ vs. f (Value.R16 r ∷ vs))) q → Sim n V E E (values (More a rest) c >>= f) q
  skip V a rest r f q gives h = first_as (λ s. more_assoc (its_value (expression a c) s) (values rest c) f) (record {
    by = λ s t e. rw (gives s t e) (h.by s t e);
  })

  next_sim : {A B : Type 0} (V : A → B → Type 0) (os : Kinds) (all : Trees) (b : Tree) (others : Trees) (f : List Value → Does A) (g : Value → Does B)
      → Operands os all (More b others)
      → ((os' : Kinds) (rest : Trees) (used : List (List ℕ)) (r : List ℕ) → Operands os' rest others → Consumed os os' used (r ∷ []) → Registers used
      → IsRegister 16 r → Sim n V E E (values rest c >>= (λ vs. f (map Value.R16 used ++ vs))) (g (Value.R16 r)))
      → Sim n V E E (values all c >>= f) (its_value (expression b d) >>= g)
  next_sim V (None ∷ os) (More a all) b others f g h next =
      first_as (λ s. more_assoc (its_value (expression a c) s) (values all c) f) (bind_sim h.0 (λ v w e. one v w (are_vectors v w e)))
    where
      one : (v w : Value) → AreVectors v w → Sim n V E E (values all c >>= (λ vs. f (v ∷ vs))) (g w)
      one v w (vectors r i) = next os all (r ∷ []) r h.1 (compound os os r [] [] (nothing os)) (i, tt) i
  next_sim V (Some r ∷ os) (More a all) b others f g h next =
      skip V a all r f (its_value (expression b d) >>= g) h.1 (next_sim V os all b others (λ vs. f (Value.R16 r ∷ vs)) g h.2
      (λ os' rest used q i k regs is. next os' rest (r ∷ used) q i (skipped os os' r used (q ∷ []) k) (h.0, regs) is))
  next_sim V [] NoTrees b others f g h next = absurd h
  next_sim V [] (More a all) b others f g h next = absurd h
  next_sim V (None ∷ os) NoTrees b others f g h next = absurd h
  next_sim V (Some r ∷ os) NoTrees b others f g h next = absurd h

  -- a simple operand of the second unit is read where the first reads nothing
  early : {A B : Type 0} (V : A → B → Type 0) (b : Tree) (r : List ℕ) (p : Does A) (g : Value → Does B) → WrittenGives b r → Sim n V E E p (g (Value.R16 r))
      → Sim n V E E p (its_value (expression b d) >>= g)
  early V b r p g gives h = record { by = λ s t e. rw (gives s t e) (h.by s t e) }

  mutual
    pub nest_sim : {A B : Type 0} (V : A → B → Type 0) (t : Nest) (others : Trees) (b : Tree) (left : Trees) → Placed t others b left
        → (os : Kinds) (all : Trees) (f : List Value → Does A) (g : Value → Does B) → Operands os all others → Fine t
        → ((os' : Kinds) (rest : Trees) (used compounds : List (List ℕ)) (r : List ℕ) → Operands os' rest left → Consumed os os' used compounds
        → Registers used → ValueOf neon t compounds r → IsRegister 16 r → Sim n V E E (values rest c >>= (λ vs. f (map Value.R16 used ++ vs)))
        (g (Value.R16 r)))
        → Sim n V E E (values all c >>= f) (its_value (expression b d) >>= g)
    nest_sim V _ _ _ _ (operand b left) os all f g h fine next =
        next_sim V os all b left f g h (λ os' rest used r i k regs is. next os' rest used (r ∷ []) r i k regs (of_operand r) is)
    nest_sim V _ _ _ _ (simple b r left) os all f g h fine next =
        early V b r (values all c >>= f) g fine.1 (next os all [] [] r h (nothing os) tt (of_simple b r) fine.0)
    nest_sim V _ _ _ _ (row p name ts others args left placed) os all f g h fine next =
        second_as (λ s. row_assoc (values args d s) (d name) g)
        (nests_sim V ts others args left placed os all f (λ ws. its_value (d name ws) >>= g) h fine.1 (λ os' rest used compounds rs i k regs v are long.
        second_as (λ s. sym (ap (λ o. then_do (then_do o defined) g) ((fine.0 rs long are).1 s)))
        (next os' rest used compounds (neon name rs) i k regs (of_row name ts compounds rs v) (fine.0 rs long are).0)))

    pub nests_sim : {A B : Type 0} (V : A → B → Type 0) (ts : Nests) (others args left : Trees) → ArePlaced ts others args left
        → (os : Kinds) (all : Trees) (f : List Value → Does A) (g : List Value → Does B) → Operands os all others → AreFine ts
        → ((os' : Kinds) (rest : Trees) (used compounds rs : List (List ℕ)) → Operands os' rest left → Consumed os os' used compounds → Registers used
        → ValuesOf neon ts compounds rs → Registers rs → length rs ≡ count neon ts → Sim n V E E (values rest c >>= (λ vs. f (map Value.R16 used ++ vs)))
        (g (map Value.R16 rs)))
        → Sim n V E E (values all c >>= f) (values args d >>= g)
    nests_sim V _ _ _ _ (none left) os all f g h fine next = next os all [] [] [] h (nothing os) tt of_none tt refl
    nests_sim V _ _ _ _ (another t ts others between left args b p ps) os all f g h fine next =
        second_as (λ s. more_assoc (its_value (expression b d) s) (values args d) g)
        (nest_sim V t others b between p os all f (λ v. values args d >>= (λ vs. g (v ∷ vs))) h fine.0 (λ os1 rest used compounds r i k regs v is.
        nests_sim V ts between args left ps os1 rest (λ vs. f (map Value.R16 used ++ vs)) (λ vs. g (Value.R16 r ∷ vs)) i fine.1
        (λ os2 rest2 used2 compounds2 rs i2 k2 regs2 v2 are long.
        first_as (λ s. sym (split_used (values rest2 c s) f used used2))
        (next os2 rest2 (used ++ used2) (compounds ++ compounds2) (r ∷ rs) i2 (consumed_on os os1 os2 used compounds used2 compounds2 k k2)
        (registers_joined used used2 regs regs2) (of_more t ts compounds compounds2 r rs v v2) (is, are) (ap suc long)))))

  -- simple operands that are left at the end
  rest_sim : {A B : Type 0} (V : A → B → Type 0) (os : Kinds) (all : Trees) (f : List Value → Does A) (q : Does B) → Operands os all NoTrees
      → ((used : List (List ℕ)) → Consumed os [] used [] → Registers used → Sim n V E E (f (map Value.R16 used)) q) → Sim n V E E (values all c >>= f) q
  rest_sim V [] NoTrees f q h next = next [] (nothing []) tt
  rest_sim V (Some r ∷ os) (More a all) f q h next =
      skip V a all r f q h.1 (rest_sim V os all (λ vs. f (Value.R16 r ∷ vs)) q h.2 (λ used k regs. next (r ∷ used) (skipped os [] r used [] k) (h.0, regs)))
  rest_sim V [] (More a all) f q h next = absurd h
  rest_sim V (None ∷ os) NoTrees f q h next = absurd h
  rest_sim V (None ∷ os) (More a all) f q h next = absurd h
  rest_sim V (Some r ∷ os) NoTrees f q h next = absurd h

  -- a row in place: `row` says that the first unit's row gives for all operands what the nest gives for the compound ones
  pub mixed_sim : (f g : List ℕ) (ts : Nests) (others args : Trees) → ArePlaced ts others args NoTrees → (os : Kinds) (all : Trees) → Operands os all others
      → AreFine ts → IsPure neon d g (count neon ts)
      → ((used compounds rs : List (List ℕ)) (s : State) → Consumed os [] used compounds → Registers used → ValuesOf neon ts compounds rs → c f
      (map Value.R16 used) s ≡ Done (Some (Value.R16 (neon g rs))) s)
      → Sim n (Given WrittenValues CType.M128) E E (values all c >>= c f) (values args d >>= d g)
  mixed_sim f g ts others args placed os all h fine pure_row source =
      nests_sim (Given WrittenValues CType.M128) ts others args NoTrees placed os all (c f) (d g) h fine (λ os' rest used compounds rs i k regs v are long.
      rest_sim (Given WrittenValues CType.M128) os' rest (λ vs. c f (map Value.R16 used ++ vs)) (d g (map Value.R16 rs)) i (λ more l regs2.
      let all_used = subst (λ z. Consumed os [] (used ++ more) z) (append-nil compounds) (consumed_on os os' [] used compounds more [] k l) in
      let gives = λ (s : State). source (used ++ more) compounds rs s all_used (registers_joined used more regs regs2) v in
      first_as (λ s. sym (ap (λ vs. c f vs s) (sym (map-append Value.R16 used more)) ∙ gives s)) (second_as (λ s. sym ((pure_row rs long are).1 s))
      (pure_sim (Some (Value.R16 (neon g rs))) (Some (Value.R16 (neon g rs))) ((pure_row rs long are).0, refl)))))
