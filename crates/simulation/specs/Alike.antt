-- When two runs are alike: what they give, their memories and states, and how their steps end. Everything is over a relation of values, which says
-- what values of the second run stand for those of a type of the first.
use Rattle.std.specs.Prelude.{◌≡◌, ℕ, zero, suc, ◌≤◌, ◌<◌, ◌^◌, length, List, [], ◌∷◌, Bool, true, false, Option, Some, None, IsTrue, slice_get}
use Rattle.c_tree.specs.declared.types.CType.{CType}
use Rattle.c_memory.specs.declared.blocks.Block.{Block}
use Rattle.c_memory.specs.declared.value.Value.{Value}
use Rattle.c_memory.specs.Values.{AreBytes}
use Rattle.c_memory.specs.MeaningState.{Binding, State, Out, Done, Turns, Undefined, Does}
use Rattle.c_memory.specs.Meaning.{Calls, Flow, Next, Broke, Continued, Returned}

-- ---- what is given

-- values of the second run that stand for those of a type of the first
abbrev pub Relation : Type 1
Relation = CType → Value → Value → Type 0

-- the first has nothing, or both have something that is related
abbrev pub Options : {A B : Type 0} → (A → B → Type 0) → Option A → Option B → Type 0
Options V None b = Unit {0}
Options V (Some a) None = ⊥
Options V (Some a) (Some b) = V a b

-- what an expression of the type gives: both a value, or both none
abbrev pub Given : Relation → CType → Option Value → Option Value → Type 0
Given R t None None = Unit {0}
Given R t (Some v) (Some w) = R t v w
Given R t _ _ = ⊥

-- values of these types, in order
abbrev pub Arguments : Relation → List CType → List Value → List Value → Type 0
Arguments R [] [] [] = Unit {0}
Arguments R (t ∷ ts) (v ∷ vs) (w ∷ ws) = R t v w × Arguments R ts vs ws
Arguments R _ _ _ = ⊥

-- how statements end, in a function whose result has this type
abbrev pub Flows : Relation → CType → Flow → Flow → Type 0
Flows R t Next Next = Unit {0}
Flows R t Broke Broke = Unit {0}
Flows R t Continued Continued = Unit {0}
Flows R t (Returned v) (Returned w) = Given R t v w
Flows R t _ _ = ⊥

-- ---- memories

-- The second block may be used wherever the first may, and they have the same bytes. The sizes are below 2 ^ 63. Where it is asked, the blocks differ
-- in nothing.
pub record Covers (exact : Bool) (b c : Block) : Type 0 where
  pub bytes : b.bytes ≡ c.bytes
  pub alive : b.alive ≡ c.alive
  pub align : b.align ≤ c.align
  pub writable : IsTrue b.writable → IsTrue c.writable
  pub are_bytes : AreBytes b.bytes
  pub size : length b.bytes < 2 ^ 63
  pub kept : IsTrue exact → (b.align ≡ c.align) × (b.writable ≡ c.writable)

abbrev pub is_first : ℕ → Bool
is_first zero = false
is_first (suc n) = true

abbrev pub one_less : ℕ → ℕ
one_less zero = zero
one_less (suc n) = n

-- As many blocks, each of which covers the one of its number. The first n of them, which are those that were given and the tables, are there, and
-- differ in nothing.
abbrev pub Blocks : ℕ → List Block → List Block → Type 0
Blocks zero [] [] = Unit {0}
Blocks (suc n) [] [] = ⊥
Blocks n [] (c ∷ others) = ⊥
Blocks n (b ∷ rest) [] = ⊥
Blocks n (b ∷ rest) (c ∷ others) = Covers (is_first n) b c × Blocks (one_less n) rest others

-- a block that lives goes on to live, with as many bytes, as much aligned, and writable or not as before
pub record Stayed (b c : Block) : Type 0 where
  pub alive : c.alive ≡ true
  pub size : length c.bytes ≡ length b.bytes
  pub writable : c.writable ≡ b.writable
  pub align : c.align ≡ b.align

-- no block that lived has ended
abbrev pub Stays : List Block → List Block → Type 0
Stays before after = (k : ℕ) (b : Block) → slice_get before k ≡ Some b → b.alive ≡ true → (c : Block) × (slice_get after k ≡ Some c) × Stayed b c

-- ---- states and steps

-- how the objects in scope are related
abbrev pub Objects : Type 1
Objects = List Binding → List Binding → Type 0

-- as many turns are left
abbrev pub SameTurns : ℕ → ℕ → Type 0
SameTurns m k = m ≡ k

-- related objects, memories of which the second covers the first, and as many turns left
pub record Alike (n : ℕ) (E : Objects) (s t : State) : Type 0 where
  pub objects : E s.objects t.objects
  pub memory : Blocks n s.memory t.memory
  pub left : SameTurns s.left t.left

-- after a step of the second run from t
pub record After (n : ℕ) (F : Objects) (t u v : State) : Type 0 where
  pub alike : Alike n F u v
  pub stays : Stays t.memory v.memory

-- where the first isn't undefined, the second ends as it does
abbrev pub Ends : {A B : Type 0} → (A → B → Type 0) → (State → State → Type 0) → Out A → Out B → Type 0
Ends V S Undefined o = Unit {0}
Ends V S Turns Turns = Unit {0}
Ends V S Turns (Done b t) = ⊥
Ends V S Turns Undefined = ⊥
Ends V S (Done a s) (Done b t) = V a b × S s t
Ends V S (Done a s) Turns = ⊥
Ends V S (Done a s) Undefined = ⊥

-- from states that are alike, with objects related by E, the steps end alike, with objects related by F
pub record Sim {A B : Type 0} (n : ℕ) (V : A → B → Type 0) (E F : Objects) (p : Does A) (q : Does B) : Type 0 where
  pub by : (s t : State) → Alike n E s t → Ends V (After n F t) (p s) (q t)

-- ---- calls

-- memories of which the second covers the first, and as many turns left; what is in scope doesn't count
abbrev pub Worlds : ℕ → State → State → Type 0
Worlds n s t = Blocks n s.memory t.memory × SameTurns s.left t.left

-- after a call from s and t: what is in scope hasn't changed
pub record Back (n : ℕ) (s t u v : State) : Type 0 where
  pub memory : Blocks n u.memory v.memory
  pub left : SameTurns u.left v.left
  pub objects : u.objects ≡ s.objects
  pub others : v.objects ≡ t.objects
  pub stays : Stays t.memory v.memory

-- The second does for arguments what the first does for those that they stand for, wherever it is called. It speaks of no objects in scope.
pub record CallsAlike (n : ℕ) (R : Relation) (ts : List CType) (t : CType) (p q : List Value → Does (Option Value)) : Type 0 where
  pub by : (vs ws : List Value) (u v : State) → Arguments R ts vs ws → Worlds n u v → Ends (Given R t) (Back n u v) (p vs u) (q ws v)

-- What the first calls do by the name f the second do by the name g: a function of both units, a row and the one that stands for it, or a row
-- and its helper.
abbrev pub CallsTo : ℕ → Relation → Calls → Calls → List ℕ → List CType → CType → List ℕ → Type 0
CallsTo n R c d f ts t g = CallsAlike n R ts t (c f) (d g)
