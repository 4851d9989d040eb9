-- How each object in scope of the first unit stands in the second.
use Rattle.std.specs.Prelude.{◌≡◌, ℕ, zero, suc, ◌+◌, length, List, [], ◌∷◌, ◌++◌, Bool, true, ◌||◌, Option, Some, None, if◌then◌else◌}
use Rattle.std.specs.Str.{bytes_eq}
use Rattle.lane_core.specs.declared.vector.NeonLane.{NeonLane}
use Rattle.c_tree.specs.declared.types.CType.{CType}
use Rattle.c_memory.specs.declared.value.Value.{Value}
use Rattle.c_memory.specs.MeaningState.{Location, Apart, Halves, InBlock, Binding, half_at}
use Rattle.simulation.specs.Alike.{Relation, Options}

-- How an object of both units is kept. Apart from memory in both, it may be unset; or it is always set, as a parameter and what is declared with a
-- first value are, so that it may be read early; or it is set and keeps its value for a while. Or it is a block in both.
pub data Way : Type 0 where
  MayBeSet : Way
  Fixed : Way
  Held : Way
  InMemory : Way

-- an object apart from memory that an assignment may set
abbrev pub MayChange : Way → Type 0
MayChange MayBeSet = Unit {0}
MayChange Fixed = Unit {0}
MayChange way = ⊥

-- An object that both have under one name, with its type in each; an object of the second alone; or a pair of vectors of the first, apart from
-- memory, whose halves are two objects of the second
pub data Carried : Type 0 where
  Shared : (way : Way) (name : List ℕ) (ty written : CType) → Carried
  Added : (name : List ℕ) (ty : CType) → Carried
  Halved : (name : List ℕ) (ty : CType) (low high : List ℕ) (half written : CType) → Carried

-- what is known of an object only in a run: nothing more, its values in both, of an added one the second, or the number of its block
pub data Mark : Type 0 where
  Unmarked : Mark
  Values : (v w : Value) → Mark
  Number : ℕ → Mark

-- ---- where an object is in both

abbrev pub IsApart : Location → Type 0
IsApart (InBlock k) = ⊥
IsApart l = Unit {0}

-- 16 bytes, if there are any
abbrev pub IsLong : Option (List ℕ) → Type 0
IsLong None = Unit {0}
IsLong (Some r) = length r ≡ 16

-- apart from memory, and a pair has its bytes
abbrev pub IsLoose : Location → Type 0
IsLoose (Apart (Some (Value.R32 pair))) = length pair ≡ 32
IsLoose (Apart v) = Unit {0}
IsLoose (Halves a b) = IsLong a × IsLong b
IsLoose (InBlock k) = ⊥

-- the type of the halves of a pair
abbrev pub half_type : CType → CType
half_type CType.M256 = CType.M128
half_type t = CType.Neon NeonLane.U8 true

-- halves of pairs of the type
abbrev pub HalfValues : Relation → CType → List ℕ → List ℕ → Type 0
HalfValues R t a b = R (half_type t) (Value.R16 a) (Value.R16 b)

-- an object that isn't set may be anything in the second run; so may a half
abbrev pub Places : Relation → CType → Location → Location → Type 0
Places R t (Apart (Some v)) (Apart (Some w)) = R t v w
Places R t (Apart None) m = IsLoose m
Places R t (Halves a b) m = IsLoose m × Options (HalfValues R t) a (half_at 0 m) × Options (HalfValues R t) b (half_at 1 m)
Places R t _ _ = ⊥

-- both are set to these values
pub record AreSet (R : Relation) (t : CType) (v w : Value) (l m : Location) : Type 0 where
  pub first : l ≡ Apart (Some v)
  pub second : m ≡ Apart (Some w)
  pub values : R t v w

abbrev pub Holds : Relation → CType → Mark → Location → Location → Type 0
Holds R t (Values v w) l m = AreSet R t v w l m
Holds R t _ l m = ⊥

-- the block of this number in both
abbrev pub Blocked : Mark → Location → Location → Type 0
Blocked (Number k) l m = (l ≡ InBlock k) × (m ≡ InBlock k)
Blocked _ l m = ⊥

abbrev pub Kept : Relation → Way → CType → Mark → Location → Location → Type 0
Kept R MayBeSet t mark l m = Places R t l m
Kept R Fixed t mark l m = (v w : Value) × AreSet R t v w l m
Kept R Held t mark l m = Holds R t mark l m
Kept R InMemory t mark l m = Blocked mark l m

-- an added object may be anything, or it has this value
abbrev pub AddedAt : Mark → Location → Type 0
AddedAt (Values v w) m = m ≡ Apart (Some w)
AddedAt mark m = Unit {0}

-- an object of the second for a half that is set, or for one that isn't
abbrev pub HalfAt : Relation → CType → Option (List ℕ) → Location → Type 0
HalfAt R t None m = IsApart m
HalfAt R t (Some r) (Apart (Some w)) = R t (Value.R16 r) w
HalfAt R t (Some r) m = ⊥

-- the two objects are set to the halves of the value
abbrev pub WholeAt : Relation → CType → Location → Location → Location → Type 0
WholeAt R t (Apart (Some v)) (Apart (Some (Value.R16 a))) (Apart (Some (Value.R16 b))) = R t v (Value.R32 (a ++ b))
WholeAt R t (Apart None) m p = Unit {0}
WholeAt R t (Halves a b) m p = Unit {0}
WholeAt R t _ _ _ = ⊥

-- ---- objects in scope

pub record Both (x : List ℕ) (s t : CType) (b c : Binding) : Type 0 where
  pub name : b.name ≡ x
  pub other_name : c.name ≡ x
  pub ty : b.ty ≡ s
  pub other_ty : c.ty ≡ t

pub record IsNamed (x : List ℕ) (t : CType) (b : Binding) : Type 0 where
  pub name : b.name ≡ x
  pub ty : b.ty ≡ t

-- a pair and its two halves, of which the low one is declared before the high one
pub record InHalves (R : Relation) (x : List ℕ) (s : CType) (low high : List ℕ) (h t : CType) (b c d : Binding) : Type 0 where
  pub whole : IsNamed x s b
  pub low_half : IsNamed low t c
  pub high_half : IsNamed high t d
  pub low_value : HalfAt R h (half_at 0 b.location) c.location
  pub high_value : HalfAt R h (half_at 1 b.location) d.location
  pub value : WholeAt R s b.location c.location d.location

-- the marks of the objects in scope, by their places: one scope further out, and further in
abbrev pub Marks : Type 0
Marks = ℕ → Mark

abbrev pub outer : Marks → Marks
outer marks = λ i. marks (suc i)

abbrev pub inner : Mark → Marks → Marks
inner mark marks zero = mark
inner mark marks (suc i) = marks i

-- the objects in scope, the innermost first
abbrev pub Scope : Relation → List Carried → Marks → List Binding → List Binding → Type 0
Scope R [] marks [] [] = Unit {0}
Scope R (Shared way x s t ∷ rest) marks (b ∷ bs) (c ∷ cs) = Both x s t b c × Kept R way s (marks 0) b.location c.location × Scope R rest (outer marks) bs cs
Scope R (Added x t ∷ rest) marks bs (c ∷ cs) = IsNamed x t c × AddedAt (marks 0) c.location × Scope R rest (outer marks) bs cs
Scope R (Halved x s low high h t ∷ rest) marks (b ∷ bs) (c ∷ d ∷ cs) = InHalves R x s low high h t b d c × Scope R rest (outer marks) bs cs
Scope R _ _ _ _ = ⊥

-- the same, with more objects in front
pub record Within (R : Relation) (scope : List Carried) (marks : Marks) (bs cs : List Binding) : Type 0 where
  pub more : List Carried
  pub all : Marks
  pub scoped : Scope R (more ++ scope) all bs cs
  pub kept : (i : ℕ) → all (length more + i) ≡ marks i

-- the same, with one object in front, whatever its mark is
abbrev pub Begun : Relation → Carried → List Carried → Marks → List Binding → List Binding → Type 0
Begun R k scope marks bs cs = (mark : Mark) × Scope R (k ∷ scope) (inner mark marks) bs cs

-- whether an object of the name is the one of both, or one of the second that hides it
abbrev pub is_named : List ℕ → Carried → Bool
is_named x (Shared way y s t) = bytes_eq x y
is_named x (Added y t) = bytes_eq x y
is_named x (Halved y s low high h t) = bytes_eq x y || (bytes_eq x low || bytes_eq x high)

-- how the innermost object of a name is kept
abbrev pub carried : List ℕ → List Carried → Option Carried
carried x [] = None
carried x (k ∷ rest) = if is_named x k then Some k else carried x rest

-- and its mark
abbrev pub mark_of : List ℕ → List Carried → Marks → Mark
mark_of x [] marks = Unmarked
mark_of x (k ∷ rest) marks = if is_named x k then marks 0 else mark_of x rest (outer marks)

-- ---- an object that keeps its value for a while

abbrev pub as_held : Carried → Carried
as_held (Shared Fixed x s t) = Shared Held x s t
as_held k = k

-- the innermost object of the name keeps its value
abbrev pub held : List ℕ → List Carried → List Carried
held x [] = []
held x (k ∷ rest) = if is_named x k then as_held k ∷ rest else k ∷ held x rest

-- and has this mark
abbrev pub marked : List ℕ → Mark → List Carried → Marks → Marks
marked x mark [] marks = marks
marked x mark (k ∷ rest) marks = if is_named x k then inner mark (outer marks) else inner (marks 0) (marked x mark rest (outer marks))
