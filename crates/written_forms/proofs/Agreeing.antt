-- How the objects that are seen in a source stand in both units, while some of them keep their values.
use Rattle.std.proofs.Common.{◌≡◌, List, [], ◌∷◌, Bool, true, false, Option, Some, None, if◌then◌else◌}
use Rattle.std.specs.Prelude.{ℕ}
use Rattle.std.specs.Str.{bytes_eq}
use Rattle.c_memory.specs.declared.value.Value.{Value}
use Rattle.c_memory.specs.Matching.{written_type}
use Rattle.simulation.specs.Carried.{Way, MayBeSet, Fixed, Held, Carried, Shared, Marks, Values, carried, mark_of}
use Rattle.written_forms.specs.TypedValues.{TypedValues}
use Rattle.written_forms.specs.Seen.{Local, Sees}

-- an object that keeps its value for a while, with its values in both units
pub record Keeping : Type 0 where
  pub name : List ℕ
  pub v : Value
  pub w : Value

abbrev pub keeping : List ℕ → Value → Value → Keeping
keeping x v w = record { name = x; v = v; w = w }

abbrev pub kept : List ℕ → List Keeping → Option Keeping
kept x [] = None
kept x (k ∷ rest) = if bytes_eq x k.name then Some k else kept x rest

abbrev pub way_when : Bool → Way
way_when true = Fixed
way_when false = MayBeSet

abbrev pub way_of : Option Keeping → Local → Way
way_of None l = way_when l.steady
way_of (Some k) l = Held

-- each object that is seen is apart from memory in both units, with the type that its own is written as; those that keep their values have them
pub record Agrees (sees : Sees) (scope : List Carried) (marks : Marks) (keeps : List Keeping) : Type 0 where
  pub objects : (x : List ℕ) (l : Local) → sees x ≡ Some l → carried x scope ≡ Some (Shared (way_of (kept x keeps) l) x l.ty (written_type l.ty))
  pub values : (x : List ℕ) (k : Keeping) → kept x keeps ≡ Some k → mark_of x scope marks ≡ Values k.v k.w
  pub typed : (x : List ℕ) (k : Keeping) (l : Local) → kept x keeps ≡ Some k → sees x ≡ Some l → TypedValues l.ty k.v k.w

-- nothing sets an object that keeps its value
abbrev pub SetsNone : List Keeping → (List ℕ → Bool) → Type 0
SetsNone keeps sets = (x : List ℕ) (k : Keeping) → kept x keeps ≡ Some k → sets x ≡ false
