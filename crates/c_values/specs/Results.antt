-- What calls answer, and what they leave, for what is due. Nothing is said of what is left where nothing is due.
use Rattle.std.specs.Prelude.{◌≡◌, Option, Some, None}

-- what is left, where that is due
abbrev pub Gives : {A : Type 0} → Option A → Option (Unit {0}) → A → Type 0
Gives (Some due) answer new = (answer ≡ Some tt) × (new ≡ due)
Gives None answer new = answer ≡ None

-- the answer and what is left, where both are due
abbrev pub Makes : {A B : Type 0} → Option (A × B) → Option A → B → Type 0
Makes (Some (a, b)) answer new = (answer ≡ Some a) × (new ≡ b)
Makes None answer new = answer ≡ None
