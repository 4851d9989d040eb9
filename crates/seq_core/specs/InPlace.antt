-- When the written expression may stand where the row's call stood: over operands whose expressions may change the state.
use Rattle.std.specs.Prelude.{◌≡◌, ℕ, suc, Bool, true, false, ◌&&◌, nat_le, ◌⊎◌, List, [], ◌∷◌, ◌++◌, length, Option, Some, None, get_or, slice_get, if◌then◌else◌}
use Rattle.std.specs.Str.{bytes_eq}
use Rattle.c_text.specs.declared.tokens.Place.{Place}
use Rattle.c_tree.specs.declared.types.CType.{CType}
use Rattle.c_tree.specs.Tree.{Tree}
use Rattle.address_taken.specs.Addressed.{takes}
use Rattle.c_memory.specs.declared.value.Value.{Value}
use Rattle.c_memory.specs.MeaningState.{State, Done, Turns}
use Rattle.c_memory.specs.Meaning.{Calls, expression}
use Rattle.seq_core.specs.Rows.{AreRows}
use Rattle.seq_core.specs.Terms.{Sequence, Term, Terms, Param, Const, Int, Call, PairOf, Scalar, Convert, NoTerms, More}
use Rattle.seq_core.specs.Values.{value_of, sequence_value}
use Rattle.seq_core.specs.Called.{rows_called}
use Rattle.seq_core.specs.Formed.{IsFormed, WellFormed}
use Rattle.seq_core.specs.Written.{pen, nothing, written}

-- the occurrences of parameters in the order of evaluation
abbrev mutual
  pub leaves : Term → List ℕ
  leaves (Param n) = n ∷ []
  leaves (Call op all imm) = leaves_of_all all
  leaves (PairOf a b) = leaves a ++ leaves b
  leaves (Scalar o a b) = leaves a ++ leaves b
  leaves (Convert t a) = leaves a
  leaves t = []

  pub leaves_of_all : Terms → List ℕ
  leaves_of_all NoTerms = []
  leaves_of_all (More t rest) = leaves t ++ leaves_of_all rest

-- the term is of parameters, constants, calls, pairs and operators, all parts of which are evaluated
abbrev mutual
  pub is_straight : Term → Bool
  is_straight (Param n) = true
  is_straight (Const r) = true
  is_straight (Int n) = true
  is_straight (Call op all imm) = are_straight all
  is_straight (PairOf a b) = is_straight a && is_straight b
  is_straight (Scalar o a b) = is_straight a && is_straight b
  is_straight (Convert t a) = is_straight a
  is_straight t = false

  pub are_straight : Terms → Bool
  are_straight NoTerms = true
  are_straight (More t rest) = is_straight t && are_straight rest

-- the operands of these numbers, run one after another, give their values and lead from one state to another
abbrev pub Runs : Calls → Place → List Tree → List Value → State → List ℕ → State → Type 0
Runs c place params ps s [] u = s ≡ u
Runs c place params ps s (n ∷ ns) u =
    (w : State) × (v : Value) × (slice_get ps n ≡ Some v) × (expression (get_or params n (nothing place)) c s ≡ Done (Some v) w) × Runs c place params ps w ns u

-- Where the operands run in the order in which the term has them, the expression gives the value that the term has over their values, and
-- leaves the state that they leave. So an operand that changes the state stands once, and those that do stand in their order.
abbrev pub HoldsInPlace : Place → List Tree → Term → Tree → Type 0
HoldsInPlace place params t e = (ts : List CType) → IsFormed ts [] t → is_straight t ≡ true → (c : Calls) → AreRows c → (ps : List Value) (s u : State) → Runs c place params ps s (leaves t) u → (v : Value) → value_of ps [] t ≡ Some v → expression e c s ≡ Done (Some v) u

-- An operand is simple where its expression reads the same wherever the operands' run has come to: a constant, or a variable that is always
-- set. All others are compound.
abbrev pub is_simple : List Bool → ℕ → Bool
is_simple simple n = get_or simple n false

-- those of the operands that are compound
abbrev pub compounds : List Bool → List ℕ → List ℕ
compounds simple [] = []
compounds simple (n ∷ ns) = if is_simple simple n then compounds simple ns else n ∷ compounds simple ns

-- all operands from the n-th on, in their order
abbrev pub numbers_from : ℕ → List Bool → List ℕ
numbers_from n [] = []
numbers_from n (s ∷ rest) = n ∷ numbers_from (suc n) rest

-- one expression that has each compound operand once, in the operands' order
abbrev pub stands_alone : List Bool → List Term → Option Term → Bool
stands_alone simple [] (Some t) = is_straight t && bytes_eq (compounds simple (leaves t)) (compounds simple (numbers_from 0 simple))
stands_alone simple _ _ = false

-- the sequence may stand where the row's call stood, over operands that are simple or not; it has at most three calls
abbrev pub stands_in_place : List Bool → Sequence → Bool
stands_in_place simple q = stands_alone simple q.steps q.result && nat_le (length (rows_called q)) 3

-- the expression that then stands there
abbrev pub in_place : Place → List Tree → Option Term → Tree
in_place place params None = nothing place
in_place place params (Some t) = written (pen place params []) t

-- each simple operand gives its value in a state, and leaves the state
abbrev pub Readable : Calls → Place → List Tree → List Value → List Bool → State → Type 0
Readable c place params ps simple s =
    (n : ℕ) (v : Value) → is_simple simple n ≡ true → slice_get ps n ≡ Some v → expression (get_or params n (nothing place)) c s ≡ Done (Some v) s

-- the operands of these numbers run one after another, and the simple ones are readable all the while
abbrev pub RunsAmong : Calls → Place → List Tree → List Value → List Bool → State → List ℕ → State → Type 0
RunsAmong c place params ps simple s [] u = Readable c place params ps simple s × (s ≡ u)
RunsAmong c place params ps simple s (n ∷ ns) u =
    Readable c place params ps simple s × (w : State) × (v : Value) × (slice_get ps n ≡ Some v) × (expression (get_or params n (nothing place)) c s ≡ Done (Some v) w) × RunsAmong c place params ps simple w ns u

-- Where the operands run in their order, as they do where the row's call stands, the expression gives the sequence's value over theirs, and
-- leaves the state that they leave.
abbrev pub HoldsWhereItStood : Place → List Tree → List Bool → Sequence → Type 0
HoldsWhereItStood place params simple q = WellFormed q → stands_in_place simple q ≡ true → (c : Calls) → AreRows c → (ps : List Value) (s u : State)
    → RunsAmong c place params ps simple s (compounds simple (numbers_from 0 simple)) u → (v : Value) → sequence_value q ps ≡ Some (Some v) → expression (in_place place params q.result) c s ≡ Done (Some v) u

-- the operands of these numbers run one after another up to one that wants more turns than are left
abbrev pub RunsOut : Calls → Place → List Tree → List Value → State → List ℕ → Type 0
RunsOut c place params ps s [] = ⊥
RunsOut c place params ps s (n ∷ ns) =
    (expression (get_or params n (nothing place)) c s ≡ Turns) ⊎ ((w : State) × (v : Value) × (slice_get ps n ≡ Some v) × (expression (get_or params n (nothing place)) c s ≡ Done (Some v) w) × RunsOut c place params ps w ns)

-- and the simple ones are readable all the while
abbrev pub RunsOutAmong : Calls → Place → List Tree → List Value → List Bool → State → List ℕ → Type 0
RunsOutAmong c place params ps simple s [] = ⊥
RunsOutAmong c place params ps simple s (n ∷ ns) =
    Readable c place params ps simple s × ((expression (get_or params n (nothing place)) c s ≡ Turns) ⊎ ((w : State) × (v : Value) × (slice_get ps n ≡ Some v) × (expression (get_or params n (nothing place)) c s ≡ Done (Some v) w) × RunsOutAmong c place params ps simple w ns))

-- Where an operand wants more turns than are left, so does the expression, whatever values those behind it would have.
abbrev pub RunsOutWhereItStood : Place → List Tree → List Bool → Sequence → Type 0
RunsOutWhereItStood place params simple q = WellFormed q → stands_in_place simple q ≡ true → (c : Calls) → AreRows c → (ps : List Value) (s : State)
    → RunsOutAmong c place params ps simple s (compounds simple (numbers_from 0 simple)) → (v : Value) → sequence_value q ps ≡ Some (Some v) → expression (in_place place params q.result) c s ≡ Turns

-- Where the operands' expressions take no address, what stands in place takes none.
abbrev pub TakesNoAddress : Place → List Tree → Sequence → Type 0
TakesNoAddress place params q = ((x : List ℕ) (n : ℕ) (e : Tree) → takes x e ≡ false → takes x (get_or params n e) ≡ false) → (x : List ℕ) → takes x (in_place place params q.result) ≡ false
