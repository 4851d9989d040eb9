-- What the uses that are being read still ask for, as the code keeps them.
use Rattle.std.specs.Prelude.{ℕ, suc, ◌+◌, List, [], ◌∷◌, ◌++◌, length, drop, slice_get, Bool, true, false, Option, Some, None}
use Rattle.c_text.specs.declared.tokens.Token.{Token}
use Rattle.c_macros.specs.Definition.{Definition, Macros}
use Rattle.c_macros.specs.Expansion.{Made, and_then, behind, outermost, filled, each, replaced, bodies_in, expand_in}

-- how many tokens arguments and the marks behind them are
abbrev pub size : List (List Token) → ℕ
size [] = 0
size (a ∷ args) = suc (length a) + size args

-- a use: its name, the outermost use that it stands in, if it stands in one, its macro, its arguments, how many of them were read, those that are expanded, what stands behind it, and what was
-- made in front of it
pub record Frame : Type 0 where
  pub name : Token
  pub outer : Option Token
  pub definition : Definition
  pub arguments : List (List Token)
  pub next : ℕ
  pub done : List (List Token)
  pub rest : List Token
  pub front : List Token

-- the frame with one more argument expanded
abbrev pub with_done : List Token → Frame → Frame
with_done x f = record f { done = f.done ++ x ∷ [] }

-- a use of which nothing is read
abbrev pub fresh : Option Token → Token → Definition → List (List Token) → List Token → List Token → Frame
fresh top t m args rest front = record { name = t; outer = top; definition = m; arguments = args; next = 0; done = []; rest = rest; front = front }

-- the outermost use of the use's arguments and of its body
abbrev pub top_of : Frame → Token
top_of f = outermost f.outer f.name

-- what is read of an argument: nothing where its parameter stands nowhere in the body
abbrev pub read_next : Bool → List Token → List Token
read_next true a = a
read_next false a = []

abbrev pub read_both : Option Bool → Option (List Token) → Option (List Token)
read_both (Some used) (Some a) = Some (read_next used a)
read_both (Some used) None = None
read_both None a = None

-- what is read of the next argument
abbrev pub next_of : Frame → Option (List Token)
next_of f = read_both (slice_get f.definition.used f.next) (slice_get f.arguments f.next)

-- the next argument is being read
abbrev pub passed : Frame → Frame
passed f = record f { next = f.next + 1 }

module _ (limit : ℕ) (macros : Macros) (depth : ℕ) (uses : List Token) where
  -- what is made of a use with all its arguments, and of what stands behind it
  abbrev pub ended : Frame → List (List Token) → ℕ → Made (List Token)
  ended f all work =
      and_then (replaced limit (bodies_in limit macros depth) uses (top_of f) f.name (filled f.name.place all f.definition.body) work) (λ ys w.
      and_then (expand_in limit macros depth uses f.outer f.rest w) (behind (f.front ++ ys)))

  -- the same where arguments are left
  abbrev pub pending : Frame → ℕ → Made (List Token)
  pending f work = and_then (each (expand_in limit macros depth uses (Some (top_of f))) (drop f.next f.definition.used) (drop f.next f.arguments) work) (λ xs w. ended f (f.done ++ xs) w)

  -- what is made of the whole, where this is made of the argument that is being read: the uses are the outermost first
  abbrev pub resumed : List Frame → Made (List Token) → Made (List Token)
  resumed [] made = made
  resumed (f ∷ fs) made = and_then (resumed fs made) (λ x w. pending (with_done x f) w)
