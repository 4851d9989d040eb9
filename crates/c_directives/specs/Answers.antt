-- What the code of directives answers.
use Rattle.std.specs.Prelude.{◌≡◌, List, reverse, Bool, Option, Some, None, Result, Ok, Err}
use Rattle.c_text.specs.declared.tokens.Token.{Token}
use Rattle.c_text.specs.declared.refusals.Refusal.{Refusal}
use Rattle.c_text.specs.declared.refusals.Fail.{Fail}
use Rattle.c_text.specs.declared.refusals.Fail.TheVariants.{Refused, Memory}
use Rattle.c_macros.specs.Definition.{Macros}
use Rattle.c_macros.specs.Entries.{macros_of}
use Rattle.c_directives.specs.declared.state.State.{State as CodeState}
use Rattle.c_directives.specs.declared.parts.Part.{Part as CodePart}
use Rattle.c_directives.specs.declared.parts.Part.TheVariants.{Text as CodeText, Line as CodeLine}
use Rattle.c_directives.specs.Parts.{Part, Text, Line}
use Rattle.c_directives.specs.Directives.{State, Then}

-- the state that the code keeps
abbrev pub state_of : CodeState → State
state_of s = record { macros = macros_of s.macros; conditions = reverse s.conditions.items; made = s.made.tokens.items; work = s.made.work }

abbrev pub part_seen : CodePart → Part
part_seen (CodeText ts) = Text ts.now
part_seen (CodeLine hash ts) = Line hash.now ts.now

-- it is refused so, unless memory ran out
abbrev pub Refuses : {X : Type 0} → Then X → Fail → Type 0
Refuses t (Refused r) = t ≡ Err r
Refuses t Memory = Unit {0}

-- what is answered is what is due, or it is refused so
abbrev pub Answers : {X : Type 0} → Then X → Result X Fail → Type 0
Answers t (Ok x) = t ≡ Ok x
Answers t (Err e) = Refuses t e

-- nothing is refused, or it is refused so
abbrev pub Refusing : {X : Type 0} → Option Refusal → Result X Fail → Type 0
Refusing o (Ok x) = o ≡ None
Refusing o (Err (Refused r)) = o ≡ Some r
Refusing o (Err Memory) = Unit {0}

-- the macros are what is due
abbrev pub Defines : {X : Type 0} → Then Macros → Result X Fail → Macros → Type 0
Defines t (Ok x) macros = t ≡ Ok macros
Defines t (Err e) macros = Refuses t e

-- the state is what is due
abbrev pub Steps : {X : Type 0} → Then State → Result X Fail → CodeState → Type 0
Steps t (Ok x) s = t ≡ Ok (state_of s)
Steps t (Err e) s = Refuses t e

-- and so is what is tested
abbrev pub Tests : Then (Bool × State) → Result Bool Fail → CodeState → Type 0
Tests t (Ok b) s = t ≡ Ok (b, state_of s)
Tests t (Err e) s = Refuses t e

-- the tokens that are made are what is due
abbrev pub Leaves : {X : Type 0} → Then (List Token) → Result X Fail → List Token → Type 0
Leaves t (Ok x) made = t ≡ Ok made
Leaves t (Err e) made = Refuses t e
