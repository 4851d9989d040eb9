-- What the code of the expansion answers.
use Rattle.std.specs.Prelude.{◌≡◌, ℕ, ◌+◌, suc, List, [], ◌∷◌, map, drop, length, Result, Ok, Err}
use Rattle.std.specs.Option.{option_copied}
use Rattle.c_text.specs.declared.tokens.Token.{Token}
use Rattle.c_text.specs.declared.refusals.Fail.{Fail}
use Rattle.c_text.specs.declared.refusals.Fail.TheVariants.{Refused, Memory}
use Rattle.c_macros.specs.declared.expanding.Made.{Made as CodeMade}
use Rattle.c_macros.specs.declared.expanding.Open.{Open}
use Rattle.c_macros.specs.declared.expanding.Next.{Next}
use Rattle.c_macros.specs.Definition.{Macros}
use Rattle.c_macros.specs.Expansion.{Made, and_then, behind, expand_in}
use Rattle.c_macros.specs.Stack.{Frame, resumed, size}

-- it is refused so, unless memory ran out
abbrev pub Refuses : {X : Type 0} → Made X → Fail → Type 0
Refuses m (Refused r) = m ≡ Err r
Refuses m Memory = Unit {0}

-- what is made is what the definition gives, or it is refused so
abbrev pub Gives : {X : Type 0} → Made (List Token) → Result X Fail → CodeMade → Type 0
Gives m (Ok x) made = m ≡ Ok (made.tokens.items, made.work)
Gives m (Err e) made = Refuses m e

abbrev pub frame_seen : Open → Frame
frame_seen o = record {
  name = o.name.now;
  outer = option_copied o.outer;
  definition = o.definition.now;
  arguments = map (λ a. a.tokens.now) o.arguments.items;
  next = o.next;
  done = map (λ v. v.items) o.done.items;
  rest = o.rest.tokens.now;
  front = o.front.items;
}

-- how many steps a use still takes at most
abbrev pub frame_size : Frame → ℕ
frame_size f = size (drop f.next f.arguments) + suc (length f.rest)

abbrev pub stack_size : List Frame → ℕ
stack_size [] = 0
stack_size (f ∷ fs) = frame_size f + stack_size fs

-- the whole is what these uses ask for, with these tokens to be read in the innermost, or it is refused so
abbrev pub Goes : ℕ → Macros → ℕ → List Token → Made (List Token) → Result Next Fail → List Open → CodeMade → Type 0
Goes limit macros depth uses whole (Ok next) stack made =
    whole ≡ resumed limit macros depth uses (map frame_seen stack) (and_then (expand_in limit macros depth uses (option_copied next.outer) next.segment.tokens.now made.work) (behind made.tokens.items))
Goes limit macros depth uses whole (Err e) stack made = Refuses whole e
