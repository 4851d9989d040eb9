-- What a function of the evaluator answers and leaves, for what is due. Want of memory may come at any time.
use Rattle.std.specs.Prelude.{◌≡◌, Result, Ok, Err}
use Rattle.c_memory.specs.MeaningState.{Out, Done, Turns, Undefined}
use Rattle.c_meaning.specs.declared.state.State.{State}
use Rattle.c_meaning.specs.declared.state.Stop.{Stop}
use Rattle.c_meaning.specs.declared.state.Stop.TheVariants as stop
use Rattle.c_meaning.specs.States.{seen_state}

-- the answer is seen as what is due
abbrev pub Shows : {A B : Type 0} → (B → A) → Out A → Result B Stop → State → Type 0
Shows view out (Ok b) new = out ≡ Done (view b) (seen_state new)
Shows view out (Err stop.NoMemory) new = Unit {0}
Shows view out (Err stop.Turns) new = out ≡ Turns
Shows view out (Err stop.Undefined) new = out ≡ Undefined

-- the answer is what is due
abbrev pub Answers : {A : Type 0} → Out A → Result A Stop → State → Type 0
Answers out (Ok a) new = out ≡ Done a (seen_state new)
Answers out (Err stop.NoMemory) new = Unit {0}
Answers out (Err stop.Turns) new = out ≡ Turns
Answers out (Err stop.Undefined) new = out ≡ Undefined
