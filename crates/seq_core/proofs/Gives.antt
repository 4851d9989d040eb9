-- What an expression does to memory alone.
use Rattle.std.specs.Prelude.{◌≡◌, List, Some}
use Rattle.c_tree.specs.Tree.{Tree}
use Rattle.c_memory.specs.declared.blocks.Block.{Block}
use Rattle.c_memory.specs.declared.value.Value.{Value}
use Rattle.c_memory.specs.MeaningState.{State, Done}
use Rattle.c_memory.specs.Meaning.{Calls, expression}

-- the state with another memory
abbrev pub at : State → List Block → State
at s m = record s { memory = m }

-- an expression gives a value and leads from one memory to another; objects and turns stay
abbrev pub LeadsIt : Calls → State → Tree → List Block → Value → List Block → Type 0
LeadsIt c s e m v n = expression e c (at s m) ≡ Done (Some v) (at s n)
