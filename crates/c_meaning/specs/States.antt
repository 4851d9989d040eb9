-- What contracts see of a run's state and of what an assignment sets.
use Rattle.std.specs.Prelude.{ℕ, ◌-◌, List, [], length, drop}
use Rattle.c_memory.specs.declared.blocks.Block.{Block}
use Rattle.c_memory.specs.Memory.{ended_from}
use Rattle.c_memory.specs.MeaningState as state
use Rattle.c_memory.specs.MeaningObjects as object
use Rattle.c_meaning.specs.declared.state.State.{State}
use Rattle.c_meaning.specs.Seen.{seen_objects}
use Rattle.c_meaning.specs.declared.state.Target.{Target}
use Rattle.c_meaning.specs.declared.state.Target.TheVariants.{Named, HalfNamed, There}

abbrev pub seen_state : State → state.State
seen_state s = record { objects = seen_objects s.objects; memory = s.memory.blocks; left = s.left }

-- before a call from outside
abbrev pub at_start : List Block → ℕ → state.State
at_start memory turns = record { objects = []; memory = memory; left = turns }

abbrev pub seen_target : Target → object.Target
seen_target (Named name) = object.Named name.now
seen_target (HalfNamed name k) = object.HalfNamed name.now k
seen_target (There p) = object.There p

-- the state where so many objects stay in scope, and the blocks from a number on have ended
abbrev pub left_at : ℕ → ℕ → state.State → state.State
left_at objects blocks s = record s { objects = drop (length s.objects - objects) s.objects; memory = ended_from blocks s.memory }
