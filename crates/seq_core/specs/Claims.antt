-- What is claimed of sequences and of the functions that are written for them.
use Rattle.std.specs.Prelude.{◌≡◌, ◌<◌, ◌^◌, List, length, Option, Some}
use Rattle.c_tree.specs.Tree.{Definition}
use Rattle.c_memory.specs.declared.blocks.Block.{Block}
use Rattle.c_memory.specs.declared.value.Value.{Value}
use Rattle.c_memory.specs.MeaningState.{Binding, State, Done}
use Rattle.c_memory.specs.Meaning.{Calls, call_of}
use Rattle.seq_core.specs.Rows.{AreRows}
use Rattle.seq_core.specs.Terms.{Sequence}
use Rattle.seq_core.specs.Values.{sequence_value}
use Rattle.seq_core.specs.Actions.{sequence_in}
use Rattle.seq_core.specs.Formed.{WellFormed}

-- a well-formed sequence whose parameters and steps can be numbered in 64 bits, as every list in a program can
abbrev pub IsCallable : Sequence → Type 0
IsCallable q = WellFormed q × (length q.params < 2 ^ 64) × (length q.steps < 2 ^ 64)

-- a call of the function, whatever else is called and whatever tables are in scope, gives the sequence's value and leaves the memory that
-- the sequence leaves, wherever the sequence is defined; it spends no turn, and the objects in scope are those before
abbrev pub DoesTheSame : Sequence → Definition → Type 0
DoesTheSame q f = (c : Calls) → AreRows c → (tables : List Binding) (vs : List Value) (s : State) (o : Option Value) (memory : List Block)
    → length q.params ≡ length vs → sequence_in q vs s.memory ≡ Some (o, memory) → call_of tables f c vs s ≡ Done o (record s { memory = memory })

-- what a sequence gives without memory it gives over every memory, which it leaves
abbrev pub GivesItsValue : Sequence → Type 0
GivesItsValue q = WellFormed q → (ps : List Value) (o : Option Value) → sequence_value q ps ≡ Some o → (memory : List Block) → sequence_in q ps memory ≡ Some (o, memory)
