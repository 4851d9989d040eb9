-- After a call what it began has ended.
use Rattle.std.proofs.Common.{◌≡◌, ℕ, zero, suc, ◌+◌, ◌≤◌, true, false, List, [], ◌∷◌, ◌++◌, map, length, Option, Some, slice_get, if◌then◌else◌, sym, ap, subst, arith}
use Rattle.std.proofs.lemmas.List.{length-append}
use Rattle.std.specs.Str.{bytes_eq}
use Rattle.c_tree.specs.Tree.{Definition, External}
use Rattle.c_memory.specs.declared.blocks.Block.{Block}
use Rattle.c_memory.specs.declared.value.Value.{Value}
use Rattle.c_memory.specs.Memory.{ended, ended_from}
use Rattle.c_memory.specs.MeaningState.{State, Binding, Out, Done, Turns, Undefined, then_do}
use Rattle.c_memory.specs.Meaning.{Calls, back_to, call_of, with_function, outermost, outcome, means, table_blocks, table_objects, functions}
use Rattle.c_meaning.specs.Ended.{HaveEnded}

all_ended : (m : List Block) (k : ℕ) (b : Block) → slice_get (map ended m) k ≡ Some b → b.alive ≡ false
all_ended [] k b e = absurd cc
all_ended (x ∷ m) zero b e = let same : ended x ≡ b = cc in ap (λ c. c.alive) (sym same)
all_ended (x ∷ m) (suc k) b e = all_ended m k b e

ended_get : (n : ℕ) (m : List Block) (k : ℕ) (b : Block) → slice_get (ended_from n m) k ≡ Some b → n ≤ k → b.alive ≡ false
ended_get zero m k b e h = all_ended m k b e
ended_get (suc n) [] k b e h = absurd cc
ended_get (suc n) (x ∷ m) zero b e h = absurd (omega arith)
ended_get (suc n) (x ∷ m) (suc k) b e h = ended_get n m k b e (omega arith)

back_ended : (s : State) (o : Out (Option Value)) → HaveEnded (length s.memory) (outcome (then_do o (back_to s)))
back_ended s (Done v t) = λ k b e h. ended_get (length s.memory) t.memory k b e h
back_ended s Turns = tt
back_ended s Undefined = tt

outermost_ended : (tables : List Binding) (c : Calls) (fs : List Definition) (name : List ℕ) (args : List Value) (s : State) → HaveEnded (length s.memory) (outcome (outermost tables c fs name args s))
outermost_ended tables c [] name args s = tt
outermost_ended tables c (f ∷ rest) name args s =
    elim (bytes_eq name f.name) as (λ b. HaveEnded (length s.memory) (outcome ((if b then call_of tables f c args else outermost tables (with_function tables f c) rest name args) s)))
    [ true ↦ back_ended s _ | false ↦ outermost_ended tables (with_function tables f c) rest name args s ]

-- what a run began has ended after it; the tables' blocks stay
pub means_ended : (rows : Calls) (unit : List External) (name : List ℕ) (args : List Value) (memory : List Block) (turns : ℕ) → HaveEnded (length memory + length (table_blocks unit)) (means rows unit name args memory turns)
means_ended rows unit name args memory turns =
    subst (λ n. HaveEnded n (means rows unit name args memory turns)) (length-append memory (table_blocks unit))
    (outermost_ended (table_objects (length memory) unit) rows (functions unit) name args (record { objects = []; memory = memory ++ table_blocks unit; left = turns }))
