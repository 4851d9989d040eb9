-- The calls of rows.
use Rattle.std.proofs.Common.{◌≡◌, ℕ, List, Option, Some, None, Result, ok_or, refl, sym, ap, ◌∙◌}
use Rattle.c_memory.specs.declared.blocks.Block.{Block}
use Rattle.c_memory.specs.declared.value.Value.{Value}
use Rattle.c_memory.specs.MeaningState.{State, Done, Undefined}
use Rattle.c_memory.specs.MeaningRows.{RowTable, found_call, call_of_row, row_done, row_result}
use Rattle.c_memory.specs.declared.memory.Memory.{Memory}
use Rattle.c_values.specs.Results.{Makes}
use Rattle.c_meaning.specs.declared.state.State.{State as CodeState}
use Rattle.c_meaning.specs.declared.state.Stop.{Stop}
use Rattle.c_meaning.specs.States.{seen_state}
use Rattle.c_meaning.specs.Answers.{Answers}

some_done : (r : Option (Option Value × List Block)) (given : Option (Option Value)) (s : State) (m : List Block) (v : Option Value) → Makes r given m → given ≡ Some v → row_done s r ≡ Done v (record s { memory = m })
some_done (Some (a, b)) given s m v h e =
    let same : a ≡ v = cc (h.0, e) in
    ap (λ w. Done w (record s { memory = b })) same ∙ ap (λ n. Done v (record s { memory = n })) (sym h.1)
some_done None given s m v h e = absurd (cc (h, e))

none_done : (r : Option (Option Value × List Block)) (given : Option (Option Value)) (s : State) (m : List Block) → Makes r given m → given ≡ None → row_done s r ≡ Undefined
none_done (Some (a, b)) given s m h e = absurd (cc (h.0, e))
none_done None given s m h e = refl

pub row_answers : {Op : Type 0} (table : RowTable Op) (name : List ℕ) (op : Op) (values : List Value) (s : CodeState) (given : Option (Option Value)) (memory : Memory) (r : Result (Option Value) Stop) →
    table.find name ≡ Some op → Makes (row_result table op values s.memory.blocks) given memory.blocks → r ≡ ok_or given Stop.Undefined → Answers (call_of_row table name values (seen_state s)) r (record s { memory = memory })
row_answers table name op values s None memory r found h e =
    rw e (ap (λ o. found_call table o values (seen_state s)) found ∙ none_done (row_result table op values s.memory.blocks) None (seen_state s) memory.blocks h refl)
row_answers table name op values s (Some v) memory r found h e =
    rw e (ap (λ o. found_call table o values (seen_state s)) found ∙ some_done (row_result table op values s.memory.blocks) (Some v) (seen_state s) memory.blocks v h refl)
