-- What is asked of the calls of both units.
use Rattle.std.specs.Prelude.{◌≡◌, ℕ, List, length, Option, Some, true}
use Rattle.c_memory.specs.declared.value.Value.{Value}
use Rattle.c_memory.specs.MeaningRows.{row_call}
use Rattle.c_memory.specs.MeaningState.{State, Done}
use Rattle.c_memory.specs.Meaning.{Calls}
use Rattle.intel_table.specs.declared.IntelOp.{IntelOp}
use Rattle.intel_table.specs.Rows.{find_of, range_of}
use Rattle.seq_core.specs.Rows.{AreRows}
use Rattle.seq_core.specs.Terms.{Sequence}
use Rattle.seq_core.specs.Values.{sequence_value}
use Rattle.simulation.specs.Alike.{CallsTo}
use Rattle.written_forms.specs.TypedValues.{TypedValues}
use Rattle.written_forms.specs.Moved.{helper_name}
use Rattle.written_forms.specs.Ready.{table, Heading, Setting}

-- Functions do the same in both; the names of the rows mean the rows in each; and a row's function, where there is one, gives its sequence's
-- value and does nothing else.
pub record CallsAgree (n : ℕ) (w : Setting) (c d : Calls) : Type 0 where
  pub functions : (f : List ℕ) (h : Heading) → w.heads f ≡ Some h → CallsTo n TypedValues c d f h.params h.result f
  pub rows : (f : List ℕ) (op : IntelOp) → find_of f ≡ Some op → (vs : List Value) (s : State) → c f vs s ≡ row_call table op vs s
  pub neon : AreRows d
  pub helpers : (f : List ℕ) (op : IntelOp) (imm : ℕ) (q : Sequence) → find_of f ≡ Some op → w.plans f imm ≡ Some q → w.helps f imm ≡ true
      → (ws : List Value) (o : Option Value) → length q.params ≡ length ws → sequence_value q ws ≡ Some o → (t : State) → d (helper_name f (range_of op) imm) ws t ≡ Done o t
