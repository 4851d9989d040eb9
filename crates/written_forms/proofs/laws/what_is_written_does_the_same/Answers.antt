use Rattle.std.proofs.Common.{refl}
use Rattle.c_memory.specs.MeaningRows.{call_of_row}
use Rattle.neon_table.specs.Found.{found_by_name}
use Rattle.seq_core.specs.Rows as neon
use Rattle.written_forms.specs.Ready.{table}
use Rattle.written_forms.proofs.UnitSims.{unit_does_the_same}
use Rattle.written_forms.proofs.laws.what_is_written_does_the_same.Goals as goal

pub returns : goal.returns
returns c = λ plans us unit h.
    unit_does_the_same (record {
      forms = record {
        place = record { gives = c.a_sequence_in_place_gives_its_value.ensures; out = c.a_sequence_in_place_runs_out_with_its_operands.ensures };
        address = c.a_sequence_in_place_takes_no_address.ensures;
        brace = c.braces_change_nothing.ensures.does;
        turns = c.turns_are_counted_alike.ensures;
      };
      memory = c.a_memory_that_covers_serves.ensures;
      named = λ op. found_by_name op;
      function = c.a_function_does_what_its_sequence_does.ensures;
      value = c.a_sequence_without_memory_gives_its_value.ensures;
    }) plans us unit h (call_of_row table) (call_of_row neon.table) (λ f op e vs s. rw e refl) (λ op vs s. rw (found_by_name op) refl)
