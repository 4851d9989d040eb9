use Rattle.std.proofs.Common.{◌≡◌, ◌∙◌, Some, sym, ap, option_map}
use Rattle.seq_core.specs.View.{view_seq}
use Rattle.seq_core.specs.Values.{all_carried, as_arg}
use Rattle.seq_core.proofs.Evaluated.{answer_is, none_left, one_left}
use Rattle.seq_core.proofs.evaluation.eval_seq.Goals as goal

pub returns-in-None-2 : goal.returns-in-None-2
returns-in-None-2 c =
    let q = view_seq c.args.seq.now in
    let read : all_carried q.params c.args.args.now ≡ Some c.in-Some.values.items = rw⁻¹ c.deref.ensures.value (c.in_ok-all_carried.ensures ∙ ap (option_map (λ vs. vs.items)) c.in-Some.is) in
    let g = answer_is q c.args.args.now c.in-Some.values.items c.in_ok-without_memory-in-Some.field-0 c.requires.formed c.requires.defined read (rw⁻¹ c.deref-in-Some.ensures.value c.in_ok-without_memory-in-Some.ensures) in
    absurd (none_left c.in_ok-without_memory-in-Some.field-0 g.0 c.in-None-2.is g.1)

pub returns : goal.returns
returns c =
    let q = view_seq c.args.seq.now in
    let read : all_carried q.params c.args.args.now ≡ Some c.in-Some.values.items = rw⁻¹ c.deref.ensures.value (c.in_ok-all_carried.ensures ∙ ap (option_map (λ vs. vs.items)) c.in-Some.is) in
    let g = answer_is q c.args.args.now c.in-Some.values.items c.in_ok-without_memory-in-Some.field-0 c.requires.formed c.requires.defined read (rw⁻¹ c.deref-in-Some.ensures.value c.in_ok-without_memory-in-Some.ensures) in
    g.2 ∙ ap (λ o. Some (as_arg o)) (one_left c.in_ok-without_memory-in-Some.field-0 g.0 c.in-Some-2.v c.in-Some-2.is g.1) ∙ ap Some (sym c.as_arg.ensures)
