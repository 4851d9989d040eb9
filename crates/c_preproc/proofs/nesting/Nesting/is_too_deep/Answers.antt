use Rattle.std.proofs.Common.{◌≡◌, ◌+◌, arith, length, sum_by}
use Rattle.c_preproc.specs.declared.counts.Counts.{Counts}
use Rattle.c_preproc.specs.Nesting.{open_brackets, weight_of}
use Rattle.c_preproc.proofs.Weighing.{brackets_shown, weight_shown, too_deep_by_weight}
use Rattle.c_preproc.proofs.nesting.Nesting.is_too_deep.Goals as goal

pub returns-else-len-limits-clause-shown : goal.returns-else-len-limits-clause-shown
returns-else-len-limits-clause-shown c = λ cs shown.
    let n = c.args.self.now in
    let items = n.outer.ok.0 in
    let brackets : open_brackets cs ≡ length n.outer.items = brackets_shown n.current n.outer.items cs shown in
    let weight : weight_of cs ≡ length n.outer.items + n.current.run + sum_by (λ (c : Counts). c.run) n.outer.items = weight_shown n.current n.outer.items cs shown in
    too_deep_by_weight c.args.limits cs c.len.result n.weight (omega (arith, items)) (omega (arith, items, n.total)) c.if-len-limits.false
