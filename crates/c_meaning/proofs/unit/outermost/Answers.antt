use Rattle.std.proofs.Common.{◌≡◌, true, map, ap, sym, ◌∙◌}
use Rattle.c_meaning.specs.States.{seen_state}
use Rattle.c_meaning.specs.Seen.{seen_objects}
use Rattle.c_meaning.specs.Callees.{seen_callee}
use Rattle.c_meaning.specs.Marked.{is_first_flagged}
use Rattle.c_meaning.specs.Flagged.{outermost}
use Rattle.c_meaning.proofs.Callees.{outermost_enters}
use Rattle.c_meaning.proofs.unit.outermost.Goals as goal

pub returns-in-Some : goal.returns-in-Some
returns-in-Some g c =
    let all = c.args.env.now.callees.all.items in
    let first : is_first_flagged c.args.name.now (map seen_callee all) c.in-Some.k ≡ true = ap (λ l. is_first_flagged c.args.name.now (map seen_callee l) c.in-Some.k) (sym c.as_slice.ensures.value) ∙ c.in-Some.ensures.first in
    c.outcome.ensures (outermost (seen_objects c.args.env.now.tables) g.R.Rows.row_call (map seen_callee all) c.args.name.now c.args.args.now (seen_state c.args.state))
    (rw (outermost_enters c.args.env.now.tables g.R.Rows.row_call all c.in-Some.k c.index-callee.result.now c.args.name.now c.args.args.now (seen_state c.args.state) first c.index-callee.ensures) c.enter-entered.ensures)
