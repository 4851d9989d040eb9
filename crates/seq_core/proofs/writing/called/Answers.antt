use Rattle.std.proofs.Common.{◌≡◌, ap, subst, IfOk}
use Rattle.lane_core.specs.Table.{params_of}
use Rattle.c_tree.specs.View.{view as view_tree, views}
use Rattle.neon_table.specs.Rows.{signature_of}
use Rattle.seq_core.specs.Written.{call, with_constant}
use Rattle.seq_core.proofs.Lists.{listed_back}
use Rattle.seq_core.proofs.writing.called.Goals as goal

pub returns : goal.returns
returns c =
    let same : views c.push_placed.new.out.items ≡ with_constant c.args.place (params_of (signature_of c.args.op)) (views c.args.operands.now) c.args.imm =
    rw (c.in_ok-push_placed.ensures, c.new-all.ensures.items, c.kinds_of.ensures, c.signature-sig.ensures.value) (listed_back _) in
    subst (λ tree. IfOk c.call.result (λ e. view_tree e ≡ tree)) (ap (call c.args.place c.args.op) same) c.call.ensures
