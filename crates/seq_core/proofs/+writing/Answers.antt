use Rattle.std.proofs.Common.{map}
use Rattle.c_tree.specs.View.{view as view_tree}
use Rattle.seq_core.specs.Written.{pen}
use Rattle.seq_core.proofs.Lists.{all_written_are}
use Rattle.seq_core.proofs.+writing.Goals as goal

pub writing::all_written-returns : goal.writing::all_written-returns
writing::all_written-returns g c =
    all_written_are (pen c.args.place (map view_tree c.args.params.now) (map view_tree c.args.steps.now)) c.loop-t.out.items c.args.all.now c.loop-t.t-index c.loop-t.invariant c.loop-t-test.false
