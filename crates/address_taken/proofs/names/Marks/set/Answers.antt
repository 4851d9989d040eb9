use Rattle.address_taken.proofs.Marked.{set_mark}
use Rattle.address_taken.proofs.names.Marks.set.Goals as goal

pub returns : goal.returns
returns c = set_mark c.args.self.now.map.entries _ c.in_ok-key.key c.args.name.now c.args.mark c.in_ok-insert.ensures.entries c.in_ok-key.ensures.items
