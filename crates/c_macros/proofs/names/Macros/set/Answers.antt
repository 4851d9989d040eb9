use Rattle.c_macros.specs.Entries.{macros_of}
use Rattle.c_macros.proofs.Lookups.{stands_inserted}
use Rattle.c_macros.proofs.names.Macros.set.Goals as goal

pub returns : goal.returns
unfolding macros_of
returns c = stands_inserted c.args.self.now.map.entries _ c.in_ok-key.key c.args.name.now c.args.definition c.in_ok-insert.ensures.entries c.in_ok-key.ensures.items
