use Rattle.c_meaning.proofs.Placed.{set_place}
use Rattle.c_meaning.proofs.places.Places.set.Goals as goal

pub returns : goal.returns
returns c = set_place c.args.self.now.map.entries _ c.in_ok-key.key c.args.name.now c.args.place c.in_ok-insert.ensures.entries c.in_ok-key.ensures.items
