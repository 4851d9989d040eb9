use Rattle.address_taken.proofs.Walk.{parts_and}
use Rattle.address_taken.proofs.taken.parts_and.Goals as goal

pub returns : goal.returns
returns c = parts_and c.args.parts c.push.new.self c.args.part c.in_ok-push.ensures.items
