use Rattle.shuffle_plans.proofs.Planned.{planned_by}
use Rattle.shuffle_plans.proofs.plans.planned.Goals as goal

pub returns : goal.returns
returns g c =
    planned_by c.sequence.result c.args.chooser.now.stated c.args.row c.args.imm c.args.half c.picked-want.result c.has_two.result c.cheapest-chosen.result c.picked-want.ensures c.has_two.ensures c.cheapest-chosen.ensures c.sequence.ensures
