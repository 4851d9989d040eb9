use Rattle.std.proofs.Common.{◌≡◌, Ok, rules}
use Rattle.c_tree.specs.View.{view_unit}
use Rattle.vector_types.specs.Units.{check_unit}
use Rattle.vector_types.proofs.units.check.Goals as goal

pub new-requires : goal.new-requires
new-requires c =
    let passes : check_unit c.args.dialect (view_unit c.args.unit.now) ≡ Ok (view_unit (record { items = c.in_ok-judged.judged.items })) = search rules in
    (view_unit c.args.unit.now, passes)
