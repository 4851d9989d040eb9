use Rattle.std.proofs.Common.{[]}
use Rattle.vector_types.specs.Units.{unit_env}
use Rattle.vector_types.proofs.Complete.{items-pass}
use Rattle.vector_types.proofs.Sound.{items-typed}
use Rattle.vector_types.proofs.laws.units_are_typed_by_rules.Goals as goal

pub returns : goal.returns
returns c =
    let types = c.expressions_are_typed_by_rules.ensures.typed in
    let gives = c.types_are_by_rules.ensures.assigned in
    let objects = c.objects_are_typed_by_rules.ensures.typed in
    let statements = c.statements_are_typed_by_rules.ensures.typed in
    let order = c.passing_is_by_the_rules.ensures.whole in
    let passes = items-pass types gives objects statements order in
    record {
      typed = λ d u v. (items-typed types gives objects statements order u (unit_env d u) [] v, passes (unit_env d u) [] u v);
      one_form = λ d u v w x y. (let p = passes (unit_env d u) [] u v x in let q = passes (unit_env d u) [] u w y in cc);
      refused = λ d u v list e x. (let p = passes (unit_env d u) [] u v x in cc);
    }
