use Rattle.object_types.proofs.Complete.{complete}
use Rattle.object_types.proofs.Sound.{sound}
use Rattle.object_types.proofs.laws.objects_are_typed_by_rules.Goals as goal

pub returns : goal.returns
returns c =
    let types = c.expressions_are_typed_by_rules.ensures.typed in
    let gives = c.types_are_by_rules.ensures.assigned in
    let passes = complete types gives in
    record {
      typed = λ env d v. (sound types gives env d v, passes env d v);
      one_form = λ env d v w x y. (let p = passes env d v x in let q = passes env d w y in cc);
      refused = λ env d v r e x. (let p = passes env d v x in cc);
    }
