use Rattle.expression_types.proofs.Complete.{complete}
use Rattle.expression_types.proofs.Sound.{sound}
use Rattle.expression_types.proofs.laws.expressions_are_typed_by_rules.Goals as goal

pub returns : goal.returns
returns c =
    let laws = c.types_are_by_rules.ensures in
    let passes = complete laws.results laws.stays laws.passed in
    record {
      typed = λ env u v. (sound laws.results laws.stays laws.passed env u v, passes env u v);
      one_form = λ env u v w x y. (let p = passes env u v x in let q = passes env u w y in cc);
      refused = λ env u v r e x. (let p = passes env u v x in cc);
    }
