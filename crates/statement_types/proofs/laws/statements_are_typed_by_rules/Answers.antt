use Rattle.statement_types.proofs.Complete.{statement-holds, statements-hold, objects-hold}
use Rattle.statement_types.proofs.Sound.{statement-says, statements-say, objects-say}
use Rattle.statement_types.proofs.laws.statements_are_typed_by_rules.Goals as goal

pub returns : goal.returns
returns c =
    let passes = c.expressions_are_typed_by_rules.ensures.typed in
    let given = c.types_are_by_rules.ensures.assigned in
    let declares = c.objects_are_typed_by_rules.ensures.typed in
    let statement = statement-holds passes given declares in
    let row = statements-hold passes given declares in
    let objects = objects-hold passes given declares in
    record {
      statement = λ d s v. (statement-says passes given declares d s v, statement d s v);
      one_statement = λ d s v w x y. (let p = statement d s v x in let q = statement d s w y in cc);
      statement_refused = λ d s v r e x. (let p = statement d s v x in cc);
      typed = λ d s v. (statements-say passes given declares d s v, row d s v);
      one_form = λ d s v w x y. (let p = row d s v x in let q = row d s w y in cc);
      refused = λ d s v r e x. (let p = row d s v x in cc);
      objects = λ env s v. (objects-say passes given declares env s v, objects env s v);
      one_form_of_objects = λ env s v w x y. (let p = objects env s v x in let q = objects env s w y in cc);
      objects_refused = λ env s v r e x. (let p = objects env s v x in cc);
    }
