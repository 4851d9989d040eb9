use Rattle.std.proofs.Common.{◌∙◌, ◌∷◌, ◌++◌, [], sym, ap}
use Rattle.address_taken.specs.Marks.{is_marked}
use Rattle.address_taken.proofs.Marked.{kept_one}
use Rattle.address_taken.proofs.hiding.hide.Goals as goal

pub returns-in_ok-push-clause-kept : goal.returns-in_ok-push-clause-kept
returns-in_ok-push-clause-kept c =
    kept_one (is_marked c.args.marks.now) (is_marked c.remove.new.self) c.bytes.result.now c.args.hidden.now.items c.push.new.self.items (sym c.in_ok-was.ensures.was ∙ c.if-was.true) c.in_ok-was.ensures.others
    (c.in_ok-push.ensures.items ∙ ap (λ n. c.args.hidden.now.items ++ n ∷ []) (c.in_ok-name.ensures ∙ sym c.bytes.ensures))
