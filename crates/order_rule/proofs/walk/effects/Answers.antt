use Rattle.std.proofs.Common.{◌∙◌, ap}
use Rattle.c_tree.specs.View.{view_function}
use Rattle.order_rule.specs.Callees.{callees_of}
use Rattle.order_rule.specs.Full.{Findings, full_expressions}
use Rattle.order_rule.proofs.Noted.{effects_found}
use Rattle.order_rule.proofs.walk.effects.Goals as goal

pub returns : goal.returns
returns c =
    ap (λ (f : Findings). f.effects) c.in_ok-found.ensures ∙ effects_found (callees_of c.args.callees.now) (full_expressions (view_function c.args.function.now))
