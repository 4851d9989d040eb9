use Rattle.std.proofs.Common.{◌≡◌, ◌+◌, ◌<◌, [], ◌∷◌, ◌∙◌, sym, ap, rules, map, drop, length, arith, get_or, Some}
use Rattle.std.proofs.lemmas.Grind.{common_steps}
use Rattle.std.specs.Vec.Iter.{into_iter_items}
use Rattle.c_tree.specs.View.{view, views}
use Rattle.c_tree.specs.declared.types.CType.TheVariants.{Void}
use Rattle.type_rules.specs.declared.passing.Parameter.TheVariants.{Object}
use Rattle.type_rules.specs.Passing.{given, passed}
use Rattle.type_rules.proofs.Arguments.{behind, no_argument, passes_one_more}
use Rattle.type_rules.proofs.passing.passed.Goals as goal

pub returns-in_default : goal.returns-in_default
returns-in_default c =
    let i = c.loop-p.p-index in
    let left : 0 < length (drop i c.args.params.now) = grind (arith, common_steps) in
    let none = no_argument (drop i c.args.params.now) left in
    let nothing : into_iter_items c.loop-p.left ≡ [] = search rules in
    sym (ap (λ l. passed c.args.params.now (views l)) (sym c.into_iter-left.ensures.rest) ∙ c.loop-p.invariant ∙
    ap (λ l. behind (map view c.loop-p.out.items) (passed (drop i c.args.params.now) (views l))) nothing ∙ ap (behind (map view c.loop-p.out.items)) none)

pub loop-p-preserved : goal.loop-p-preserved
loop-p-preserved c =
    let i = c.loop-p.p-index in
    let ps = c.args.params.now in
    let t = get_or ps i (Object Void) in
    let types : drop i ps ≡ t ∷ drop (i + 1) ps = grind (arith, common_steps) in
    let here : into_iter_items c.loop-p.left ≡ c.in-Some.e ∷ into_iter_items c.first_of.new.left = search rules in
    let fit : Some (view c.in-Some-2.e) ≡ given t (view c.in-Some.e) = search rules in
    passes_one_more (passed ps (views (into_iter_items c.into_iter-left.result))) c.loop-p.out.items c.push.new.self.items (into_iter_items c.loop-p.left) (into_iter_items c.first_of.new.left) (drop i ps) (drop (i + 1) ps) t c.in-Some.e c.in-Some-2.e
    c.loop-p.invariant types here fit c.in_ok-push-in-Some-2.ensures.items
