use Rattle.std.proofs.Common.{◌≡◌, ◌∙◌, ◌+◌, ◌∷◌, ◌++◌, [], sym, ap, drop, map, arith, rules}
use Rattle.std.proofs.lemmas.Grind.{common_steps}
use Rattle.std.proofs.lemmas.List.{map-append}
use Rattle.c_tree.specs.View.{view_declared}
use Rattle.scopes.specs.Scopes.{env_of, with_object}
use Rattle.scopes.specs.Kept.{at_file, OnRefusal}
use Rattle.scopes.proofs.Outermost.{on_refusal_then}
use Rattle.object_types.specs.Objects.{known}
use Rattle.statement_types.specs.Statements.{with_objects}
use Rattle.statement_types.proofs.FileScope.{objects_at_file}
use Rattle.statement_types.proofs.Rows.{with_objects-append}
use Rattle.vector_types.proofs.Lists.{one_more_parameter}
use Rattle.vector_types.proofs.functions.check_parameters.Goals as goal

pub loop-d-preserved : goal.loop-d-preserved
loop-d-preserved c =
    let i = c.loop-d.d-index in
    let v = c.in_ok-v.v in
    let here : drop i c.args.all.now ≡ c.d-item.result ∷ drop (i + 1) c.args.all.now = grind (arith, common_steps) in
    let seen : map view_declared c.push.new.self.items ≡ map view_declared c.loop-d.out.items ++ view_declared v ∷ [] = ap (map view_declared) c.in_ok-push.ensures.items ∙ map-append view_declared c.loop-d.out.items (v ∷ []) in
    record {
      goes = one_more_parameter _ _ _ _ _ _ _ _ _ c.loop-d.invariant.goes here c.in_ok-v.ensures.value c.in_ok-push.ensures.items c.in_ok-v.ensures.names;
      names =
          c.in_ok-v.ensures.names ∙ ap (with_object v.name (known v.constant v.ty)) c.loop-d.invariant.names ∙
          sym (ap (λ l. with_objects l (env_of c.args.env.now)) seen ∙ with_objects-append (map view_declared c.loop-d.out.items) (view_declared v) (env_of c.args.env.now));
    }

pub returns-in_err-v-clause-kept : goal.returns-in_err-v-clause-kept
returns-in_err-v-clause-kept c =
    let env = env_of c.args.env.now in
    let kept : OnRefusal c.from_residual.result (at_file (env_of c.check_parameter.new.env) ≡ at_file (env_of c.loop-d.env)) = search rules in
    λ inside. on_refusal_then c.from_residual.result (λ e. e ∙ ap at_file c.loop-d.invariant.names ∙ objects_at_file (map view_declared c.loop-d.out.items) env inside) kept
