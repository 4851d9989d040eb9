use Rattle.std.proofs.Common.{◌≡◌, ◌∙◌, ◌||◌, ◌&&◌, not, ℕ, List, Bool, map, ap}
use Rattle.c_tree.specs.declared.statements.Declared.{Declared}
use Rattle.c_tree.specs.declared.statements.Stmt.{Stmt}
use Rattle.c_tree.specs.View.{view_declared, view_stmts}
use Rattle.address_taken.specs.Addressed.{takes_statements}
use Rattle.address_taken.specs.Marks.{is_marked, declared_in}
use Rattle.address_taken.specs.Taken.{taken_statements, seen_all}
use Rattle.address_taken.proofs.Walk.{parameters, function_taken}
use Rattle.address_taken.proofs.Truth.{settled}
use Rattle.address_taken.proofs.taken.taken_and_outside.Goals as goal

pub returns : goal.returns
returns c =
    let ds = map view_declared c.args.function.now.params.items in
    let body = view_stmts c.args.function.now.body.items in
    let m = c.taken_statements.new.marks in
    let none = c.new-marks.result in
    let marked : (x : List ℕ) → is_marked m x ≡ takes_statements x body || (not (declared_in x body) && is_marked none x) =
    λ x. c.in_ok-body.ensures.marked x ∙ ap (λ (l : List Stmt). takes_statements x (view_stmts l) || (not (declared_in x (view_stmts l)) && is_marked none x)) c.as_slice.ensures.value in
    let params : c.in_ok-params.params.items ≡ map (λ d. takes_statements d.name body) ds =
    c.in_ok-params.ensures ∙ ap {B = List Bool} (λ (l : List Declared). map (λ d. is_marked m d.name) (map view_declared l)) c.as_slice-2.ensures.value
    ∙ parameters ds body (is_marked m) (is_marked none) c.new-marks.ensures marked in
    record {
      answer =
          function_taken c.in_ok-params.params.items (map (λ d. takes_statements d.name body) ds) (seen_all c.in_ok-body.body.items) (taken_statements body) params
          (c.in_ok-body.ensures.answer ∙ ap (λ (l : List Stmt). taken_statements (view_stmts l)) c.as_slice.ensures.value);
      outside = λ x. marked x ∙ settled (takes_statements x body) (declared_in x body) (is_marked none x) (c.new-marks.ensures x);
    }
