-- The function that is written for a sequence is its own typed form (C11 6.9.1).
use Rattle.std.proofs.Common.{inl, inr, ◌≡◌, ◌+◌, ◌<◌, ◌^◌, ◌⊎◌, length, [], refl, arith, sym, ap, ◌∙◌, subst}
use Rattle.c_text.specs.declared.tokens.Dialect.TheVariants.{Neon}
use Rattle.c_tree.specs.declared.types.CType.{CType}
use Rattle.type_rules.specs.Types.{read_type}
use Rattle.expression_types.specs.Typed.{IsArray, IsVoidPointer}
use Rattle.statement_types.specs.Statements.{with_objects}
use Rattle.vector_types.specs.Functions.{is_helper, in_function}
use Rattle.vector_types.specs.Typed.{TypedFunction}
use Rattle.seq_core.specs.Functions.{params_from, function_of}
use Rattle.sequence_types.specs.Claims.{IsDeclarable, FunctionIsTyped}
use Rattle.sequence_types.proofs.DeclaredTypes.{no_array}
use Rattle.sequence_types.proofs.RowsBehind.{rows_behind, behind_helper, behind_opened}
use Rattle.sequence_types.proofs.SeenVariables.{Stage}
use Rattle.sequence_types.proofs.FunctionBodies.{declared, params_typed, params_stage, params_seen, body_typed, statements, gives}

read_result : (t : CType) → (t ≡ CType.Void) ⊎ IsDeclarable t → read_type Neon t ≡ t
read_result t (inl e) = subst (λ z. read_type Neon z ≡ z) (sym e) refl
read_result t (inr d) = d.read

result_no_array : (t : CType) → (t ≡ CType.Void) ⊎ IsDeclarable t → IsArray t → ⊥
result_no_array t (inl e) i = subst IsArray e i
result_no_array t (inr d) i = no_array t d.carrier i

result_no_void : (t : CType) → (t ≡ CType.Void) ⊎ IsDeclarable t → IsVoidPointer t → ⊥
result_no_void t (inl e) i = subst IsVoidPointer e i
result_no_void t (inr d) i = d.pointer i

pub function_typed : FunctionIsTyped
function_typed env sees place name q c d may =
    let f = function_of place name q in
    let vs = params_from 0 q.params in
    let ds = declared place vs in
    let inside = in_function f env in
    let lp : 0 + length q.params < 2 ^ 64 = omega (arith, c.1) in
    let ls : 0 + length q.steps < 2 ^ 64 = omega (arith, c.2) in
    let first : Stage inside 0 0 = record {
      dialect = sees.dialect;
      neon = sees.neon;
      rows = behind_opened (record env { calls_none = is_helper env.dialect name }) (behind_helper env (is_helper env.dialect name) (rows_behind env sees place));
      params = λ k l b. refl;
      steps = λ k l b. refl;
    } in
    let body = body_typed place (0 + length q.params) q.params vs (with_objects ds inside) [] []
    (record { stage = params_stage place q.params 0 0 inside first; params = params_seen place q.params 0 0 inside first d lp; steps = tt }) q.steps q.result c.0.1 ls in
    let t = gives place (0 + length q.params) q.params vs [] q.steps q.result in
    let reads : read_type env.dialect t ≡ t = ap (λ e. read_type e t) sees.dialect ∙ read_result t body.0 in
    let b = statements place (0 + length q.params) q.params vs [] q.steps q.result in
    subst (λ z. TypedFunction env f (record f { result = z; params = ds; body = b })) reads
    (TypedFunction.function f ds b may (subst (λ z. IsArray z → ⊥) (sym reads) (result_no_array t body.0)) (subst (λ z. IsVoidPointer z → ⊥) (sym reads) (result_no_void t body.0))
    (params_typed place q.params 0 0 inside first d lp) (body.1 (read_type env.dialect t) reads))
