-- Typed functions are ready (C11 6.9.1).
use Rattle.std.proofs.Common.{◌≡◌, refl, sym, ◌∙◌, subst, ℕ, true, false, List, map, Option, None}
use Rattle.c_tree.specs.declared.types.CType.{CType}
use Rattle.c_tree.specs.Marks.{short}
use Rattle.c_tree.specs.Tree.{Object, Definition}
use Rattle.c_memory.specs.Functions.{types_of}
use Rattle.type_rules.specs.declared.passing.Parameter.TheVariants as passing
use Rattle.type_rules.specs.Types.{read_type}
use Rattle.scopes.specs.Scopes.{Env, or_else, with_object}
use Rattle.object_types.specs.Objects.{known, behind_declarator}
use Rattle.object_types.specs.Typed as objects
use Rattle.object_types.specs.Typed.{TypedObject, DeclaredType}
use Rattle.statement_types.specs.Statements.{around, with_objects}
use Rattle.vector_types.specs.Functions.{parameter_of, in_function}
use Rattle.vector_types.specs.Typed as typed
use Rattle.vector_types.specs.Typed.{TypedParameters, TypedFunction}
use Rattle.written_forms.specs.Seen.{Sees, sees_nothing, with_parameter}
use Rattle.written_forms.specs.Moved.{Plans}
use Rattle.written_forms.specs.Statements.{sees_parameters}
use Rattle.written_forms.specs.Helpers.{statements_uses}
use Rattle.ready_units.specs.Movable.{is_moved_type, is_moved_result, unmoved, unless, unmoved_parameters, unmoved_statements, unmoved_function}
use Rattle.written_forms.specs.Planned.{AreFit}
use Rattle.written_forms.specs.Ready.{IsCarried}
use Rattle.written_forms.specs.ReadyStatements.{ReadyParameters, ReadyFunction}
use Rattle.written_forms.specs.ReadyUnits.{Heads, setting}
use Rattle.ready_units.proofs.SeenObjects.{At}
use Rattle.ready_units.proofs.Sound.{Helps, Helped, first_none, second_none, carried_of}
use Rattle.ready_units.proofs.CalmStatements.{CalmStatements}
use Rattle.ready_units.proofs.Statements.{unless_none, begins_as, behind_at, statements_ready}

-- a type that isn't an array's is the declared one
declared_as : (r t : CType) (n : Option ℕ) → DeclaredType r n t → IsCarried t → r ≡ t
declared_as r t n (objects.array e m c k) h = absurd h
declared_as r t n (objects.open_array e m c) h = absurd h
declared_as r t n (objects.no_array u k z) h = refl

module _ (plans : Plans) (fit : AreFit plans) (helps : Helps) (heads : Heads) where
  -- parameters have the types that are declared, and are seen by them
  pub record ParametersReady (env : Env) (sees : Sees) (ds vs : List Object) : Type 0 where
    pub ready : ReadyParameters vs
    pub at : At (with_objects vs env) (sees_parameters vs sees) heads
    pub types : map (parameter_of env.dialect) ds ≡ map passing.Object (types_of vs)

  record ParameterReady (env : Env) (sees : Sees) (d v : Object) : Type 0 where
    pub at : At (with_object v.name (known v.constant v.ty) env) (with_parameter v sees) heads
    pub ty : read_type env.dialect d.ty ≡ v.ty

  parameter_ready : (env : Env) (sees : Sees) (d v : Object) → At env sees heads → TypedObject env d v → IsCarried v.ty → ParameterReady env sees d v
  parameter_ready env sees d v at (objects.declared x length n t u align init list may l y z g b) c =
      let same = begins_as plans fit helps heads (behind_declarator d.name d.constant t env) t u d.init init d.list list b c in
      record {
        at = behind_at plans fit helps heads sees env d.name d.constant true u at may.undeclared c;
        ty = declared_as (read_type env.dialect d.ty) t n y (subst IsCarried same c) ∙ sym same;
      }

  pub parameters_ready : (env : Env) (sees : Sees) (ds vs : List Object) → At env sees heads → TypedParameters env ds vs → unmoved_parameters vs ≡ None → ParametersReady env sees ds vs
  parameters_ready env sees ds vs at (typed.no_parameter e) m = record { ready = tt; at = at; types = refl }
  parameters_ready env sees ds vs at (typed.one_parameter e d v rest more is h more_typed) m =
      let c = carried_of v.ty (unless_none (is_moved_type v.ty) (unmoved v.place (short v.name)) (first_none (unless (is_moved_type v.ty) (unmoved v.place (short v.name))) (unmoved_parameters more) m)) in
      let one = parameter_ready env sees d v at h c in
      let next = parameters_ready (with_object v.name (known v.constant v.ty) env) (with_parameter v sees) rest more one.at more_typed
      (second_none (unless (is_moved_type v.ty) (unmoved v.place (short v.name))) (unmoved_parameters more) m) in
      record { ready = (c, next.ready); at = next.at; types = rw (one.ty, next.types) refl }

  pub record FunctionReady (env : Env) (f g : Definition) : Type 0 where
    pub ready : ReadyFunction (setting plans helps heads) g
    pub params : map (parameter_of env.dialect) f.params ≡ map passing.Object (types_of g.params)
    pub result : read_type env.dialect f.result ≡ g.result
    pub name : f.name ≡ g.name

  pub function_ready : (env : Env) (f g : Definition) → At (in_function f env) sees_nothing heads → TypedFunction env f g → unmoved_function plans g ≡ None → CalmStatements g.body
      → Helped helps (statements_uses plans (sees_parameters g.params sees_nothing) g.body) → FunctionReady env f g
  function_ready env f g at (typed.function h ps b may array pointer params body) m calm named =
      let result = read_type env.dialect f.result in
      let here = unless (is_moved_result result) (unmoved f.place (short f.name)) in
      let rest = or_else (unmoved_parameters ps) (unmoved_statements plans b) in
      let inner = second_none here rest m in
      let taken = parameters_ready (in_function f env) sees_nothing f.params ps at params (first_none (unmoved_parameters ps) (unmoved_statements plans b) inner) in
      record {
        ready = record {
          params = taken.ready;
          body = statements_ready plans fit helps heads (around (with_objects ps (in_function f env)) result false) (sees_parameters ps sees_nothing) f.body b taken.at body
              (record { moves = second_none (unmoved_parameters ps) (unmoved_statements plans b) inner; calm = calm; named = named });
        };
        params = taken.types;
        result = refl;
        name = refl;
      }
