-- What is written for a parameter has its type (C11 6.9.1).
use Rattle.std.proofs.Common.{◌≡◌, ◌⊎◌, inl, inr, refl, sym, ap, ◌∙◌, subst, ℕ, Bool, true, false, List, [], ◌∷◌, map, Option, Some, None}
use Rattle.c_text.specs.declared.tokens.Dialect.TheVariants.{X86, Neon}
use Rattle.c_tree.specs.declared.types.CType.{CType}
use Rattle.c_tree.specs.Marks.{short}
use Rattle.c_tree.specs.Tree.{Tree, Trees, Object, Definition}
use Rattle.c_memory.specs.Functions.{types_of}
use Rattle.c_memory.specs.Matching.{written_type}
use Rattle.type_rules.specs.declared.passing.Parameter.TheVariants as passing
use Rattle.type_rules.specs.Types.{read_type}
use Rattle.scopes.specs.Scopes.{Env, with_object}
use Rattle.object_types.specs.Objects.{known, behind_declarator}
use Rattle.object_types.specs.Typed as objects
use Rattle.object_types.specs.Typed.{IsOpen, IsSmall, DeclaredType, TypedAlignment, Begins, MayDeclare, TypedObject}
use Rattle.statement_types.specs.Statements.{with_objects}
use Rattle.vector_types.specs.Functions.{parameter_of, without_length}
use Rattle.vector_types.specs.Typed as typed
use Rattle.vector_types.specs.Typed.{IsParameter, TypedParameters}
use Rattle.sequence_types.specs.Claims.{InPlaceIsTyped}
use Rattle.written_forms.specs.Moved.{Plans}
use Rattle.written_forms.specs.Statements.{moved_parameter, moved_parameters}
use Rattle.written_forms.specs.Planned.{AreFit}
use Rattle.written_forms.specs.Ready.{IsCarried}
use Rattle.written_forms.specs.ReadyStatements.{ReadyParameters}
use Rattle.written_forms.specs.ReadyUnits.{Heads, setting}
use Rattle.written_types.proofs.Types.{read_type_written}
use Rattle.written_types.proofs.Places.{At}
use Rattle.written_types.proofs.Objects.{begins_as, behind_at, may_written, small_written, closed_written, no_array_written}

-- ---- a parameter of the source

no_alignment : (before behind : Env) (first : Bool) (a b : Option Tree) → a ≡ None → TypedAlignment before behind first a b → b ≡ None
no_alignment before behind first a b e (objects.unwritten f) = refl
no_alignment before behind first a b e (objects.among_specifiers c d h) = absurd (cc)
no_alignment before behind first a b e (objects.behind_name c d h) = absurd (cc)

no_beginning : (env : Env) (t u : CType) (a b : Option Tree) (l m : Option Trees) → a ≡ None → l ≡ None → Begins env t a l b m u → (b ≡ None) × (m ≡ None)
no_beginning env t u a b l m e f (objects.nothing x o) = (refl, refl)
no_beginning env t u a b l m e f (objects.value x c d g h k) = absurd (cc)
no_beginning env t u a b l m e f (objects.members s n c all rest g h k) = absurd (cc)
no_beginning env t u a b l m e f (objects.members_of_open s c all rest g h k) = absurd (cc)

declared_as : (r t : CType) (n : Option ℕ) → DeclaredType r n t → IsCarried t → r ≡ t
declared_as r t n (objects.array e m c k) h = absurd h
declared_as r t n (objects.open_array e m c) h = absurd h
declared_as r t n (objects.no_array u k z) h = refl

-- ---- what is written for it

abbrev bare : Object → Object
bare d = record { place = d.place; name = d.name; ty = d.ty; length = None; constant = d.constant; align = None; align_first = d.align_first; init = None; list = None }

-- an object with its name and type alone has its types as it stands
bare_typed : (there : Env) → there.dialect ≡ Neon → (d : Object) (t : CType) → d.ty ≡ written_type t → IsCarried t → MayDeclare there d.name (written_type t) → IsOpen (written_type t) ⊎ IsSmall (written_type t) → TypedObject there (bare d) (bare d)
bare_typed there e d t h c may z =
    let read : read_type there.dialect (bare d).ty ≡ written_type t = ap (read_type there.dialect) h ∙ ap (λ k. read_type k (written_type t)) e ∙ read_type_written t in
    subst (λ u. TypedObject there (bare d) (record (bare d) { ty = u })) (sym h)
    (objects.declared (bare d) None None (written_type t) (written_type t) None None None (subst (MayDeclare there d.name) (sym read) may) objects.unwritten (subst (λ u. DeclaredType u None (written_type t)) (sym read) (objects.no_array (written_type t) None (no_array_written t c))) z
    (objects.unwritten d.align_first) (objects.nothing (written_type t) (closed_written t c)))

module _ (plans : Plans) (fit : AreFit plans) (law : InPlaceIsTyped) (helps : List ℕ → ℕ → Bool) (heads : Heads) where
  record ParameterOwn (env there : Env) (d v : Object) : Type 0 where
    pub typed : TypedObject there (moved_parameter (without_length v)) (moved_parameter (without_length v))
    pub bare : IsParameter (moved_parameter (without_length v))
    pub at : At (setting plans helps heads) (with_object v.name (known v.constant v.ty) env) (with_object v.name (known v.constant (written_type v.ty)) there)
    pub ty : read_type env.dialect d.ty ≡ v.ty

  parameter_own : (env there : Env) (d v : Object) → At (setting plans helps heads) env there → IsParameter d → TypedObject env d v → IsCarried v.ty → ParameterOwn env there d v
  parameter_own env there d v at p (objects.declared x length n t u align init list may l y z g b) c =
      let same : u ≡ t = begins_as (behind_declarator d.name d.constant t env) t u d.init init d.list list b c in
      let begins = no_beginning (behind_declarator d.name d.constant t env) t u d.init init d.list list p.unset p.unlisted b in
      let aligned = no_alignment env (behind_declarator d.name d.constant t env) d.align_first d.align align p.unaligned g in
      let plain = bare_typed there at.dialect (moved_parameter (without_length v)) u refl c (may_written plans fit law helps heads env there d.name (read_type env.dialect d.ty) u at may c)
      (inr (small_written u c (subst (λ s. IsOpen s ⊎ IsSmall s) (sym same) z))) in
      record {
        typed = subst (λ a. TypedObject there (record (bare (moved_parameter (without_length v))) { align = a.0; init = a.1; list = a.2 }) (record (bare (moved_parameter (without_length v))) { align = a.0; init = a.1; list = a.2 }))
            (sym (both align init list aligned begins.0 begins.1)) plain;
        bare = record { unaligned = aligned; unset = begins.0; unlisted = begins.1 };
        at = behind_at plans fit law helps heads env there d.name d.constant (read_type env.dialect d.ty) u at may;
        ty = declared_as (read_type env.dialect d.ty) t n y (subst IsCarried same c) ∙ sym same;
      }
    where
      both : (a b : Option Tree) (l : Option Trees) → a ≡ None → b ≡ None → l ≡ None → ◌≡◌ {A = Option Tree × Option Tree × Option Trees} (a, b, l) (None, None, None)
      both a b l e f h = rw (e, f, h) refl

  pub record ParametersOwn (env there : Env) (ds vs : List Object) : Type 0 where
    pub typed : TypedParameters there (moved_parameters vs) (moved_parameters vs)
    pub at : At (setting plans helps heads) (with_objects vs env) (with_objects (moved_parameters vs) there)
    pub types : map (parameter_of env.dialect) ds ≡ map passing.Object (types_of vs)

  pub parameters_own : (env there : Env) (ds vs : List Object) → At (setting plans helps heads) env there → TypedParameters env ds vs → ReadyParameters vs → ParametersOwn env there ds vs
  parameters_own env there ds vs at (typed.no_parameter e) r = record { typed = typed.no_parameter there; at = at; types = refl }
  parameters_own env there ds vs at (typed.one_parameter e d v rest more p h i) r =
      let one = parameter_own env there d v at p h r.0 in
      let next = parameters_own (with_object v.name (known v.constant v.ty) env) (with_object v.name (known v.constant (written_type v.ty)) there) rest more one.at i r.1 in
      record {
        typed = typed.one_parameter there (moved_parameter (without_length v)) (moved_parameter (without_length v)) (moved_parameters more) (moved_parameters more) one.bare one.typed next.typed;
        at = next.at;
        types = rw (one.ty, next.types) refl;
      }

-- the types that a heading declares
parameter_type : (env : Env) (d v : Object) → TypedObject env d v → IsCarried v.ty → read_type env.dialect d.ty ≡ v.ty
parameter_type env d v (objects.declared x length n t u align init list may l y z g b) c =
    let same = begins_as (behind_declarator d.name d.constant t env) t u d.init init d.list list b c in
    declared_as (read_type env.dialect d.ty) t n y (subst IsCarried same c) ∙ sym same

pub parameter_types : (env : Env) (ds vs : List Object) → TypedParameters env ds vs → ReadyParameters vs → map (parameter_of env.dialect) ds ≡ map passing.Object (types_of vs)
parameter_types env ds vs (typed.no_parameter e) r = refl
parameter_types env ds vs (typed.one_parameter e d v rest more p h i) r = rw (parameter_type env d v h r.0, parameter_types (with_object v.name (known v.constant v.ty) env) rest more i r.1) refl
