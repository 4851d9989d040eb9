-- What is written for a declared object has its types (C11 6.7).
use Rattle.std.proofs.Common.{◌≡◌, refl, sym, ap, ◌∙◌, subst, ◌⊎◌, inl, inr, ℕ, ◌≤◌, Bool, true, false, List, [], ◌∷◌, Option, Some, None}
use Rattle.std.specs.Prelude.{option_map, is_some, ℤ, pos}
use Rattle.c_text.specs.declared.refusals.Refusal.{Refusal}
use Rattle.c_text.specs.declared.tokens.Dialect.TheVariants.{Neon}
use Rattle.lane_core.specs.declared.number.IntType.{IntType}
use Rattle.lane_core.specs.declared.number.IntType.TheVariants as int
use Rattle.lane_core.specs.declared.number.Num.{Num}
use Rattle.const_imm.specs.Constant.{value_of}
use Rattle.const_imm.specs.Sizes.{integer_size, size_of}
use Rattle.c_tree.specs.declared.types.CType.{CType}
use Rattle.c_tree.specs.Marks.{short}
use Rattle.c_tree.specs.Tree.{Tree, Trees, Object}
use Rattle.c_memory.specs.Matching.{written_integer, written_type}
use Rattle.scopes.specs.Scopes.{Env, or_else, named, with_object, opened}
use Rattle.type_rules.specs.Types.{read_type}
use Rattle.expression_types.specs.Typed.{IsArray, IsVoidPointer, Typed}
use Rattle.object_types.specs.Objects.{known, behind_declarator}
use Rattle.object_types.specs.Typed as objects
use Rattle.object_types.specs.Typed.{IsObjectType, IsOpen, IsSmall, IsAlignmentValue, MayDeclare, TypedLength, DeclaredType, PowerOfTwo, TypedAlignment, Begins, TypedObject}
use Rattle.seq_core.specs.Terms.{Sequence}
use Rattle.statement_types.specs.Statements.{with_objects}
use Rattle.statement_types.specs.Typed.{TypedObjects, no_object, one_object}
use Rattle.sequence_types.specs.Claims.{InPlaceIsTyped}
use Rattle.written_forms.specs.Seen.{Sees, beginning, declared}
use Rattle.written_forms.specs.Moved.{Plans, moved, moved_all}
use Rattle.written_forms.specs.Statements.{moved_object, moved_objects}
use Rattle.ready_units.specs.Movable.{is_moved_type, unmoved, unless, unmoved_in, unmoved_option, unmoved_object, unmoved_objects}
use Rattle.written_forms.specs.Planned.{AreFit}
use Rattle.written_forms.specs.Ready.{IsCarried, Ready}
use Rattle.written_forms.specs.ReadyStatements.{ReadyFirst, ReadyObject, ReadyObjects}
use Rattle.written_forms.specs.ReadyUnits.{Heads, setting}
use Rattle.written_types.proofs.Types.{read_type_written}
use Rattle.written_types.proofs.Fine.{first_none, second_none, fine, constant_fine}
use Rattle.written_types.proofs.Places.{At, written_object, known_written, opened_at, object_at}
use Rattle.written_types.proofs.Names.{unreserved, written_unreserved}
use Rattle.written_types.proofs.Conversions.{given_fine, given_own}
use Rattle.written_types.proofs.Expressions.{own}
use Rattle.written_types.proofs.Constants.{kept_value}
use Rattle.written_types.proofs.Kept.{kept}

-- ---- types of objects

size_same : (s : IntType) → integer_size (written_integer s) ≡ integer_size s
size_same int.Char = refl
size_same s = refl

pub small_written : (t : CType) → IsCarried t → IsOpen t ⊎ IsSmall t → IsSmall (written_type t)
small_written (CType.Int s) c (inl h) = absurd h
small_written (CType.Int s) c (inr h) = (h.0, ap Some (size_same s) ∙ h.1, h.2)
small_written CType.M128 c (inl h) = absurd h
small_written CType.M128 c (inr h) = (h.0, h.1, h.2)
small_written t c h = absurd c

object_written : (t : CType) → IsCarried t → IsObjectType (written_type t)
object_written (CType.Int s) c = tt
object_written CType.M128 c = tt
object_written t c = absurd c

no_pointer_written : (t : CType) → IsCarried t → IsVoidPointer (written_type t) → ⊥
no_pointer_written (CType.Int s) c h = absurd h
no_pointer_written CType.M128 c h = absurd h
no_pointer_written t c h = absurd c

pub no_array_written : (t : CType) → IsCarried t → IsArray (written_type t) → ⊥
no_array_written (CType.Int s) c h = absurd h
no_array_written CType.M128 c h = absurd h
no_array_written t c h = absurd c

pub closed_written : (t : CType) → IsCarried t → IsOpen (written_type t) → ⊥
closed_written (CType.Int s) c h = absurd h
closed_written CType.M128 c h = absurd h
closed_written t c h = absurd c

-- an object of such a type begins with no list, and has the type that its declarator gives
pub begins_as : (env : Env) (t u : CType) (e init : Option Tree) (l list : Option Trees) → Begins env t e l init list u → IsCarried u → u ≡ t
begins_as env t u e init l list (objects.nothing x o) c = refl
begins_as env t u e init l list (objects.value x a a' b h g) c = refl
begins_as env t u e init l list (objects.members s n x all rest h i j) c = absurd c
begins_as env t u e init l list (objects.members_of_open s x all rest h i j) c = absurd c

module _ (plans : Plans) (fit : AreFit plans) (law : InPlaceIsTyped) (helps : List ℕ → ℕ → Bool) (heads : Heads) where
  abbrev pub Places : Env → Env → Type 0
  Places env there = At (setting plans helps heads) env there

  -- a scope with the object in its own first value, and behind it
  inside_at : (env there : Env) (x : List ℕ) (c : Bool) (t : CType) → Places env there → objects.MayDeclare env x t → Places (behind_declarator x c t env) (behind_declarator x c (written_type t) there)
  inside_at env there x c t at may =
      subst (λ o. Places (behind_declarator x c t env) (with_object x o (opened there))) (sym (known_written c t))
      (object_at (setting plans helps heads) (opened env) (opened there) x (known c t) (opened_at (setting plans helps heads) env there at) refl
      (unreserved env.dialect env.neon x at.source at.source_names may.unreserved).clean)

  pub behind_at : (env there : Env) (x : List ℕ) (c : Bool) (t u : CType) → Places env there → MayDeclare env x t → Places (with_object x (known c u) env) (with_object x (known c (written_type u)) there)
  behind_at env there x c t u at may =
      subst (λ o. Places (with_object x (known c u) env) (with_object x o there)) (sym (known_written c u))
      (object_at (setting plans helps heads) env there x (known c u) at may.undeclared (unreserved env.dialect env.neon x at.source at.source_names may.unreserved).clean)

  pub may_written : (env there : Env) (x : List ℕ) (t u : CType) → Places env there → MayDeclare env x t → IsCarried u → MayDeclare there x (written_type u)
  may_written env there x t u at may c = record {
    unreserved = written_unreserved there.dialect there.neon x at.dialect at.neon_names (unreserved env.dialect env.neon x at.source at.source_names may.unreserved);
    undeclared = at.scope x may.undeclared;
    object = object_written u c;
    admitted = no_pointer_written u c;
  }

  -- ---- lengths and alignments

  -- a constant expression is written as one of the same value, whatever is seen
  record Constant (sees : Sees) (there : Env) (a : Tree) (z : ℤ) : Type 0 where
    pub own : Typed there (moved plans sees a) (moved plans sees a)
    pub n : Num
    pub is : value_of (moved plans sees a) ≡ Some n
    pub value : n.value ≡ z

  constant_written : (sees : Sees) (env there : Env) (a a' : Tree) (m : Num) → Places env there → Typed env a a' → value_of a' ≡ Some m → unmoved_in plans a' ≡ None → Constant sees there a' m.value
  constant_written sees env there a a' m at h e moves =
      let k = constant_fine plans (setting plans helps heads) sees a' m moves e in
      let held = kept plans fit law helps sees heads env there at a a' h k in
      let v = kept_value (value_of a') (value_of (moved plans sees a')) m held.value e in
      record { own = (own plans fit law helps sees heads env there at a a' h k).typed; n = v.0; is = v.1; value = v.2 }

  length_written : (sees : Sees) (env there : Env) (e f : Option Tree) (n : Option ℕ) → Places env there → TypedLength env e f n → unmoved_option plans f ≡ None
      → TypedLength there (option_map (moved plans sees) f) (option_map (moved plans sees) f) n
  length_written sees env there e f n at objects.unwritten m = objects.unwritten
  length_written sees env there e f n at (objects.written a a' k l h v i g) m =
      let c = constant_written sees env there a a' k at h v m in
      objects.written (moved plans sees a') (moved plans sees a') c.n l c.own c.is (c.value ∙ i) g

  power_written : (sees : Sees) (env there : Env) (a a' : Tree) → Places env there → PowerOfTwo env a a' → unmoved_in plans a' ≡ None → PowerOfTwo there (moved plans sees a') (moved plans sees a')
  power_written sees env there a a' at (objects.power_of_two x y n h e v) m =
      let c = constant_written sees env there a a' n at h e m in
      objects.power_of_two (moved plans sees a') (moved plans sees a') c.n c.own c.is (subst IsAlignmentValue (sym c.value) v)

  alignment_written : (sees : Sees) (env there inner behind : Env) (first : Bool) (e f : Option Tree) → Places env there → Places inner behind → TypedAlignment env inner first e f → unmoved_option plans f ≡ None
      → TypedAlignment there behind first (option_map (moved plans sees) f) (option_map (moved plans sees) f)
  alignment_written sees env there inner behind first e f at within (objects.unwritten x) m = objects.unwritten first
  alignment_written sees env there inner behind first e f at within (objects.among_specifiers a a' h) m = objects.among_specifiers (moved plans sees a') (moved plans sees a') (power_written sees env there a a' at h m)
  alignment_written sees env there inner behind first e f at within (objects.behind_name a a' h) m = objects.behind_name (moved plans sees a') (moved plans sees a') (power_written sees inner behind a a' within h m)

  -- ---- what an object begins with

  begins_written : (sees : Sees) (env there : Env) (t u : CType) (e init : Option Tree) (l list : Option Trees) → Places env there → Begins env t e l init list u → IsCarried u → unmoved_option plans init ≡ None
      → ReadyFirst (setting plans helps heads) sees u init
      → Begins there (written_type u) (option_map (moved plans sees) init) (option_map (moved_all plans sees) list) (option_map (moved plans sees) init) (option_map (moved_all plans sees) list) (written_type u)
  begins_written sees env there t u e init l list at (objects.nothing x o) c m r = objects.nothing (written_type u) (closed_written u c)
  begins_written sees env there t u e init l list at (objects.value x a a' b h g) c m r =
      let k = fine plans (setting plans helps heads) sees b m r.1 in
      let o = own plans fit law helps sees heads env there at a a' h (given_fine plans sees (setting plans helps heads) a' b u g k) in
      let v = given_own plans sees (setting plans helps heads) there a' b u g k o in
      objects.value (written_type u) (moved plans sees b) (moved plans sees a') (moved plans sees b) v.typed v.given
  begins_written sees env there t u e init l list at (objects.members s n x all rest h i j) c m r = absurd c
  begins_written sees env there t u e init l list at (objects.members_of_open s x all rest h i j) c m r = absurd c

  -- ---- objects

  -- what is moved of an object
  record MovedObject (d : Object) : Type 0 where
    pub length : unmoved_option plans d.length ≡ None
    pub align : unmoved_option plans d.align ≡ None
    pub init : unmoved_option plans d.init ≡ None

  moved_parts : (d : Object) → unmoved_object plans d ≡ None → MovedObject d
  moved_parts d m =
      let later = or_else (unmoved_option plans d.align) (unmoved_option plans d.init) in
      let parts = second_none (unless (is_moved_type d.ty) (unmoved d.place (short d.name))) (or_else (unmoved_option plans d.length) later) m in
      let rest = second_none (unmoved_option plans d.length) later parts in
      record {
        length = first_none (unmoved_option plans d.length) later parts;
        align = first_none (unmoved_option plans d.align) (unmoved_option plans d.init) rest;
        init = second_none (unmoved_option plans d.align) (unmoved_option plans d.init) rest;
      }

  declared_written : (u t : CType) (n : Option ℕ) → t ≡ written_type u → IsCarried u → DeclaredType t n (written_type u)
  declared_written u t n e c = subst (λ z. DeclaredType z n (written_type u)) (sym e) (objects.no_array (written_type u) n (no_array_written u c))

  pub record ObjectOwn (sees : Sees) (env there : Env) (v : Object) : Type 0 where
    pub typed : TypedObject there (moved_object plans sees v) (moved_object plans sees v)
    pub at : Places (with_object v.name (known v.constant v.ty) env) (with_object v.name (known v.constant (written_type v.ty)) there)

  pub object_own : (sees : Sees) (env there : Env) (d v : Object) → Places env there → TypedObject env d v → unmoved_object plans v ≡ None → ReadyObject (setting plans helps heads) sees v → ObjectOwn sees env there v
  object_own sees env there d v at (objects.declared x length n t u align init list may l y z g b) m r =
      let parts = moved_parts v m in
      let same : u ≡ t = begins_as (behind_declarator d.name d.constant t env) t u d.init init d.list list b r.carried in
      let read : read_type there.dialect (written_type u) ≡ written_type u = ap (λ z. read_type z (written_type u)) at.dialect ∙ read_type_written u in
      let inner : Places (behind_declarator d.name d.constant t env) (behind_declarator d.name d.constant (written_type u) there) =
      subst (λ z. Places (behind_declarator d.name d.constant z env) (behind_declarator d.name d.constant (written_type u) there)) same (inside_there u) in
      record {
        typed = objects.declared (moved_object plans sees v) (option_map (moved plans sees) length) n (written_type u) (written_type u) (option_map (moved plans sees) align)
            (option_map (moved plans (beginning v sees)) init) (option_map (moved_all plans (beginning v sees)) list)
            (subst (MayDeclare there d.name) (sym read) (may_written env there d.name (read_type env.dialect d.ty) u at may r.carried))
            (length_written sees env there d.length length n at l parts.length)
            (declared_written u (read_type there.dialect (written_type u)) n read r.carried)
            (inr (small_written u r.carried (subst (λ z. IsOpen z ⊎ IsSmall z) (sym same) z)))
            (alignment_written sees env there (behind_declarator d.name d.constant t env) (behind_declarator d.name d.constant (written_type u) there) d.align_first d.align align at inner g parts.align)
            (begins_written (beginning v sees) (behind_declarator d.name d.constant t env) (behind_declarator d.name d.constant (written_type u) there) t u d.init init d.list list inner b r.carried parts.init r.init);
        at = behind_at env there d.name d.constant (read_type env.dialect d.ty) u at may;
      }
    where
      inside_there : (s : CType) → Places (behind_declarator d.name d.constant s env) (behind_declarator d.name d.constant (written_type s) there)
      inside_there s =
          subst (λ o. Places (behind_declarator d.name d.constant s env) (with_object d.name o (opened there))) (sym (known_written d.constant s))
          (object_at (setting plans helps heads) (opened env) (opened there) d.name (known d.constant s) (opened_at (setting plans helps heads) env there at) refl
          (unreserved env.dialect env.neon d.name at.source at.source_names may.unreserved).clean)

  -- declarations in a row
  pub record ObjectsOwn (sees : Sees) (env there : Env) (vs : List Object) : Type 0 where
    pub typed : TypedObjects there (moved_objects plans sees vs) (moved_objects plans sees vs)
    pub at : Places (with_objects vs env) (with_objects (moved_objects plans sees vs) there)

  pub objects_own : (sees : Sees) (env there : Env) (all vs : List Object) → Places env there → TypedObjects env all vs → unmoved_objects plans vs ≡ None → ReadyObjects (setting plans helps heads) sees vs
      → ObjectsOwn sees env there vs
  objects_own sees env there all vs at (no_object x) m r = record { typed = no_object there; at = at }
  objects_own sees env there all vs at (one_object x d v rest more h i) m r =
      let one = object_own sees env there d v at h (first_none (unmoved_object plans v) (unmoved_objects plans more) m) r.0 in
      let next = objects_own (declared v sees) (with_object v.name (known v.constant v.ty) env) (with_object v.name (known v.constant (written_type v.ty)) there) rest more one.at i
      (second_none (unmoved_object plans v) (unmoved_objects plans more) m) r.1 in
      record {
        typed = one_object there (moved_object plans sees v) (moved_object plans sees v) (moved_objects plans (declared v sees) more) (moved_objects plans (declared v sees) more) one.typed next.typed;
        at = next.at;
      }
