-- The parameters and steps that a place in the function sees, and the objects that they are declared as (C11 6.7, 6.2.1p7).
use Rattle.std.proofs.Common.{inr, ◌≡◌, ℕ, ◌+◌, ◌<◌, ◌≤◌, ◌^◌, false, map, List, [], ◌∷◌, ◌++◌, Option, Some, None, refl, sym, ap, ◌∙◌, subst, arith}
use Rattle.c_text.specs.declared.tokens.Place.{Place}
use Rattle.c_text.specs.declared.tokens.Dialect.TheVariants.{Neon}
use Rattle.c_tree.specs.declared.types.CType.{CType}
use Rattle.c_tree.specs.Tree as tree
use Rattle.c_tree.specs.Tree.{Tree, Node}
use Rattle.type_rules.specs.Types.{read_type}
use Rattle.scopes.specs.declared.environment.Object.{Object as Known}
use Rattle.scopes.specs.Scopes.{Env, named, object_named, opened, with_object}
use Rattle.expression_types.specs.Typed.{Typed}
use Rattle.object_types.specs.Reserved.{is_reserved}
use Rattle.object_types.specs.Objects.{behind_declarator}
use Rattle.object_types.specs.Typed.{MayDeclare, TypedLength, DeclaredType, TypedAlignment, Begins, TypedObject}
use Rattle.vector_types.specs.Rows.{is_neon_row}
use Rattle.seq_core.specs.Formed.{IsCarrier}
use Rattle.seq_core.specs.Functions as functions
use Rattle.seq_core.specs.Functions.{Variable, variable, param_name, step_name, object_of}
use Rattle.sequence_types.specs.Claims.{HasType, IsDeclarable}
use Rattle.sequence_types.proofs.Given.{assigned_same}
use Rattle.sequence_types.proofs.Written.{AllStand}
use Rattle.sequence_types.proofs.DeclaredTypes.{MayAllDeclare, no_array, object_type, not_open, small}
use Rattle.sequence_types.proofs.LookedUp.{names_differ, still_none, visible_inside}
use Rattle.sequence_types.proofs.VariableNames.{param_no_row, step_no_row, other_than_row, params_differ, steps_differ, step_other_than_param, param_other_than_step}
use Rattle.sequence_types.proofs.RowsBehind.{RowsBehind, behind_opened, behind_object}

-- an object of this type that isn't const
abbrev pub plain_object : CType → Known
plain_object t = record { ty = t; constant = false }

-- ---- variables that are seen

pub record IsSeen (look : List ℕ → Option Known) (t : CType) (v : Variable) : Type 0 where
  pub ty : v.ty ≡ t
  pub found : look v.name ≡ Some (plain_object t)
  pub declarable : IsDeclarable t

-- each that has a value
abbrev pub AllSeen : (List ℕ → Option Known) → List CType → List Variable → Type 0
AllSeen look [] [] = Unit {0}
AllSeen look (t ∷ ts) (v ∷ vs) = (IsCarrier t → IsSeen look t v) × AllSeen look ts vs
AllSeen look _ _ = ⊥

abbrev pub here : Env → List ℕ → Option Known
here env x = named x env.innermost

abbrev pub anywhere : Env → List ℕ → Option Known
anywhere env x = object_named x env

pub seen_through : (look more : List ℕ → Option Known) → ((x : List ℕ) (o : Known) → look x ≡ Some o → more x ≡ Some o) → (ts : List CType) (vs : List Variable) → AllSeen look ts vs → AllSeen more ts vs
seen_through look more f [] [] h = tt
seen_through look more f (t ∷ ts) (v ∷ vs) h = (λ i. record { ty = (h.0 i).ty; found = f v.name (plain_object t) (h.0 i).found; declarable = (h.0 i).declarable }, seen_through look more f ts vs h.1)
seen_through look more f [] (v ∷ vs) h = absurd h
seen_through look more f (t ∷ ts) [] h = absurd h

pub one_more_seen : (look : List ℕ → Option Known) (ts : List CType) (vs : List Variable) (t : CType) (v : Variable) → AllSeen look ts vs → (IsCarrier t → IsSeen look t v) → AllSeen look (ts ++ t ∷ []) (vs ++ v ∷ [])
one_more_seen look [] [] t v h k = (k, tt)
one_more_seen look (u ∷ ts) (w ∷ vs) t v h k = (h.0, one_more_seen look ts vs t v h.1 k)
one_more_seen look [] (w ∷ vs) t v h k = absurd h
one_more_seen look (u ∷ ts) [] t v h k = absurd h

pub may_all : (look : List ℕ → Option Known) (ts : List CType) (vs : List Variable) → AllSeen look ts vs → MayAllDeclare ts
may_all look [] [] h = tt
may_all look (t ∷ ts) (v ∷ vs) h = (λ i. (h.0 i).declarable, may_all look ts vs h.1)
may_all look [] (v ∷ vs) h = absurd h
may_all look (t ∷ ts) [] h = absurd h

-- a variable's name stands for its value (6.5.1p2)
name_stands : (env : Env) (place : Place) (t : CType) (v : Variable) → IsSeen (anywhere env) t v → HasType env t (functions.named place v)
name_stands env place t v h = (
  subst (λ u. Typed env (functions.named place v) (Node place u (tree.Name v.name))) (sym h.ty) (Typed.object place v.ty v.name (plain_object t) h.found (no_array t h.declarable.carrier)),
  h.ty,
)

pub all_names_stand : (env : Env) (place : Place) (ts : List CType) (vs : List Variable) → AllSeen (anywhere env) ts vs → AllStand env ts (map (functions.named place) vs)
all_names_stand env place [] [] h = tt
all_names_stand env place (t ∷ ts) (v ∷ vs) h = (λ i. name_stands env place t v (h.0 i), all_names_stand env place ts vs h.1)
all_names_stand env place [] (v ∷ vs) h = absurd h
all_names_stand env place (t ∷ ts) [] h = absurd h

pub from_here : (env : Env) (x : List ℕ) (o : Known) → named x env.innermost ≡ Some o → object_named x env ≡ Some o
from_here env x o h = rw h refl

-- from behind the declarator of a name that isn't declared yet
pub from_behind : (env : Env) (y : List ℕ) (t : CType) → named y env.innermost ≡ None → (x : List ℕ) (o : Known) → named x env.innermost ≡ Some o → object_named x (behind_declarator y false t env) ≡ Some o
from_behind env y t n x o h = rw (names_differ x y env.innermost o h n, visible_inside x o env.outer env.innermost h) refl

-- ---- a declared object

pub object_typed : (env : Env) → env.dialect ≡ Neon → env.neon ≡ is_neon_row → (place : Place) (x : List ℕ) (t : CType) (init : Option Tree) → is_neon_row x ≡ false → named x env.innermost ≡ None → IsDeclarable t
    → Begins (behind_declarator x false t env) t init None init None t → TypedObject env (object_of place (variable x t) init) (object_of place (variable x t) init)
object_typed env neon rows place x t init r n d b =
    let reads : read_type env.dialect t ≡ t = ap (λ e. read_type e t) neon ∙ d.read in
    let may : MayDeclare env x (read_type env.dialect t) = subst (MayDeclare env x) (sym reads) (
    record { unreserved = ap (λ e. is_reserved e (env.neon x) x) neon ∙ ap (λ f. f x) rows ∙ r; undeclared = n; object = object_type t d.carrier; admitted = d.pointer }) in
    TypedObject.declared (object_of place (variable x t) init) None None t t None init None may TypedLength.unwritten (subst (λ u. DeclaredType u None t) (sym reads) (DeclaredType.no_array t None (no_array t d.carrier)))
    (inr (small t d.carrier)) (TypedAlignment.unwritten false) b

-- a parameter, and a variable that begins with a value of its type
pub begins_with_nothing : (env : Env) (t : CType) → IsCarrier t → Begins env t None None None None t
begins_with_nothing env t i = Begins.nothing t (not_open t i)

pub begins_with : (env : Env) (t : CType) (e : Tree) → IsCarrier t → HasType env t e → Begins env t (Some e) None (Some e) None t
begins_with env t e i h = Begins.value t e e e h.0 (assigned_same t e i h.1)

-- ---- places in the function: which parameters and steps have been declared

pub record Stage (env : Env) (n m : ℕ) : Type 0 where
  pub dialect : env.dialect ≡ Neon
  pub neon : env.neon ≡ is_neon_row
  pub rows : RowsBehind env
  pub params : (k : ℕ) → n ≤ k → k < 2 ^ 64 → named (param_name k) env.innermost ≡ None
  pub steps : (k : ℕ) → m ≤ k → k < 2 ^ 64 → named (step_name k) env.innermost ≡ None

pub next_param : (env : Env) (n m : ℕ) (o : Known) → Stage env n m → Stage (with_object (param_name n) o env) (n + 1) m
next_param env n m o s = record {
  dialect = s.dialect;
  neon = s.neon;
  rows = behind_object env (param_name n) o (λ op. other_than_row op (param_name n) (param_no_row n)) s.rows;
  params = λ k l b. still_none (param_name k) (param_name n) o env.innermost (s.params k (omega (arith, l)) b) (params_differ k n (omega (arith, l)) b);
  steps = λ k l b. still_none (step_name k) (param_name n) o env.innermost (s.steps k l b) (step_other_than_param k n);
}

pub next_step : (env : Env) (n m : ℕ) (o : Known) → Stage env n m → Stage (with_object (step_name m) o env) n (m + 1)
next_step env n m o s = record {
  dialect = s.dialect;
  neon = s.neon;
  rows = behind_object env (step_name m) o (λ op. other_than_row op (step_name m) (step_no_row m)) s.rows;
  params = λ k l b. still_none (param_name k) (step_name m) o env.innermost (s.params k l b) (param_other_than_step k m);
  steps = λ k l b. still_none (step_name k) (step_name m) o env.innermost (s.steps k (omega (arith, l)) b) (steps_differ k m (omega (arith, l)) b);
}

-- a step without a value declares nothing
pub past_step : (env : Env) (n m : ℕ) → Stage env n m → Stage env n (m + 1)
past_step env n m s = record { dialect = s.dialect; neon = s.neon; rows = s.rows; params = s.params; steps = λ k l b. s.steps k (omega (arith, l)) b }

-- behind the declarator of a step
pub rows_behind_step : (env : Env) (n m : ℕ) (o : Known) → Stage env n m → RowsBehind (with_object (step_name m) o (opened env))
rows_behind_step env n m o s = behind_object (opened env) (step_name m) o (λ op. other_than_row op (step_name m) (step_no_row m)) (behind_opened env s.rows)
