-- The parameters that are written for those of a function of the form.
use Rattle.std.proofs.Common.{◌≡◌, ℕ, List, [], ◌∷◌, ◌++◌, map, Bool, true, false, cond, ◌||◌, ◌&&◌, not, Option, Some, None, Ok, is_some, is_none, refl, ap}
use Rattle.c_text.specs.declared.tokens.Place.{Place}
use Rattle.neon_table.specs.Rows as neon_table
use Rattle.c_tree.specs.declared.types.CType.{CType}
use Rattle.c_tree.specs.declared.types.CType.TheVariants.{M128}
use Rattle.c_tree.specs.Tree.{Tree, Trees, Object}
use Rattle.scopes.specs.Scopes.{Env, Scope, Callee, named, same_name, or_else, with_object}
use Rattle.scopes.specs.declared.environment.Object.{Object as Known}
use Rattle.object_types.specs.Objects.{known as known_object}
use Rattle.statement_types.specs.Statements.{with_objects}
use Rattle.vector_types.specs.Functions.{check_parameter, check_parameters}
use Rattle.reading_again.specs.Plain.{PlainParameters}
use Rattle.simd_top.specs.Rows.{neon_name, moved_row}
use Rattle.simd_top.specs.Form.{is_in, is_free, is_plain, is_parameter, are_parameters, names_of, is_register}
use Rattle.simd_top.specs.Written.{register, moved_type, moved_object}
use Rattle.simd_top.proofs.Conjunction.{split_and}
use Rattle.simd_top.proofs.Expressions.{seen, known, HasNoRow}
use Rattle.simd_top.proofs.Good.{none_is}
use Rattle.simd_top.proofs.FreeNames.{neither, no_neon_row, other_than_neon}
use Rattle.simd_top.proofs.Parameters.{m128}

-- the scope once these parameters are declared
abbrev pub grown : Scope → List Object → Scope
grown scope [] = scope
grown scope (d ∷ ds) = grown (scope ++ (d.name, known d.constant) ∷ []) ds

-- what a name stands for with one more object
pub named_more : {V : Type 0} (x y : List ℕ) (v : V) (all : List (List ℕ × V)) → named x (all ++ (y, v) ∷ []) ≡ or_else (named x all) (cond (same_name x y) (Some v) None)
named_more x y v [] = refl
named_more x y v (e ∷ all) = go (same_name x e.0) (named_more x y v all)
  where
    go : (w : Bool) → named x (all ++ (y, v) ∷ []) ≡ or_else (named x all) (cond (same_name x y) (Some v) None) →
        cond w (Some e.1) (named x (all ++ (y, v) ∷ [])) ≡ or_else (cond w (Some e.1) (named x all)) (cond (same_name x y) (Some v) None)
    go true h = refl
    go false h = h

-- an object with its fields as the form wants them
plain_object : (d : Object) → is_plain d ≡ true → (d.length ≡ None) × (d.align ≡ None) × (d.init ≡ None) × (d.list ≡ None) × (d.ty ≡ M128)
plain_object d h =
    let a = split_and (is_register d.ty && not d.constant && is_none d.length && is_none d.align && is_none d.init) (is_none d.list) h in
    let b = split_and (is_register d.ty && not d.constant && is_none d.length && is_none d.align) (is_none d.init) a.0 in
    let c = split_and (is_register d.ty && not d.constant && is_none d.length) (is_none d.align) b.0 in
    let e = split_and (is_register d.ty && not d.constant) (is_none d.length) c.0 in
    (none_is d.length e.1, none_is d.align c.1, none_is d.init b.1, none_is d.list a.1, m128 d.ty (split_and (is_register d.ty) (not d.constant) e.0).0)

-- a parameter with its type
object_typed : (p : Place) (x : List ℕ) (constant first : Bool) (scope : Scope) (functions : List (List ℕ × Callee)) (here : ℕ) (calls_none : Bool) →
    is_some (neon_table.find_of x) ≡ false → named x scope ≡ None →
    check_parameter (record { place = p; name = x; ty = register; length = None; constant = constant; align = None; align_first = first; init = None; list = None }) (seen scope functions here calls_none)
    ≡ Ok (record { place = p; name = x; ty = register; length = None; constant = constant; align = None; align_first = first; init = None; list = None })
object_typed p x constant first scope functions here calls_none a b = rw (a, b) refl

one_more : (d : Object) (ds : List Object) (env : Env) → check_parameter d env ≡ Ok d → check_parameters ds (with_object d.name (known_object d.constant d.ty) env) ≡ Ok ds → check_parameters (d ∷ ds) env ≡ Ok (d ∷ ds)
one_more d ds env h k = rw (h, k) refl

-- names that were not seen are in no scope of those that were
abbrev pub Unseen : {V : Type 0} → List (List ℕ) → List (List ℕ × V) → Type 0
Unseen names all = (x : List ℕ) → is_in names x ≡ false → named x all ≡ None

in_more : (names : List (List ℕ)) (x y : List ℕ) → is_in (names ++ y ∷ []) x ≡ false → (is_in names x ≡ false) × (same_name x y ≡ false)
in_more [] x y h = (refl, (neither (same_name x y) false h).0)
in_more (z ∷ names) x y h =
    let a = neither (same_name x z) (is_in (names ++ y ∷ []) x) h in
    let b = in_more names x y a.1 in
    (rw (a.0) b.0, b.1)

pub unseen_more : {V : Type 0} (names : List (List ℕ)) (y : List ℕ) (v : V) (all : List (List ℕ × V)) → Unseen names all → Unseen (names ++ y ∷ []) (all ++ (y, v) ∷ [])
unseen_more names y v all h x k = let a = in_more names x y k in rw (named_more x y v all, h x a.0, a.1) refl

pub not_in : (v : Bool) → not v ≡ true → v ≡ false
not_in true h = absurd (cc)
not_in false h = refl

-- ---- what is written for parameters

-- the parameter that is written for one of the form
abbrev pub written_parameter : Object → Object
written_parameter d = record { place = d.place; name = d.name; ty = register; length = None; constant = d.constant; align = None; align_first = d.align_first; init = None; list = None }

object_is : (e : Object) (x : List ℕ) (t : CType) (l : Option Tree) (c : Bool) (a i : Option Tree) (s : Option Trees) →
    e.name ≡ x → e.ty ≡ t → e.length ≡ l → e.constant ≡ c → e.align ≡ a → e.init ≡ i → e.list ≡ s →
    e ≡ record { place = e.place; name = x; ty = t; length = l; constant = c; align = a; align_first = e.align_first; init = i; list = s }
object_is e x t l c a i s name type length constant align init list = rw⁻¹ (name, type, length, constant, align, init, list) refl

object_written : (d : Object) → is_plain d ≡ true → moved_object d ≡ written_parameter d
object_written d h =
    let (length, align, init, list, ty) = plain_object d h in
    object_is (moved_object d) d.name register None d.constant None None None refl (ap moved_type ty) length refl align init list

-- all of them, with their names in a list that grows
abbrev pub parameters_written : List Object → List Object
parameters_written ds = map written_parameter ds

pub are_written : (names : List (List ℕ)) (ds : List Object) → are_parameters names ds ≡ true → map moved_object ds ≡ parameters_written ds
are_written names [] h = refl
are_written names (d ∷ ds) h =
    let a = split_and (is_parameter names d) (are_parameters (names ++ d.name ∷ []) ds) h in
    let b = split_and (is_plain d && is_free d.name) (not (is_in names d.name)) a.0 in
    rw (object_written d (split_and (is_plain d) (is_free d.name) b.0).0, are_written (names ++ d.name ∷ []) ds a.1) refl

pub parameters_typed : (names : List (List ℕ)) (ds : List Object) (scope : Scope) (functions : List (List ℕ × Callee)) (here : ℕ) (calls_none : Bool) → are_parameters names ds ≡ true → Unseen names scope →
    check_parameters (parameters_written ds) (seen scope functions here calls_none) ≡ Ok (parameters_written ds)
parameters_typed names [] scope functions here calls_none h unseen = refl
parameters_typed names (d ∷ ds) scope functions here calls_none h unseen =
    let a = split_and (is_parameter names d) (are_parameters (names ++ d.name ∷ []) ds) h in
    let b = split_and (is_plain d && is_free d.name) (not (is_in names d.name)) a.0 in
    one_more (written_parameter d) (parameters_written ds) (seen scope functions here calls_none)
    (object_typed d.place d.name d.constant d.align_first scope functions here calls_none (no_neon_row d.name (split_and (is_plain d) (is_free d.name) b.0).1)
    (unseen d.name (not_in (is_in names d.name) b.1)))
    (parameters_typed (names ++ d.name ∷ []) ds (scope ++ (d.name, known d.constant) ∷ []) functions here calls_none a.1 (unseen_more names d.name (known d.constant) scope unseen))

pub objects_grow : (ds : List Object) (scope : Scope) (functions : List (List ℕ × Callee)) (here : ℕ) (calls_none : Bool) →
    with_objects (parameters_written ds) (seen scope functions here calls_none) ≡ seen (grown scope ds) functions here calls_none
objects_grow [] scope functions here calls_none = refl
objects_grow (d ∷ ds) scope functions here calls_none = objects_grow ds (scope ++ (d.name, known d.constant) ∷ []) functions here calls_none

pub plain_parameters : (ds : List Object) → PlainParameters (parameters_written ds)
plain_parameters [] = tt
plain_parameters (d ∷ ds) = (((tt, (tt, (tt, tt))), refl), plain_parameters ds)

stays_known : (ds : List Object) (scope : Scope) (x : List ℕ) (o : Known) → named x scope ≡ Some o → named x (grown scope ds) ≡ Some o
stays_known [] scope x o h = h
stays_known (d ∷ ds) scope x o h = stays_known ds (scope ++ (d.name, known d.constant) ∷ []) x o (rw (named_more x d.name (known d.constant) scope, h) refl)

pub are_known : (ds : List Object) (scope : Scope) (x : List ℕ) → named x scope ≡ None → is_in (names_of ds) x ≡ true → (constant : Bool) × (named x (grown scope ds) ≡ Some (known constant))
are_known [] scope x h k = absurd (cc)
are_known (d ∷ ds) scope x h k = go (same_name x d.name) refl (λ e. are_known ds (scope ++ (d.name, known d.constant) ∷ []) x (rw (named_more x d.name (known d.constant) scope, h, e) refl)) k
  where
    go : (v : Bool) → same_name x d.name ≡ v → (same_name x d.name ≡ false → is_in (names_of ds) x ≡ true → (constant : Bool) × (named x (grown (scope ++ (d.name, known d.constant) ∷ []) ds) ≡ Some (known constant))) →
        (v || is_in (names_of ds) x) ≡ true → (constant : Bool) × (named x (grown (scope ++ (d.name, known d.constant) ∷ []) ds) ≡ Some (known constant))
    go true e later is = (d.constant, stays_known ds (scope ++ (d.name, known d.constant) ∷ []) x (known d.constant) (rw (named_more x d.name (known d.constant) scope, h, e) refl))
    go false e later is = later e is

pub no_row_grown : (names : List (List ℕ)) (ds : List Object) (scope : Scope) → are_parameters names ds ≡ true → HasNoRow scope → HasNoRow (grown scope ds)
no_row_grown names [] scope h none = none
no_row_grown names (d ∷ ds) scope h none =
    let a = split_and (is_parameter names d) (are_parameters (names ++ d.name ∷ []) ds) h in
    let b = split_and (is_plain d && is_free d.name) (not (is_in names d.name)) a.0 in
    no_row_grown (names ++ d.name ∷ []) ds (scope ++ (d.name, known d.constant) ∷ []) a.1
    (λ op. rw (named_more (neon_name (moved_row op)) d.name (known d.constant) scope, none op, other_than_neon op d.name (split_and (is_plain d) (is_free d.name) b.0).1) refl)
