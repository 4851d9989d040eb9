-- What is seen of the objects and functions in scope, beside the environment of the check (C11 6.2.1).
use Rattle.std.proofs.Common.{◌≡◌, refl, sym, ap, ◌∙◌, subst, ℕ, Bool, true, false, List, [], ◌∷◌, ◌++◌, map, Option, Some, None, if◌then◌else◌, ◌<◌}
use Rattle.std.proofs.lemmas.Slice.Eq.{bytes_eq-Decides}
use Rattle.std.specs.Prelude.{bytes_eq}
use Rattle.c_text.specs.declared.tokens.Dialect.TheVariants.{X86}
use Rattle.intel_table.specs.Rows.{find_of}
use Rattle.type_rules.specs.declared.passing.Parameter.TheVariants as passing
use Rattle.scopes.specs.declared.environment.Object.{Object}
use Rattle.scopes.specs.Scopes.{Env, Scope, Callee, named, same_name, or_else, visible, object_named, with_object, opened}
use Rattle.vector_types.specs.Rows.{row_of_table}
use Rattle.written_forms.specs.Seen.{Local, Sees, with_local}
use Rattle.written_forms.specs.Ready.{Heading, IsCarried}

-- ---- names in scopes

pub named_behind : {V : Type 0} (x : List ℕ) (es fs : List (List ℕ × V)) → named x (es ++ fs) ≡ or_else (named x es) (named x fs)
named_behind x [] fs = refl
named_behind x (e ∷ es) fs = at (same_name x e.0) (named_behind x es fs)
  where
    at : (b : Bool) → named x (es ++ fs) ≡ or_else (named x es) (named x fs) → (if b then Some e.1 else named x (es ++ fs)) ≡ or_else (if b then Some e.1 else named x es) (named x fs)
    at true h = refl
    at false h = h

visible_behind : (x : List ℕ) (outer : List Scope) (s : Scope) → visible x (outer ++ s ∷ []) ≡ or_else (named x s) (visible x outer)
visible_behind x [] s = at (named x s)
  where
    at : (o : Option Object) → or_else None o ≡ or_else o None
    at None = refl
    at (Some v) = refl
visible_behind x (t ∷ outer) s = ap (λ o. or_else o (named x t)) (visible_behind x outer s) ∙ at (named x s)
  where
    at : (o : Option Object) → or_else (or_else o (visible x outer)) (named x t) ≡ or_else o (or_else (visible x outer) (named x t))
    at None = refl
    at (Some v) = refl

-- a scope that opens hides nothing
pub opened_sees : (x : List ℕ) (env : Env) → object_named x (opened env) ≡ object_named x env
opened_sees x env = visible_behind x env.outer env.innermost

-- an object of a name that the scope doesn't have hides others of the name
pub object_past : (y x : List ℕ) (o : Object) (env : Env) → named x env.innermost ≡ None → object_named y (with_object x o env) ≡ (if same_name y x then Some o else object_named y env)
object_past y x o env h = ap (λ z. or_else z (visible y env.outer)) (named_behind y env.innermost ((x, o) ∷ [])) ∙ at (same_name y x) refl
  where
    at : (b : Bool) → same_name y x ≡ b
        → or_else (or_else (named y env.innermost) (if b then Some o else None)) (visible y env.outer) ≡ (if b then Some o else object_named y env)
    at true e =
        let same : y ≡ x = (bytes_eq-Decides y x).0 e in
        let none : named y env.innermost ≡ None = subst (λ z. named z env.innermost ≡ None) (sym same) h in
        ap (λ z. or_else (or_else z (Some o)) (visible y env.outer)) none
    at false e = other (named y env.innermost)
      where
        other : (z : Option Object) → or_else (or_else z None) (visible y env.outer) ≡ or_else z (visible y env.outer)
        other None = refl
        other (Some v) = refl

-- ---- the relation

-- the object is seen by its type, which is moved
pub record Seen (sees : Sees) (x : List ℕ) (o : Object) : Type 0 where
  pub l : Local
  pub is : sees x ≡ Some l
  pub ty : l.ty ≡ o.ty
  pub carried : IsCarried o.ty

-- the function, whose name is no row's, is seen by its heading
pub record SeenHead (heads : List ℕ → Option Heading) (f : List ℕ) (c : Callee) : Type 0 where
  pub free : find_of f ≡ None
  pub head : Heading
  pub is : heads f ≡ Some head
  pub params : c.heading.params ≡ map passing.Object head.params
  pub result : c.heading.result ≡ head.result

pub record At (env : Env) (sees : Sees) (heads : List ℕ → Option Heading) : Type 0 where
  pub dialect : env.dialect ≡ X86
  pub rows : env.rows ≡ row_of_table X86
  pub objects : (x : List ℕ) (o : Object) → object_named x env ≡ Some o → Seen sees x o
  pub functions : (f : List ℕ) (c : Callee) → named f env.functions ≡ Some c → c.order < env.here → SeenHead heads f c

pub opened_at : (env : Env) (sees : Sees) (heads : List ℕ → Option Heading) → At env sees heads → At (opened env) sees heads
opened_at env sees heads a = record {
  dialect = a.dialect;
  rows = a.rows;
  objects = λ x o h. a.objects x o (sym (opened_sees x env) ∙ h);
  functions = a.functions;
}

pub object_at : (env : Env) (sees : Sees) (heads : List ℕ → Option Heading) (x : List ℕ) (o : Object) (l : Local) → At env sees heads → named x env.innermost ≡ None → l.ty ≡ o.ty → IsCarried o.ty
    → At (with_object x o env) (with_local x l sees) heads
object_at env sees heads x o l a none e c = record {
  dialect = a.dialect;
  rows = a.rows;
  objects = λ y v h. at y v (same_name y x) refl (sym (object_past y x o env none) ∙ h) (a.objects y v);
  functions = a.functions;
}
  where
    at : (y : List ℕ) (v : Object) (b : Bool) → bytes_eq y x ≡ b → (if b then Some o else object_named y env) ≡ Some v → (object_named y env ≡ Some v → Seen sees y v) → Seen (with_local x l sees) y v
    at y v true e2 h f = let same : o ≡ v = cc in record { l = l; is = ap (λ z. if z then Some l else sees y) e2; ty = e ∙ ap (λ z. z.ty) same; carried = subst (λ z. IsCarried z.ty) same c }
    at y v false e2 h f = let s = f h in record { l = s.l; is = ap (λ z. if z then Some l else sees y) e2 ∙ s.is; ty = s.ty; carried = s.carried }
