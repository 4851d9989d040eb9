-- What a place of the source and the place of what is written for it see (C11 6.2.1): the same objects, of written types; the functions of the
-- unit by written headings, behind those of rows; and the rows of Neon under their names.
use Rattle.std.proofs.Common.{◌≡◌, refl, sym, ap, ◌∙◌, subst, ℕ, Bool, true, false, not, ◌&&◌, List, [], ◌∷◌, ◌++◌, map, Option, Some, None, Ok, if◌then◌else◌, ◌<◌}
use Rattle.std.proofs.lemmas.Slice.Eq.{bytes_eq-Decides}
use Rattle.std.specs.Prelude.{bytes_eq, option_map, take, codes, is_some}
use Rattle.c_text.specs.declared.tokens.Dialect.TheVariants.{X86, Neon}
use Rattle.c_text.specs.declared.tokens.Place.{Place}
use Rattle.c_tree.specs.declared.types.CType.{CType}
use Rattle.c_memory.specs.Matching.{written_type}
use Rattle.c_memory.specs.Meaning.{is_helper}
use Rattle.intel_table.specs.declared.IntelOp.{IntelOp}
use Rattle.intel_table.specs.Rows as intel
use Rattle.neon_table.specs.declared.NeonOp.{NeonOp}
use Rattle.neon_table.specs.Rows as neon
use Rattle.neon_table.specs.Found.{found_by_name}
use Rattle.type_rules.specs.declared.passing.Parameter.TheVariants as passing
use Rattle.type_rules.specs.Passing.{row_heading}
use Rattle.scopes.specs.declared.environment.Object.{Object}
use Rattle.scopes.specs.Scopes.{Env, Scope, Callee, named, same_name, or_else, visible, object_named, with_object, opened}
use Rattle.expression_types.specs.Names.{is_unknown_intrinsic}
use Rattle.expression_types.specs.Check.{called, object_called, function_called, row_called}
use Rattle.object_types.specs.Objects.{known}
use Rattle.vector_types.specs.Rows.{row_told, row_of_table, is_neon_row}
use Rattle.vector_types.specs.Functions.{heading_of}
use Rattle.seq_core.specs.Terms.{Sequence}
use Rattle.seq_core.specs.Functions.{start, function_of}
use Rattle.sequence_types.specs.Claims.{SeesRows}
use Rattle.written_forms.specs.Moved.{helper_name}
use Rattle.written_forms.specs.Ready.{Setting}

-- ---- names in scopes

pub named_behind : {V : Type 0} (x : List ℕ) (es fs : List (List ℕ × V)) → named x (es ++ fs) ≡ or_else (named x es) (named x fs)
named_behind x [] fs = refl
named_behind x (e ∷ es) fs = at (same_name x e.0) (named_behind x es fs)
  where
    at : (b : Bool) → named x (es ++ fs) ≡ or_else (named x es) (named x fs) → (if b then Some e.1 else named x (es ++ fs)) ≡ or_else (if b then Some e.1 else named x es) (named x fs)
    at true h = refl
    at false h = h

visible_behind : (x : List ℕ) (outer : List Scope) (s : Scope) → visible x (outer ++ s ∷ []) ≡ or_else (named x s) (visible x outer)
visible_behind x [] s = at (named x s)
  where
    at : (o : Option Object) → or_else None o ≡ or_else o None
    at None = refl
    at (Some v) = refl
visible_behind x (t ∷ outer) s = ap (λ o. or_else o (named x t)) (visible_behind x outer s) ∙ at (named x s)
  where
    at : (o : Option Object) → or_else (or_else o (visible x outer)) (named x t) ≡ or_else o (or_else (visible x outer) (named x t))
    at None = refl
    at (Some v) = refl

-- a scope that opens hides nothing
pub opened_sees : (x : List ℕ) (env : Env) → object_named x (opened env) ≡ object_named x env
opened_sees x env = visible_behind x env.outer env.innermost

-- an object of a name that the scope doesn't have hides others of the name
pub object_past : (y x : List ℕ) (o : Object) (env : Env) → named x env.innermost ≡ None → object_named y (with_object x o env) ≡ (if same_name y x then Some o else object_named y env)
object_past y x o env h = ap (λ z. or_else z (visible y env.outer)) (named_behind y env.innermost ((x, o) ∷ [])) ∙ at (same_name y x) refl
  where
    at : (b : Bool) → same_name y x ≡ b
        → or_else (or_else (named y env.innermost) (if b then Some o else None)) (visible y env.outer) ≡ (if b then Some o else object_named y env)
    at true e =
        let same : y ≡ x = (bytes_eq-Decides y x).0 e in
        let none : named y env.innermost ≡ None = subst (λ z. named z env.innermost ≡ None) (sym same) h in
        ap (λ z. or_else (or_else z (Some o)) (visible y env.outer)) none
    at false e = other (named y env.innermost)
      where
        other : (z : Option Object) → or_else (or_else z None) (visible y env.outer) ≡ or_else z (visible y env.outer)
        other None = refl
        other (Some v) = refl

-- ---- objects

abbrev pub written_object : Object → Object
written_object o = record { ty = written_type o.ty; constant = o.constant }

pub known_written : (c : Bool) (t : CType) → known c (written_type t) ≡ written_object (known c t)
known_written c CType.Void = refl
known_written c (CType.Int s) = refl
known_written c CType.M128 = refl
known_written c CType.M256 = refl
known_written c (CType.Neon l wide) = refl
known_written c CType.Pair = refl
known_written c (CType.Pointer e k) = refl
known_written c (CType.Array e n k) = refl

-- a name that is neither that of a row of Neon nor that of a row's function
pub record Clean (x : List ℕ) : Type 0 where
  pub no_neon : neon.find_of x ≡ None
  pub no_helper : is_helper x ≡ false

-- ---- functions

-- the function's name is no row's and begins no intrinsic's; it stands before the place with a written heading
pub record SeenFunction (functions : List (List ℕ × Callee)) (here : ℕ) (f : List ℕ) (c : Callee) : Type 0 where
  pub free : intel.find_of f ≡ None
  pub plain : same_name (take 3 f) (codes "_mm") ≡ false
  pub callee : Callee
  pub is : named f functions ≡ Some callee
  pub before : callee.order < here
  pub types : List CType
  pub params : c.heading.params ≡ map passing.Object types
  pub written : callee.heading ≡ record { result = written_type c.heading.result; params = map passing.Object (map written_type types) }

-- the function of a row, which stands before the place
pub record SeenHelper (functions : List (List ℕ × Callee)) (here : ℕ) (x : List ℕ) (q : Sequence) : Type 0 where
  pub callee : Callee
  pub is : named x functions ≡ Some callee
  pub before : callee.order < here
  pub head : callee.heading ≡ heading_of Neon (function_of start x q)
  pub helper : is_helper x ≡ true

-- ---- the two places

pub record At (w : Setting) (env there : Env) : Type 0 where
  pub source : env.dialect ≡ X86
  pub rows : env.rows ≡ row_of_table X86
  pub source_names : env.neon ≡ is_neon_row
  pub dialect : there.dialect ≡ Neon
  pub neon_names : there.neon ≡ is_neon_row
  pub neon_rows : there.rows ≡ row_of_table Neon
  pub no_rows : (op : NeonOp) → named (neon.name_of op) there.functions ≡ None
  pub objects : (x : List ℕ) → object_named x there ≡ option_map written_object (object_named x env)
  pub clean : (x : List ℕ) (o : Object) → object_named x env ≡ Some o → Clean x
  pub scope : (x : List ℕ) → named x env.innermost ≡ None → named x there.innermost ≡ None
  pub calls : there.calls_none ≡ false
  pub functions : (f : List ℕ) (c : Callee) → named f env.functions ≡ Some c → c.order < env.here → SeenFunction there.functions there.here f c
  pub helpers : (f : List ℕ) (imm : ℕ) (op : IntelOp) (q : Sequence) → intel.find_of f ≡ Some op → w.plans f imm ≡ Some q → w.helps f imm ≡ true → SeenHelper there.functions there.here (helper_name f (intel.range_of op) imm) q

-- a scope that opens on both sides, and one on the other side alone
pub opened_at : (w : Setting) (env there : Env) → At w env there → At w (opened env) (opened there)
opened_at w env there a = record {
  source = a.source;
  rows = a.rows;
  source_names = a.source_names;
  dialect = a.dialect;
  neon_names = a.neon_names;
  neon_rows = a.neon_rows;
  no_rows = a.no_rows;
  objects = λ x. opened_sees x there ∙ a.objects x ∙ ap (option_map written_object) (sym (opened_sees x env));
  clean = λ x o h. a.clean x o (sym (opened_sees x env) ∙ h);
  scope = λ x h. refl;
  calls = a.calls;
  functions = a.functions;
  helpers = a.helpers;
}

pub deeper : (w : Setting) (env there : Env) → At w env there → At w env (opened there)
deeper w env there a = record {
  source = a.source;
  rows = a.rows;
  source_names = a.source_names;
  dialect = a.dialect;
  neon_names = a.neon_names;
  neon_rows = a.neon_rows;
  no_rows = a.no_rows;
  objects = λ x. opened_sees x there ∙ a.objects x;
  clean = a.clean;
  scope = λ x h. refl;
  calls = a.calls;
  functions = a.functions;
  helpers = a.helpers;
}

-- one more object of a name that the scope doesn't have
pub object_at : (w : Setting) (env there : Env) (x : List ℕ) (o : Object) → At w env there → named x env.innermost ≡ None → Clean x → At w (with_object x o env) (with_object x (written_object o) there)
object_at w env there x o a none c = record {
  source = a.source;
  rows = a.rows;
  source_names = a.source_names;
  dialect = a.dialect;
  neon_names = a.neon_names;
  neon_rows = a.neon_rows;
  no_rows = a.no_rows;
  objects = λ y. object_past y x (written_object o) there (a.scope x none) ∙ chosen y (same_name y x) ∙ ap (option_map written_object) (sym (object_past y x o env none));
  clean = λ y v h. tidy y v (same_name y x) refl (sym (object_past y x o env none) ∙ h);
  scope = λ y h. within y (same_name y x) refl (sym (named_behind y env.innermost ((x, o) ∷ [])) ∙ h);
  calls = a.calls;
  functions = a.functions;
  helpers = a.helpers;
}
  where
    chosen : (y : List ℕ) (b : Bool) → (if b then Some (written_object o) else object_named y there) ≡ option_map written_object (if b then Some o else object_named y env)
    chosen y true = refl
    chosen y false = a.objects y

    tidy : (y : List ℕ) (v : Object) (b : Bool) → same_name y x ≡ b → (if b then Some o else object_named y env) ≡ Some v → Clean y
    tidy y v true e h = subst Clean (sym ((bytes_eq-Decides y x).0 e)) c
    tidy y v false e h = a.clean y v h

    empty : (y : List ℕ) (z : Option Object) → named y env.innermost ≡ z → or_else z None ≡ None → named y there.innermost ≡ None
    empty y None e h = a.scope y e
    empty y (Some v) e h = absurd (cc)

    within : (y : List ℕ) (b : Bool) → same_name y x ≡ b → or_else (named y env.innermost) (if b then Some o else None) ≡ None → named y (there.innermost ++ (x, written_object o) ∷ []) ≡ None
    within y true e h = absurd (never (named y env.innermost) h)
      where
        never : (z : Option Object) → or_else z (Some o) ≡ None → ⊥
        never None g = absurd (cc)
        never (Some v) g = absurd (cc)
    within y false e h = named_behind y there.innermost ((x, written_object o) ∷ []) ∙ ap (λ z. or_else z (if same_name y x then Some (written_object o) else None)) (empty y (named y env.innermost) refl h)
        ∙ ap (λ b. if b then Some (written_object o) else None) e

-- ---- rows of Neon

none_of : {A B : Type 0} (f : A → B) (o : Option A) → option_map f o ≡ None → o ≡ None
none_of f None h = refl
none_of f (Some a) h = absurd (cc)

pub middle_false : (a b c : Bool) → b ≡ false → (a && b && c) ≡ false
middle_false true false c h = refl
middle_false false b c h = refl
middle_false true true c h = absurd (cc)

pub first_false : (a b c : Bool) → a ≡ false → (a && b && c) ≡ false
first_false false b c h = refl
first_false true b c h = absurd (cc)

pub unseen : (w : Setting) (env there : Env) (x : List ℕ) → At w env there → object_named x env ≡ None → object_named x there ≡ None
unseen w env there x a h = a.objects x ∙ ap (option_map written_object) h

-- no object has the name of a row, or of a row's function
dirty : (w : Setting) (env there : Env) (x : List ℕ) → At w env there → (Clean x → ⊥) → object_named x env ≡ None
dirty w env there x a n = at (object_named x env) refl
  where
    at : (o : Option Object) → object_named x env ≡ o → o ≡ None
    at None h = refl
    at (Some o) h = absurd (n (a.clean x o h))

pub helper_unseen : (w : Setting) (env there : Env) (x : List ℕ) → At w env there → is_helper x ≡ true → object_named x there ≡ None
helper_unseen w env there x a h = unseen w env there x a (dirty w env there x a (λ c. let g : true ≡ false = sym h ∙ c.no_helper in absurd (cc)))

pub sees_rows : (w : Setting) (env there : Env) → At w env there → SeesRows there
sees_rows w env there a = record { dialect = a.dialect; neon = a.neon_names; undefined = a.no_rows; rows = row }
  where
    row : (op : NeonOp) (p : Place) → called (neon.name_of op) p there ≡ Ok (record { heading = row_heading (neon.signature_of op); range = neon.range_of op; outside = false })
    row op p =
        let found : there.rows (neon.name_of op) ≡ Some (row_told (neon.signature_of op) (neon.range_of op)) =
        ap (λ g. g (neon.name_of op)) a.neon_rows ∙ ap (option_map (λ z. row_told (neon.signature_of z) (neon.range_of z))) (found_by_name op) in
        let known_row : is_unknown_intrinsic (neon.name_of op) there ≡ false = middle_false (same_name (take 3 (neon.name_of op)) (codes "_mm")) (not (is_some (there.rows (neon.name_of op)))) (not (same_name (neon.name_of op) (codes "_mm256_castsi128_si256"))) (ap (λ z. not (is_some z)) found) in
        let no_object : object_named (neon.name_of op) there ≡ None =
        unseen w env there (neon.name_of op) a (dirty w env there (neon.name_of op) a (λ c. let g : Some op ≡ None = sym (found_by_name op) ∙ c.no_neon in absurd (cc))) in
        rw (known_row, no_object, a.no_rows op, found) refl
