-- The functions of a unit and of what is written for it, by their names (C11 6.9p3).
use Rattle.std.proofs.Common.{◌≡◌, ◌⊎◌, inl, inr, refl, sym, ap, ◌∙◌, subst, arith, ℕ, zero, suc, ◌+◌, ◌<◌, ◌≤◌, Bool, true, false, ◌||◌, List, [], ◌∷◌, ◌++◌, map, length, Option, Some, None, is_some, if◌then◌else◌}
use Rattle.std.specs.Prelude.{bytes_eq}
use Rattle.std.proofs.lemmas.Slice.Eq.{bytes_eq-Decides}
use Rattle.c_text.specs.declared.tokens.Dialect.{Dialect}
use Rattle.c_text.specs.declared.tokens.Dialect.TheVariants.{X86, Neon}
use Rattle.c_tree.specs.declared.types.CType.{CType}
use Rattle.c_tree.specs.Tree.{Object, Definition, External, Function, Table}
use Rattle.c_memory.specs.Functions.{types_of}
use Rattle.c_memory.specs.Matching.{written_type}
use Rattle.c_memory.specs.Meaning.{is_helper}
use Rattle.intel_table.specs.Rows as intel
use Rattle.type_rules.specs.declared.passing.Parameter.TheVariants as passing
use Rattle.type_rules.specs.Types.{read_type}
use Rattle.type_rules.specs.Passing.{Heading}
use Rattle.scopes.specs.Scopes.{Callee, or_else, named, same_name}
use Rattle.vector_types.specs.Functions.{parameter_of, heading_of, Functions, with_function, with_item, with_items}
use Rattle.written_forms.specs.Seen.{sees_nothing}
use Rattle.written_forms.specs.Moved.{Plans}
use Rattle.written_forms.specs.Statements.{moved_parameters, moved_function}
use Rattle.written_forms.specs.Helpers.{Use, has_name, helper_function, moved_items, with_helpers}
use Rattle.written_forms.specs.ReadyUnits.{IsHelper, AreHelpers, Among}
use Rattle.written_types.proofs.Types.{read_type_written}
use Rattle.written_types.proofs.Places.{named_behind}
use Rattle.written_types.proofs.Names.{Unreserved}

-- ---- the first function of a name

abbrev told : Dialect → ℕ → Definition → Callee
told d i f = record { order = i; heading = heading_of d f }

-- among items of which the first has this number
abbrev pub first : Dialect → List ℕ → ℕ → List External → Option Callee
first d x i [] = None
first d x i (Function f ∷ rest) = if same_name x f.name then Some (told d i f) else first d x (i + 1) rest
first d x i (Table t is_static ∷ rest) = first d x (i + 1) rest

one_more : (d : Dialect) (x : List ℕ) (i : ℕ) (f : Definition) (all : Functions) → named x (with_function d i f all) ≡ or_else (named x all) (if same_name x f.name then Some (told d i f) else None)
one_more d x i f all = at (named f.name all) refl
  where
    known : (c : Callee) → named f.name all ≡ Some c → (b : Bool) → same_name x f.name ≡ b → named x all ≡ or_else (named x all) (if b then Some (told d i f) else None)
    known c h true e = let same : named x all ≡ Some c = ap (λ z. named z all) ((bytes_eq-Decides x f.name).0 e) ∙ h in rw same refl
    known c h false e = other (named x all)
      where
        other : (o : Option Callee) → o ≡ or_else o None
        other None = refl
        other (Some v) = refl

    at : (o : Option Callee) → named f.name all ≡ o → named x (if is_some o then all else all ++ (f.name, told d i f) ∷ []) ≡ or_else (named x all) (if same_name x f.name then Some (told d i f) else None)
    at (Some c) h = known c h (same_name x f.name) refl
    at None h = named_behind x all ((f.name, told d i f) ∷ [])

pub with_items_named : (d : Dialect) (x : List ℕ) (i : ℕ) (items : List External) (all : Functions) → named x (with_items d i items all) ≡ or_else (named x all) (first d x i items)
with_items_named d x i [] all = other (named x all)
  where
    other : (o : Option Callee) → o ≡ or_else o None
    other None = refl
    other (Some v) = refl
with_items_named d x i (Function f ∷ rest) all =
    with_items_named d x (i + 1) rest (with_function d i f all) ∙ ap (λ o. or_else o (first d x (i + 1) rest)) (one_more d x i f all) ∙ joined (named x all) (same_name x f.name)
  where
    joined : (o : Option Callee) (b : Bool) → or_else (or_else o (if b then Some (told d i f) else None)) (first d x (i + 1) rest) ≡ or_else o (if b then Some (told d i f) else first d x (i + 1) rest)
    joined None true = refl
    joined None false = refl
    joined (Some c) b = refl
with_items_named d x i (Table t is_static ∷ rest) all = with_items_named d x (i + 1) rest all

-- it stands behind those before it
pub first_behind : (d : Dialect) (x : List ℕ) (i : ℕ) (items : List External) (c : Callee) → first d x i items ≡ Some c → i ≤ c.order
first_behind d x i [] c h = absurd (cc)
first_behind d x i (Function f ∷ rest) c h = at (same_name x f.name) h (first_behind d x (i + 1) rest c)
  where
    at : (b : Bool) → (if b then Some (told d i f) else first d x (i + 1) rest) ≡ Some c → (first d x (i + 1) rest ≡ Some c → i + 1 ≤ c.order) → i ≤ c.order
    at true e g = let same : told d i f ≡ c = cc in subst (λ z. i ≤ z.order) same (omega arith)
    at false e g = let l = g e in omega (arith, l)
first_behind d x i (Table t is_static ∷ rest) c h = let l = first_behind d x (i + 1) rest c h in omega (arith, l)

-- ---- functions of the source and what is written for them

-- the heading that the source declares is that of its typed form
pub record Pair (f g : Definition) : Type 0 where
  pub name : f.name ≡ g.name
  pub result : read_type X86 f.result ≡ g.result
  pub params : map (parameter_of X86) f.params ≡ map passing.Object (types_of g.params)
  pub unreserved : Unreserved f.name
  pub free : intel.find_of f.name ≡ None

abbrev pub Pairs : List External → List External → Type 0
Pairs [] [] = Unit {0}
Pairs (Function f ∷ source) (Function g ∷ unit) = Pair f g × Pairs source unit
Pairs _ _ = ⊥

params_written : (ds : List Object) → map (parameter_of Neon) (moved_parameters ds) ≡ map passing.Object (map written_type (types_of ds))
params_written [] = refl
params_written (d ∷ rest) = rw (read_type_written d.ty, params_written rest) refl

abbrev made : CType → List CType → Heading
made t ts = record { result = t; params = map passing.Object ts }

source_heading : (f g : Definition) → Pair f g → heading_of X86 f ≡ made g.result (types_of g.params)
source_heading f g p = ap (λ z. record { result = z; params = map (parameter_of X86) f.params }) p.result ∙ ap (λ z. record { result = g.result; params = z }) p.params

written_heading : (plans : Plans) (g : Definition) → heading_of Neon (moved_function plans sees_nothing g) ≡ made (written_type g.result) (map written_type (types_of g.params))
written_heading plans g =
    ap (λ z. record { result = z; params = map (parameter_of Neon) (moved_parameters g.params) }) (read_type_written g.result) ∙ ap (λ z. record { result = written_type g.result; params = z }) (params_written g.params)

-- the function that is written for one of the source
pub record Written (plans : Plans) (unit : List External) (x : List ℕ) (i k : ℕ) (c : Callee) : Type 0 where
  pub unreserved : Unreserved x
  pub free : intel.find_of x ≡ None
  pub types : List CType
  pub params : c.heading.params ≡ map passing.Object types
  pub callee : Callee
  pub is : first Neon x (k + i) (moved_items plans unit) ≡ Some callee
  pub order : callee.order ≡ k + c.order
  pub heading : callee.heading ≡ record { result = written_type c.heading.result; params = map passing.Object (map written_type types) }

same_test : (x y z : List ℕ) (b : Bool) → y ≡ z → same_name x y ≡ b → same_name x z ≡ b
same_test x y z b e h = ap (same_name x) (sym e) ∙ h

pub written_for : (plans : Plans) (source unit : List External) (x : List ℕ) (i k : ℕ) (c : Callee) → Pairs source unit → first X86 x i source ≡ Some c → Written plans unit x i k c
written_for plans [] [] x i k c p h = absurd (cc)
written_for plans [] (u ∷ unit) x i k c p h = absurd p
written_for plans (Function f ∷ source) [] x i k c p h = absurd p
written_for plans (Function f ∷ source) (Table d is_static ∷ unit) x i k c p h = absurd p
written_for plans (Table d is_static ∷ source) unit x i k c p h = absurd p
written_for plans (Function f ∷ source) (Function g ∷ unit) x i k c p h = at (same_name x f.name) refl h (λ e. written_for plans source unit x (i + 1) k c p.1 e)
  where
    whole : List External
    whole = Function g ∷ unit

    here : Callee
    here = told Neon (k + i) (moved_function plans sees_nothing g)

    later : (b : Bool) → same_name x g.name ≡ b → b ≡ false → (n : ℕ) → n ≡ k + i + 1 → first Neon x n (moved_items plans unit) ≡ first Neon x (k + i) (moved_items plans whole)
    later true e g2 n l = absurd (cc)
    later false e g2 n l = ap (λ m. first Neon x m (moved_items plans unit)) l ∙ sym (ap (λ b. if b then Some here else first Neon x (k + i + 1) (moved_items plans unit)) e)

    at : (b : Bool) → same_name x f.name ≡ b → (if b then Some (told X86 i f) else first X86 x (i + 1) source) ≡ Some c → (first X86 x (i + 1) source ≡ Some c → Written plans unit x (i + 1) k c)
        → Written plans whole x i k c
    at true e m rest =
        let same : told X86 i f ≡ c = cc in
        let head : c.heading ≡ made g.result (types_of g.params) = ap (λ z. z.heading) (sym same) ∙ source_heading f g p.0 in
        record {
          unreserved = subst Unreserved (sym ((bytes_eq-Decides x f.name).0 e)) p.0.unreserved;
          free = ap intel.find_of ((bytes_eq-Decides x f.name).0 e) ∙ p.0.free;
          types = types_of g.params;
          params = ap (λ z. z.params) head;
          callee = here;
          is = ap (λ b. if b then Some here else first Neon x (k + i + 1) (moved_items plans unit)) (same_test x f.name g.name true p.0.name e);
          order = ap (λ z. k + z.order) same;
          heading = written_heading plans g ∙ ap (λ z. record { result = written_type z; params = map passing.Object (map written_type (types_of g.params)) }) (sym (ap (λ z. z.result) head));
        }
    at false e m rest =
        let r = rest m in
        record {
          unreserved = r.unreserved;
          free = r.free;
          types = r.types;
          params = r.params;
          callee = r.callee;
          is = sym (later (same_name x g.name) refl (same_test x f.name g.name false p.0.name e) (k + (i + 1)) (omega arith)) ∙ r.is;
          order = r.order;
          heading = r.heading;
        }

-- and the other way round: what is written stands for one of the source
pub record Source (source : List External) (x : List ℕ) (i k : ℕ) (c : Callee) : Type 0 where
  pub callee : Callee
  pub is : first X86 x i source ≡ Some callee
  pub order : c.order ≡ k + callee.order

pub source_of : (plans : Plans) (source unit : List External) (x : List ℕ) (i k : ℕ) (c : Callee) → Pairs source unit → first Neon x (k + i) (moved_items plans unit) ≡ Some c → Source source x i k c
source_of plans [] [] x i k c p h = absurd (cc)
source_of plans [] (u ∷ unit) x i k c p h = absurd p
source_of plans (Function f ∷ source) [] x i k c p h = absurd p
source_of plans (Function f ∷ source) (Table d is_static ∷ unit) x i k c p h = absurd p
source_of plans (Table d is_static ∷ source) unit x i k c p h = absurd p
source_of plans (Function f ∷ source) (Function g ∷ unit) x i k c p h = at (same_name x g.name) refl h (λ e. source_of plans source unit x (i + 1) k c p.1 e)
  where
    here : Callee
    here = told Neon (k + i) (moved_function plans sees_nothing g)

    at : (b : Bool) → same_name x g.name ≡ b → (if b then Some here else first Neon x (k + i + 1) (moved_items plans unit)) ≡ Some c → (first Neon x (k + (i + 1)) (moved_items plans unit) ≡ Some c → Source source x (i + 1) k c)
        → Source (Function f ∷ source) x i k c
    at true e m rest =
        let same : here ≡ c = cc in
        record {
          callee = told X86 i f;
          is = ap (λ b. if b then Some (told X86 i f) else first X86 x (i + 1) source) (same_test x g.name f.name true (sym p.0.name) e);
          order = ap (λ z. z.order) (sym same);
        }
    at false e m rest =
        let place : k + (i + 1) ≡ k + i + 1 = omega arith in
        let r = rest (ap (λ n. first Neon x n (moved_items plans unit)) place ∙ m) in
        record { callee = r.callee; is = ap (λ b. if b then Some (told X86 i f) else first X86 x (i + 1) source) (same_test x g.name f.name false (sym p.0.name) e) ∙ r.is; order = r.order }

-- ---- functions of rows

-- behind functions of rows of other names
pub behind_helpers : (x : List ℕ) (i : ℕ) (us : List Use) (items : List External) → has_name x us ≡ false → first Neon x i (with_helpers us items) ≡ first Neon x (i + length us) items
behind_helpers x i [] items h = let place : i ≡ i + 0 = omega arith in ap (λ n. first Neon x n items) place
behind_helpers x i (u ∷ us) items h = at (bytes_eq x u.name) h (λ e. behind_helpers x (i + 1) us items e)
  where
    at : (b : Bool) → (b || has_name x us) ≡ false → (has_name x us ≡ false → first Neon x (i + 1) (with_helpers us items) ≡ first Neon x (i + 1 + length us) items)
        → (if b then Some (told Neon i (helper_function u)) else first Neon x (i + 1) (with_helpers us items)) ≡ first Neon x (i + length (u ∷ us)) items
    at true e f = absurd (cc)
    at false e f = let place : i + 1 + length us ≡ i + suc (length us) = omega arith in f e ∙ ap (λ n. first Neon x n items) place

-- behind others of other names
pub behind_others : (x : List ℕ) (i : ℕ) (us vs : List Use) (items : List External) → has_name x us ≡ false → first Neon x i (with_helpers (us ++ vs) items) ≡ first Neon x (i + length us) (with_helpers vs items)
behind_others x i [] vs items h = let place : i ≡ i + 0 = omega arith in ap (λ n. first Neon x n (with_helpers vs items)) place
behind_others x i (u ∷ us) vs items h = at (bytes_eq x u.name) h (λ e. behind_others x (i + 1) us vs items e)
  where
    at : (b : Bool) → (b || has_name x us) ≡ false → (has_name x us ≡ false → first Neon x (i + 1) (with_helpers (us ++ vs) items) ≡ first Neon x (i + 1 + length us) (with_helpers vs items))
        → (if b then Some (told Neon i (helper_function u)) else first Neon x (i + 1) (with_helpers (us ++ vs) items)) ≡ first Neon x (i + length (u ∷ us)) (with_helpers vs items)
    at true e f = absurd (cc)
    at false e f = let place : i + 1 + length us ≡ i + suc (length us) = omega arith in f e ∙ ap (λ n. first Neon x n (with_helpers vs items)) place

-- the function of a row that is among them
pub record FoundHelper (plans : Plans) (whole : List External) (row : List ℕ) (imm i : ℕ) (us : List Use) (items : List External) : Type 0 where
  pub helper : Use
  pub same_row : helper.row ≡ row
  pub same_imm : helper.imm ≡ imm
  pub about : IsHelper plans whole helper
  pub order : ℕ
  pub is : first Neon helper.name i (with_helpers us items) ≡ Some (told Neon order (helper_function helper))
  pub before : order < i + length us
  pub differs : (n : List ℕ) → has_name n us ≡ false → bytes_eq n helper.name ≡ false

not_either : (a b : Bool) → (a || b) ≡ false → (a ≡ false) × (b ≡ false)
not_either true b h = absurd (cc)
not_either false b h = (refl, h)

pub turned : (x y : List ℕ) → bytes_eq x y ≡ false → bytes_eq y x ≡ false
turned x y h = at (bytes_eq y x) refl
  where
    at : (b : Bool) → bytes_eq y x ≡ b → b ≡ false
    at true e = sym (sym h ∙ (bytes_eq-Decides x y).1 (sym ((bytes_eq-Decides y x).0 e)))
    at false e = refl

pub helper_found : (plans : Plans) (whole : List External) (row : List ℕ) (imm i : ℕ) (us : List Use) (items : List External) → AreHelpers plans whole us → Among row imm us → FoundHelper plans whole row imm i us items
helper_found plans whole row imm i [] items h a = absurd a
helper_found plans whole row imm i (u ∷ us) items h (inl a) = record {
  helper = u;
  same_row = a.0;
  same_imm = a.1;
  about = h.0;
  order = i;
  is = ap (λ b. if b then Some (told Neon i (helper_function u)) else first Neon u.name (i + 1) (with_helpers us items)) ((bytes_eq-Decides u.name u.name).1 refl);
  before = omega arith;
  differs = λ n g. (not_either (bytes_eq n u.name) (has_name n us) g).0;
}
helper_found plans whole row imm i (u ∷ us) items h (inr a) =
    let r = helper_found plans whole row imm (i + 1) us items h.2 a in
    let l = r.before in
    record {
      helper = r.helper;
      same_row = r.same_row;
      same_imm = r.same_imm;
      about = r.about;
      order = r.order;
      is = ap (λ b. if b then Some (told Neon i (helper_function u)) else first Neon r.helper.name (i + 1) (with_helpers us items)) (turned u.name r.helper.name (r.differs u.name h.1)) ∙ r.is;
      before = omega (arith, l);
      differs = λ n g. r.differs n (not_either (bytes_eq n u.name) (has_name n us) g).1;
    }
