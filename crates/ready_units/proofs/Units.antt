-- Typed units that are movable are ready (C11 6.9).
use Rattle.std.proofs.Common.{◌≡◌, refl, sym, ap, ◌∙◌, subst, ◌⊎◌, inl, inr, arith, ℕ, ◌+◌, ◌<◌, ◌≤◌, Bool, true, false, not, ◌&&◌, ◌||◌, List, [], ◌∷◌, ◌++◌, map, Option, Some, None, is_some, if◌then◌else◌, codes, nat_eq, take}
use Rattle.std.proofs.lemmas.Slice.Eq.{bytes_eq-Decides}
use Rattle.std.specs.Prelude.{bytes_eq}
use Rattle.std.specs.List.{starts_with}
use Rattle.c_text.specs.declared.tokens.Dialect.TheVariants.{X86, Neon}
use Rattle.c_tree.specs.Tree.{Definition, External, Function, Table}
use Rattle.c_memory.specs.Functions.{types_of}
use Rattle.c_memory.specs.Meaning.{is_helper, functions}
use Rattle.intel_table.specs.declared.IntelOp.{IntelOp}
use Rattle.intel_table.specs.Rows as intel
use Rattle.neon_table.specs.declared.NeonOp.{NeonOp}
use Rattle.neon_table.specs.Rows as neon
use Rattle.type_rules.specs.Types.{read_type}
use Rattle.scopes.specs.Scopes.{Env, Callee, or_else, named, same_name, object_named}
use Rattle.object_types.specs.Reserved.{is_reserved, is_vector_type, is_predefined}
use Rattle.order_rule.specs.Callees.{Before}
use Rattle.vector_types.specs.Rows.{row_of_table, is_neon_row}
use Rattle.vector_types.specs.Functions.{is_helper as calls_nothing, parameter_of, heading_of, Functions, with_item, with_items, in_function}
use Rattle.vector_types.specs.Order.{Orderly, calls}
use Rattle.vector_types.specs.Units.{next_item, unit_env}
use Rattle.vector_types.specs.Typed as typed
use Rattle.vector_types.specs.Typed.{MayDefine, TypedFunction, TypedItems, TypedUnit}
use Rattle.written_forms.specs.Seen.{sees_nothing}
use Rattle.written_forms.specs.Moved.{Plans}
use Rattle.written_forms.specs.Statements.{sees_parameters}
use Rattle.written_forms.specs.Helpers.{Use, statements_uses, unit_uses, helpers}
use Rattle.ready_units.specs.Movable.{unmoved_function, first_unmoved}
use Rattle.written_forms.specs.Planned.{AreFit}
use Rattle.written_forms.specs.Ready.{Heading}
use Rattle.written_forms.specs.ReadyUnits.{Heads, no_heads, with_head, IsFree, ReadyItems}
use Rattle.ready_units.specs.Claims.{MovableUnitsAreReady}
use Rattle.ready_units.proofs.SeenObjects.{At, SeenHead, named_behind, opened_sees}
use Rattle.ready_units.proofs.Sound.{Helps, Helped, first_none, second_none, helped_first, helped_second}
use Rattle.ready_units.proofs.CalmStatements.{function_calm}
use Rattle.ready_units.proofs.RowNames.{ends_in_number, intel_name}
use Rattle.ready_units.proofs.GoodUses.{items_good}
use Rattle.ready_units.proofs.Uses.{same_turned, not_first, is_told, among, helped, NoneHelps, are_helpers}
use Rattle.ready_units.proofs.Functions.{FunctionReady, function_ready}

-- ---- the functions of a unit by their names

-- what stands before stays
item_keeps : (i : ℕ) (u : External) (all : Functions) (y : List ℕ) (c : Callee) → named y all ≡ Some c → named y (with_item X86 i u all) ≡ Some c
item_keeps i (Function f) all y c h = at (is_some (named f.name all))
  where
    at : (b : Bool) → named y (if b then all else all ++ (f.name, record { order = i; heading = heading_of X86 f }) ∷ []) ≡ Some c
    at true = h
    at false = named_behind y all ((f.name, record { order = i; heading = heading_of X86 f }) ∷ []) ∙ ap (λ o. or_else o (named y ((f.name, record { order = i; heading = heading_of X86 f }) ∷ []))) h
item_keeps i (Table d is_static) all y c h = h

items_keep : (i : ℕ) (items : List External) (all : Functions) (y : List ℕ) (c : Callee) → named y all ≡ Some c → named y (with_items X86 i items all) ≡ Some c
items_keep i [] all y c h = h
items_keep i (u ∷ rest) all y c h = items_keep (i + 1) rest (with_item X86 i u all) y c (item_keeps i u all y c h)

-- what is named stood before, or stands here or later
one_later : (i : ℕ) (f : Definition) (all : Functions) (y : List ℕ) (c : Callee) → named y (all ++ (f.name, record { order = i; heading = heading_of X86 f }) ∷ []) ≡ Some c → (named y all ≡ Some c) ⊎ (i ≤ c.order)
one_later i f all y c h = at (named y all) refl (same_name y f.name) refl (sym (named_behind y all ((f.name, record { order = i; heading = heading_of X86 f }) ∷ [])) ∙ h)
  where
    told : Callee
    told = record { order = i; heading = heading_of X86 f }

    at : (o : Option Callee) → named y all ≡ o → (b : Bool) → same_name y f.name ≡ b → or_else o (if b then Some told else None) ≡ Some c → (o ≡ Some c) ⊎ (i ≤ c.order)
    at (Some d) e b g k = inl k
    at None e true g k = let same : told ≡ c = cc in inr (subst (λ z. i ≤ z.order) same (omega arith))
    at None e false g k = absurd (cc)

item_later : (i : ℕ) (u : External) (all : Functions) (y : List ℕ) (c : Callee) → named y (with_item X86 i u all) ≡ Some c → (named y all ≡ Some c) ⊎ (i ≤ c.order)
item_later i (Function f) all y c h = at (is_some (named f.name all)) h
  where
    at : (b : Bool) → named y (if b then all else all ++ (f.name, record { order = i; heading = heading_of X86 f }) ∷ []) ≡ Some c → (named y all ≡ Some c) ⊎ (i ≤ c.order)
    at true g = inl g
    at false g = one_later i f all y c g
item_later i (Table d is_static) all y c h = inl h

items_later : (i : ℕ) (items : List External) (all : Functions) (y : List ℕ) (c : Callee) → named y (with_items X86 i items all) ≡ Some c → (named y all ≡ Some c) ⊎ (i ≤ c.order)
items_later i [] all y c h = inl h
items_later i (u ∷ rest) all y c h = at (items_later (i + 1) rest (with_item X86 i u all) y c h)
  where
    at : (named y (with_item X86 i u all) ≡ Some c) ⊎ (i + 1 ≤ c.order) → (named y all ≡ Some c) ⊎ (i ≤ c.order)
    at (inl g) = item_later i u all y c g
    at (inr g) = inr (omega (arith, g))

-- ---- names that a function may have

record Unreserved (neon_row : Bool) (x : List ℕ) : Type 0 where
  pub helper : starts_with nat_eq x (codes "mg_") ≡ false
  pub intel : starts_with nat_eq x (codes "_mm") ≡ false
  pub neon : neon_row ≡ false

unreserved : (b : Bool) (x : List ℕ) → is_reserved X86 b x ≡ false → Unreserved b x
unreserved b x h =
    let mg = starts_with nat_eq x (codes "mg_") in
    let mm = starts_with nat_eq x (codes "_mm") in
    let built = starts_with nat_eq x (codes "__builtin_") in
    let vector = is_vector_type x in
    let sixth = not_first (mg || mm || built || b || vector || is_predefined X86 x) (is_predefined Neon x) h in
    let fifth = not_first (mg || mm || built || b || vector) (is_predefined X86 x) sixth.0 in
    let fourth = not_first (mg || mm || built || b) vector fifth.0 in
    let third = not_first (mg || mm || built) b fourth.0 in
    let second = not_first (mg || mm) built third.0 in
    let first = not_first mg mm second.0 in
    record { helper = first.0; intel = first.1; neon = third.1 }

no_helper : (x : List ℕ) → starts_with nat_eq x (codes "mg_") ≡ false → is_helper x ≡ false
no_helper x h = same_turned (codes "mg_") (take 3 x) h

no_intel : (x : List ℕ) → starts_with nat_eq x (codes "_mm") ≡ false → intel.find_of x ≡ None
no_intel x h = at (intel.find_of x) refl
  where
    both : (a b : Bool) → a ≡ false → (a && b) ≡ true → {A : Type 0} → A
    both true b e f = absurd (cc)
    both false b e f = absurd (cc)

    at : (o : Option IntelOp) → intel.find_of x ≡ o → o ≡ None
    at None e = refl
    at (Some op) e = both (starts_with nat_eq x (codes "_mm")) (not (ends_in_number x)) h (intel_name x op e)

no_neon : (x : List ℕ) → is_neon_row x ≡ false → neon.find_of x ≡ None
no_neon x h = at (neon.find_of x) h
  where
    at : (o : Option NeonOp) → is_some o ≡ false → o ≡ None
    at None e = refl
    at (Some op) e = absurd (cc)

-- ---- items

-- what an item sees, behind the functions before it
record ItemsAt (env : Env) (heads : Heads) (all : Functions) (rest : List External) : Type 0 where
  pub dialect : env.dialect ≡ X86
  pub rows : env.rows ≡ row_of_table X86
  pub neon : env.neon ≡ is_neon_row
  pub objects : (x : List ℕ) → object_named x env ≡ None
  pub functions : env.functions ≡ with_items X86 env.here rest all
  pub before : (y : List ℕ) (c : Callee) → named y all ≡ Some c → c.order < env.here
  pub seen : (y : List ℕ) (c : Callee) → named y all ≡ Some c → SeenHead heads y c

may_define : (env : Env) (heads : Heads) (all : Functions) (rest : List External) (x : List ℕ) → ItemsAt env heads all rest → MayDefine env x → Unreserved (is_neon_row x) x
may_define env heads all rest x at may = unreserved (is_neon_row x) x (ap (λ d. is_reserved d (is_neon_row x) x) (sym at.dialect) ∙ ap (λ n. is_reserved env.dialect (n x) x) (sym at.neon) ∙ may.unreserved)

free : (x : List ℕ) → Unreserved (is_neon_row x) x → IsFree x
free x u = record { no_intel = no_intel x u.intel; no_neon = no_neon x u.neon; no_helper = no_helper x u.helper }

-- the function's parts see them
function_at : (env : Env) (heads : Heads) (all : Functions) (rest : List External) (f : Definition) → ItemsAt env heads all rest → At (in_function f env) sees_nothing heads
function_at env heads all rest f at = record {
  dialect = at.dialect;
  rows = at.rows;
  objects = λ x o h. absurd (let none : object_named x (in_function f env) ≡ None = opened_sees x (record env { calls_none = calls_nothing env.dialect f.name }) ∙ at.objects x in cc);
  functions = λ y c h l. by y c l (items_later env.here rest all y c (ap (named y) (sym at.functions) ∙ h));
}
  where
    by : (y : List ℕ) (c : Callee) → c.order < env.here → (named y all ≡ Some c) ⊎ (env.here ≤ c.order) → SeenHead heads y c
    by y c l (inl h) = at.seen y c h
    by y c l (inr h) = absurd (omega (arith, l, h))

-- no function before has its name
new_name : (env : Env) (heads : Heads) (all : Functions) (f : Definition) (rest : List External) → ItemsAt env heads all (Function f ∷ rest) → MayDefine env f.name → named f.name all ≡ None
new_name env heads all f rest at may = by (named f.name all) refl
  where
    by : (o : Option Callee) → named f.name all ≡ o → o ≡ None
    by None e = refl
    by (Some c) e = absurd (may.undefined c (ap (named f.name) at.functions ∙ items_keep env.here (Function f ∷ rest) all f.name c e) (at.before f.name c e))

-- one before, of another name, or the function itself
abbrev Either : Functions → Definition → Callee → List ℕ → Callee → Type 0
Either all g told y c = ((named y all ≡ Some c) × (bytes_eq y g.name ≡ false)) ⊎ ((c ≡ told) × (bytes_eq y g.name ≡ true))

module _ (plans : Plans) (fit : AreFit plans) (helps : Helps) where
  -- the item behind a function sees it too
  next_at : (env : Env) (heads : Heads) (all : Functions) (f g : Definition) (rest : List External) → ItemsAt env heads all (Function f ∷ rest) → MayDefine env f.name → FunctionReady plans fit helps heads env f g
      → ItemsAt (next_item env) (with_head g heads) (with_item X86 env.here (Function f) all) rest
  next_at env heads all f g rest at may r = record {
    dialect = at.dialect;
    rows = at.rows;
    neon = at.neon;
    objects = at.objects;
    functions = at.functions;
    before = λ y c h. before y c (split y c h);
    seen = λ y c h. seen y c (split y c h);
  }
    where
      told : Callee
      told = record { order = env.here; heading = heading_of X86 f }

      none : named f.name all ≡ None
      none = new_name env heads all f rest at may

      by : (y : List ℕ) (c : Callee) (b : Bool) → bytes_eq y f.name ≡ b → (o : Option Callee) → named y all ≡ o → or_else o (if b then Some told else None) ≡ Some c → Either all g told y c
      by y c true e (Some d) h k = absurd (let same = (bytes_eq-Decides y f.name).0 e in let no : named y all ≡ None = ap (λ z. named z all) same ∙ none in cc)
      by y c true e None h k = let is : told ≡ c = cc in inr (sym is, ap (bytes_eq y) (sym r.name) ∙ e)
      by y c false e (Some d) h k = inl (h ∙ k, ap (bytes_eq y) (sym r.name) ∙ e)
      by y c false e None h k = absurd (cc)

      split : (y : List ℕ) (c : Callee) → named y (with_item X86 env.here (Function f) all) ≡ Some c → Either all g told y c
      split y c h = by y c (bytes_eq y f.name) refl (named y all) refl
          (sym (named_behind y all ((f.name, told) ∷ [])) ∙ sym (ap (λ b. named y (if b then all else all ++ (f.name, told) ∷ [])) (ap is_some none)) ∙ h)

      before : (y : List ℕ) (c : Callee) → Either all g told y c → c.order < env.here + 1
      before y c (inl h) = let l = at.before y c h.0 in omega (arith, l)
      before y c (inr h) = subst (λ z. z.order < env.here + 1) (sym h.0) (omega arith)

      head : Heading
      head = record { params = types_of g.params; result = g.result }

      own : (y : List ℕ) → bytes_eq y g.name ≡ true → SeenHead (with_head g heads) y told
      own y e = record {
        free = ap intel.find_of ((bytes_eq-Decides y g.name).0 e ∙ sym r.name) ∙ no_intel f.name (may_define env heads all (Function f ∷ rest) f.name at may).intel;
        head = head;
        is = ap (λ b. if b then Some head else heads y) e;
        params = ap (λ d. map (parameter_of d) f.params) (sym at.dialect) ∙ r.params;
        result = ap (λ d. read_type d f.result) (sym at.dialect) ∙ r.result;
      }

      seen : (y : List ℕ) (c : Callee) → Either all g told y c → SeenHead (with_head g heads) y c
      seen y c (inl h) = let s = at.seen y c h.0 in record { free = s.free; head = s.head; is = ap (λ b. if b then Some head else heads y) h.1 ∙ s.is; params = s.params; result = s.result }
      seen y c (inr h) = subst (SeenHead (with_head g heads) y) (sym h.0) (own y h.1)

  defined : (env : Env) (f g : Definition) → TypedFunction env f g → MayDefine env f.name
  defined env f g (typed.function h ps b may array pointer params body) = may

  items_ready : (env : Env) (heads : Heads) (all : Functions) (callees : Before) (source unit : List External) → ItemsAt env heads all source → TypedItems env callees source unit → first_unmoved plans unit ≡ None
      → Helped helps (unit_uses plans unit) → ReadyItems plans helps heads unit
  items_ready env heads all callees source unit at (typed.no_item e k) m n = tt
  items_ready env heads all callees source unit at (typed.one_function e k f g rest more h order next) m n =
      let mine = statements_uses plans (sees_parameters g.params sees_nothing) g.body in
      let calm = function_calm (calls callees env) g (subst (λ d. Orderly d (calls callees env) g) at.dialect order) in
      let may = defined env f g h in
      let one = function_ready plans fit helps heads env f g (function_at env heads all (Function f ∷ rest) f at) h (first_none (unmoved_function plans g) (first_unmoved plans more) m) calm
      (helped_first helps mine (unit_uses plans more) n) in (
        one.ready,
        subst IsFree one.name (free f.name (may_define env heads all (Function f ∷ rest) f.name at may)),
        items_ready (next_item env) (with_head g heads) (with_item X86 env.here (Function f) all) _ rest more (next_at env heads all f g rest at may one) next
            (second_none (unmoved_function plans g) (first_unmoved plans more) m) (helped_second helps mine (unit_uses plans more) n),
      )
  items_ready env heads all callees source unit at (typed.one_table e k d v is_static rest more h next) m n = absurd (cc)

-- ---- units

start_at : (source : List External) → ItemsAt (unit_env X86 source) no_heads [] source
start_at source = record {
  dialect = refl;
  rows = refl;
  neon = refl;
  objects = λ x. refl;
  functions = refl;
  before = λ y c h. absurd (cc);
  seen = λ y c h. absurd (cc);
}

none_help : (env : Env) (callees : Before) (source unit : List External) → env.dialect ≡ X86 → TypedItems env callees source unit → NoneHelps (functions unit)
none_help env callees source unit e (typed.no_item x k) = tt
none_help env callees source unit e (typed.one_function x k f g rest more h order next) = (one f g h, none_help (next_item env) _ rest more e next)
  where
    one : (f g : Definition) → TypedFunction env f g → is_helper g.name ≡ false
    one f g (typed.function y ps b may array pointer params body) =
        no_helper f.name (unreserved (env.neon f.name) f.name (ap (λ d. is_reserved d (env.neon f.name) f.name) (sym e) ∙ may.unreserved)).helper
none_help env callees source unit e (typed.one_table x k d v is_static rest more h next) = none_help _ callees rest more e next

abbrev all_help : Helps
all_help row imm = true

all_helped : (us : List Use) → Helped all_help us
all_helped [] = tt
all_helped (u ∷ us) = (refl, all_helped us)

pub movable_units : MovableUnitsAreReady
movable_units plans source unit fit typed m =
    let first = items_ready plans fit all_help (unit_env X86 source) no_heads [] [] source unit (start_at source) typed m (all_helped (unit_uses plans unit)) in
    let good = items_good plans all_help no_heads unit first in
    let us = helpers plans unit in
    record {
      helps = is_told us;
      among = among us;
      helpers = are_helpers plans unit (none_help (unit_env X86 source) [] source unit refl typed) good;
      items = items_ready plans fit (is_told us) (unit_env X86 source) no_heads [] [] source unit (start_at source) typed m (helped plans unit good);
    }
