-- The law of units: what is written for a unit of functions does the same.
use Rattle.std.proofs.Common.{◌≡◌, inl, inr, ℕ, ◌+◌, List, [], ◌∷◌, map, length, Bool, true, false, ◌||◌, Option, Some, None, refl, sym, ap, ◌∙◌, subst, if◌then◌else◌}
use Rattle.std.specs.Str.{bytes_eq}
use Rattle.std.proofs.lemmas.Slice.Eq.{bytes_eq-Decides}
use Rattle.c_text.specs.declared.tokens.Place.{Place}
use Rattle.c_tree.specs.declared.types.CType.{CType}
use Rattle.c_tree.specs.Tree.{Object, Definition, External, Function, Table}
use Rattle.c_memory.specs.declared.blocks.Block.{Block}
use Rattle.c_memory.specs.declared.value.Value.{Value}
use Rattle.c_memory.specs.Functions.{types_of}
use Rattle.c_memory.specs.Matching.{written_type}
use Rattle.c_memory.specs.Values.{AreArguments}
use Rattle.c_memory.specs.Written.{UnitsMatch, NoItems, AndFunction, AndHelper, DoesTheSame}
use Rattle.c_memory.specs.MeaningRows.{row_call}
use Rattle.c_memory.specs.MeaningState.{Binding, State, Done}
use Rattle.c_memory.specs.Meaning.{Calls, call_of, is_helper, with_function, functions, table_blocks, table_objects}
use Rattle.intel_table.specs.declared.IntelOp.{IntelOp}
use Rattle.intel_table.specs.Rows as intel
use Rattle.neon_table.specs.declared.NeonOp.{NeonOp}
use Rattle.neon_table.specs.Rows as neon
use Rattle.seq_core.specs.Rows.{AreRows}
use Rattle.seq_core.specs.Terms.{Sequence}
use Rattle.seq_core.specs.Values.{sequence_value}
use Rattle.seq_core.specs.Functions.{start, function_of}
use Rattle.seq_core.specs.Claims.{IsCallable, GivesItsValue, DoesTheSame as FunctionDoes}
use Rattle.simulation.specs.Alike.{Arguments, CallsAlike, CallsTo}
use Rattle.simulation.specs.Carried.{Marks}
use Rattle.simulation.specs.FunctionLaws.{function_calls, other_calls}
use Rattle.simulation.specs.MemoryLaw.{MemoryLaw}
use Rattle.simulation.specs.Runs.{Runs, NoFunctions, AndBoth, AndHelper as HelperRuns, numbered}
use Rattle.simulation.specs.UnitLaws.{runs_match}
use Rattle.simulation.specs.WrittenValues.{WrittenValues}
use Rattle.simulation.specs.WrittenRuns.{written_arguments, written_values_match}
use Rattle.written_forms.specs.TypedValues.{TypedValues}
use Rattle.written_forms.specs.Seen.{sees_nothing}
use Rattle.written_forms.specs.Moved.{Plans, helper_name}
use Rattle.written_forms.specs.Statements.{moved_parameters, moved_function}
use Rattle.written_forms.specs.Ready.{table, Heading}
use Rattle.written_forms.proofs.Calling.{CallsAgree}
use Rattle.written_forms.proofs.StatementForms.{FormLaws}
use Rattle.written_forms.proofs.Functions.{function_alike}
use Rattle.written_forms.specs.Helpers.{Use, has_name, helper_function, with_helpers, moved_items}
use Rattle.written_forms.specs.ReadyUnits.{Heads, no_heads, with_head, IsFree, setting, ReadyItems, AreHelpers, Among, ReadyUnit}

-- what is asked of the layers below
pub record UnitLaws : Type 0 where
  pub forms : FormLaws
  pub memory : MemoryLaw
  pub named : (op : NeonOp) → neon.find_of (neon.name_of op) ≡ Some op
  pub function : (place : Place) (name : List ℕ) (q : Sequence) → IsCallable q → FunctionDoes q (function_of place name q)
  pub value : (q : Sequence) → GivesItsValue q

-- ---- names

same_bytes : (x : List ℕ) → bytes_eq x x ≡ true
same_bytes x = (bytes_eq-Decides x x).1 refl

-- a name of which something holds isn't one of which it doesn't
differ : {A : Type 0} (f : List ℕ → A) (x y : List ℕ) (a b : A) → f x ≡ a → f y ≡ b → (a ≡ b → ⊥) → bytes_eq x y ≡ false
differ f x y a b e g h = at (bytes_eq x y) refl
  where
    at : (v : Bool) → bytes_eq x y ≡ v → v ≡ false
    at false i = refl
    at true i = let same : x ≡ y = (bytes_eq-Decides x y).0 i in absurd (h (sym e ∙ ap f same ∙ g))

some_none : {A : Type 0} (a : A) → Some a ≡ None → ⊥
some_none a e = absurd (cc)

some_same : {A : Type 0} {x y : A} → Some x ≡ Some y → x ≡ y
some_same e = cc

true_false : true ≡ false → ⊥
true_false e = absurd (cc)

-- ---- functions of rows

module _ (laws : UnitLaws) (others : List Binding) where
  abbrev helped : List Use → Calls → Calls
  helped [] d = d
  helped (u ∷ us) d = helped us (with_function others (helper_function u) d)

  not_row : (d : Calls) (f : Definition) → neon.find_of f.name ≡ None → AreRows d → AreRows (with_function others f d)
  not_row d f e h op vs s =
      let other : bytes_eq (neon.name_of op) f.name ≡ false = differ neon.find_of (neon.name_of op) f.name (Some op) None (laws.named op) e (some_none op) in
      rw other (h op vs s)

  helped_rows : (plans : Plans) (unit : List External) (us : List Use) (d : Calls) → AreHelpers plans unit us → AreRows d → AreRows (helped us d)
  helped_rows plans unit [] d a h = h
  helped_rows plans unit (u ∷ us) d a h = helped_rows plans unit us (with_function others (helper_function u) d) a.2 (not_row d (helper_function u) a.0.no_neon h)

  -- a name that none of them has
  helped_other : (us : List Use) (d : Calls) (x : List ℕ) (vs : List Value) (s : State) → has_name x us ≡ false → helped us d x vs s ≡ d x vs s
  helped_other [] d x vs s h = refl
  helped_other (u ∷ us) d x vs s h = at (helped_other us (with_function others (helper_function u) d) x vs s) (bytes_eq x u.name) refl h
    where
      at : (has_name x us ≡ false → helped us (with_function others (helper_function u) d) x vs s ≡ with_function others (helper_function u) d x vs s) → (v : Bool) → bytes_eq x u.name ≡ v
          → (v || has_name x us) ≡ false → helped us (with_function others (helper_function u) d) x vs s ≡ d x vs s
      at next true e i = absurd (true_false i)
      at next false e i = next i ∙ rw e refl

  -- the function gives the sequence's value
  helper_gives : (u : Use) (d : Calls) → IsCallable u.plan → is_helper u.name ≡ true → AreRows d → (ws : List Value) (o : Option Value) → length u.plan.params ≡ length ws
      → sequence_value u.plan ws ≡ Some o → (s : State) → with_function others (helper_function u) d u.name ws s ≡ Done o s
  helper_gives u d callable helper rows ws o long e s =
      let same : bytes_eq u.name u.name ≡ true = same_bytes u.name in
      rw (same, helper) (laws.function start u.name u.plan callable d rows others ws s o s.memory long (laws.value u.plan callable.0 ws o e s.memory))

  among_gives : (plans : Plans) (unit : List External) (us : List Use) (d : Calls) → AreHelpers plans unit us → AreRows d → (f : List ℕ) (op : IntelOp) (imm : ℕ) (q : Sequence)
      → intel.find_of f ≡ Some op → plans f imm ≡ Some q → Among f imm us → (ws : List Value) (o : Option Value) → length q.params ≡ length ws → sequence_value q ws ≡ Some o
      → (s : State) → helped us d (helper_name f (intel.range_of op) imm) ws s ≡ Done o s
  among_gives plans unit [] d a rows f op imm q is plan h ws o long e s = absurd h
  among_gives plans unit (u ∷ us) d a rows f op imm q is plan (inl h) ws o long e s =
      let i = a.0 in
      let one : i.op ≡ op = let same : Some i.op ≡ Some op = sym i.is ∙ ap intel.find_of h.0 ∙ is in cc in
      let named : u.name ≡ helper_name f (intel.range_of op) imm = i.name ∙ ap (λ r. helper_name r (intel.range_of i.op) u.imm) h.0 ∙ ap (λ k. helper_name f (intel.range_of i.op) k) h.1
      ∙ ap (λ z. helper_name f (intel.range_of z) imm) one in
      let planned : u.plan ≡ q = let same : Some u.plan ≡ Some q = sym i.plan ∙ ap (λ r. plans r u.imm) h.0 ∙ ap (plans f) h.1 ∙ plan in cc in
      subst (λ x. helped us (with_function others (helper_function u) d) x ws s ≡ Done o s) named
      (helped_other us (with_function others (helper_function u) d) u.name ws s a.1
      ∙ helper_gives u d i.callable i.helper rows ws o (ap (λ (z : Sequence). length z.params) planned ∙ long) (ap (λ z. sequence_value z ws) planned ∙ e) s)
  among_gives plans unit (u ∷ us) d a rows f op imm q is plan (inr h) ws o long e s =
      among_gives plans unit us (with_function others (helper_function u) d) a.2 (not_row d (helper_function u) a.0.no_neon rows) f op imm q is plan h ws o long e s

-- ---- the functions of the unit

types_moved : (os : List Object) → types_of (moved_parameters os) ≡ map written_type (types_of os)
types_moved [] = refl
types_moved (o ∷ os) = ap (λ rest. written_type o.ty ∷ rest) (types_moved os)

items_match : (plans : Plans) (helps : List ℕ → ℕ → Bool) (heads : Heads) (unit : List External) → ReadyItems plans helps heads unit → UnitsMatch written_type unit (moved_items plans unit)
items_match plans helps heads [] h = NoItems
items_match plans helps heads (Function f ∷ rest) h =
    AndFunction f (moved_function plans sees_nothing f) rest (moved_items plans rest)
    (record { name = refl; is_static = refl; is_inline = refl; result = refl; types = types_moved f.params }) (items_match plans helps (with_head f heads) rest h.2)
items_match plans helps heads (Table d is_static ∷ rest) h = absurd h

units_match : (plans : Plans) (unit all : List External) (us : List Use) (items : List External) → AreHelpers plans all us → UnitsMatch written_type unit items
    → UnitsMatch written_type unit (with_helpers us items)
units_match plans unit all [] items a h = h
units_match plans unit all (u ∷ us) items a h =
    AndHelper (helper_function u) unit (with_helpers us items) a.0.helper (units_match plans unit all us items a.2 h)

-- without tables
no_blocks : (plans : Plans) (helps : List ℕ → ℕ → Bool) (heads : Heads) (unit : List External) → ReadyItems plans helps heads unit → table_blocks unit ≡ []
no_blocks plans helps heads [] h = refl
no_blocks plans helps heads (Function f ∷ rest) h = no_blocks plans helps (with_head f heads) rest h.2
no_blocks plans helps heads (Table d is_static ∷ rest) h = absurd h

no_objects : (plans : Plans) (helps : List ℕ → ℕ → Bool) (heads : Heads) (unit : List External) (m : ℕ) → ReadyItems plans helps heads unit → table_objects m unit ≡ []
no_objects plans helps heads [] m h = refl
no_objects plans helps heads (Function f ∷ rest) m h = no_objects plans helps (with_head f heads) rest m h.2
no_objects plans helps heads (Table d is_static ∷ rest) m h = absurd h

no_written : (plans : Plans) (helps : List ℕ → ℕ → Bool) (heads : Heads) (unit : List External) (m : ℕ) → ReadyItems plans helps heads unit → table_objects m (moved_items plans unit) ≡ []
no_written plans helps heads [] m h = refl
no_written plans helps heads (Function f ∷ rest) m h = no_written plans helps (with_head f heads) rest m h.2
no_written plans helps heads (Table d is_static ∷ rest) m h = absurd h

behind_helpers : (us : List Use) (items : List External) (m : ℕ) → table_objects m (with_helpers us items) ≡ table_objects m items
behind_helpers [] items m = refl
behind_helpers (u ∷ us) items m = behind_helpers us items m

module _ (laws : UnitLaws) (n : ℕ) (ks : Marks) (plans : Plans) (us : List Use) (helps : List ℕ → ℕ → Bool) (among : (row : List ℕ) (imm : ℕ) → helps row imm ≡ true → Among row imm us)
    (all : List External) (are : AreHelpers plans all us) where
  -- the calls of both after these functions
  abbrev Agreed : Heads → Calls → Calls → Type 0
  Agreed heads c d = CallsAgree n (setting plans helps heads) c d

  helper_named : (row : List ℕ) (imm : ℕ) (op : IntelOp) (vs : List Use) → AreHelpers plans all vs → intel.find_of row ≡ Some op → Among row imm vs → is_helper (helper_name row (intel.range_of op) imm) ≡ true
  helper_named row imm op [] a e h = absurd h
  helper_named row imm op (u ∷ vs) a e (inl h) =
      let i = a.0 in
      let one : i.op ≡ op = let same : Some i.op ≡ Some op = sym i.is ∙ ap intel.find_of h.0 ∙ e in cc in
      let named : u.name ≡ helper_name row (intel.range_of op) imm = i.name ∙ ap (λ r. helper_name r (intel.range_of i.op) u.imm) h.0 ∙ ap (λ k. helper_name row (intel.range_of i.op) k) h.1
      ∙ ap (λ z. helper_name row (intel.range_of z) imm) one in
      subst (λ x. is_helper x ≡ true) named i.helper
  helper_named row imm op (u ∷ vs) a e (inr h) = helper_named row imm op vs a.2 e h

  -- one more function
  one_more : (heads : Heads) (c d : Calls) (f : Definition) → IsFree f.name → Agreed heads c d
      → CallsAlike n TypedValues (types_of f.params) f.result (call_of [] f c) (call_of [] (moved_function plans sees_nothing f) d)
      → Agreed (with_head f heads) (with_function [] f c) (with_function [] (moved_function plans sees_nothing f) d)
  one_more heads c d f free h alike = record {
    functions = λ x k e. at x k (bytes_eq x f.name) refl e;
    rows = λ x op e vs s.
        let other : bytes_eq x f.name ≡ false = differ intel.find_of x f.name (Some op) None e free.no_intel (some_none op) in rw other (h.rows x op e vs s);
    neon = not_row laws [] d (moved_function plans sees_nothing f) free.no_neon h.neon;
    helpers = λ x op imm q e plan is ws o long value s.
        let name = helper_name x (intel.range_of op) imm in
        let other : bytes_eq name f.name ≡ false = differ is_helper name f.name true false (helper_named x imm op us are e (among x imm is)) free.no_helper true_false in
        rw other (h.helpers x op imm q e plan is ws o long value s);
  }
    where
      g : Definition
      g = moved_function plans sees_nothing f

      at : (x : List ℕ) (k : Heading) (b : Bool) → bytes_eq x f.name ≡ b → (if b then Some (record { params = types_of f.params; result = f.result }) else heads x) ≡ Some k
          → CallsTo n TypedValues (with_function [] f c) (with_function [] (moved_function plans sees_nothing f) d) x k.params k.result x
      at x k true i e =
          let same : x ≡ f.name = (bytes_eq-Decides x f.name).0 i in
          let mine = function_calls n TypedValues [] [] f (moved_function plans sees_nothing f) c d laws.forms.turns (types_of f.params) f.result refl alike in
          subst (λ (z : Heading). CallsTo n TypedValues (with_function [] f c) (with_function [] (moved_function plans sees_nothing f) d) x z.params z.result x) (some_same e)
          (subst (λ z. CallsTo n TypedValues (with_function [] f c) (with_function [] (moved_function plans sees_nothing f) d) z (types_of f.params) f.result z) (sym same) mine)
      at x k false i e = other_calls n TypedValues [] [] f (moved_function plans sees_nothing f) c d x x k.params k.result i i (h.functions x k e)

  pub items_run : (heads : Heads) (c d : Calls) (unit : List External) → ReadyItems plans helps heads unit → Agreed heads c d
      → Runs n TypedValues [] [] c d (functions unit) (functions (moved_items plans unit))
  items_run heads c d [] h k = NoFunctions c d
  items_run heads c d (Function f ∷ rest) h k =
      let alike = function_alike laws.forms n c d (setting plans helps heads) k [] [] [] ks tt f h.0 in
      AndBoth c d f (moved_function plans sees_nothing f) (functions rest) (functions (moved_items plans rest)) refl alike
      (items_run (with_head f heads) (with_function [] f c) (with_function [] (moved_function plans sees_nothing f) d) rest h.2 (one_more heads c d f h.1 k alike))
  items_run heads c d (Table d2 is_static ∷ rest) h k = absurd h

-- functions of rows stand before
helpers_run : (laws : UnitLaws) (n : ℕ) (plans : Plans) (unit : List External) (us : List Use) (items : List External) (c d : Calls) → AreHelpers plans unit us
    → Runs n TypedValues [] [] c (helped laws [] us d) (functions unit) (functions items) → Runs n TypedValues [] [] c d (functions unit) (functions (with_helpers us items))
helpers_run laws n plans unit [] items c d a h = h
helpers_run laws n plans unit (u ∷ us) items c d a h =
    HelperRuns c d (helper_function u) (functions unit) (functions (with_helpers us items)) a.0.unused
    (helpers_run laws n plans unit us items c (with_function [] (helper_function u) d) a.2 h)

-- ---- whole units

typed_arguments : (memory : List Block) (types : List CType) (args others : List Value) → AreArguments memory types args → Arguments WrittenValues types args others
    → Arguments TypedValues types args others
typed_arguments memory [] [] [] h k = tt
typed_arguments memory (t ∷ ts) (v ∷ vs) (w ∷ ws) h k = ((k.0, h.0), typed_arguments memory ts vs ws h.2 k.1)
typed_arguments memory [] [] (w ∷ ws) h k = absurd k
typed_arguments memory [] (v ∷ vs) ws h k = absurd k
typed_arguments memory (t ∷ ts) [] ws h k = absurd k
typed_arguments memory (t ∷ ts) (v ∷ vs) [] h k = absurd k

-- the source's calls are those of the Intel rows, and the others those of the Neon rows
pub unit_does_the_same : UnitLaws → (plans : Plans) (us : List Use) (unit : List External) → ReadyUnit plans us unit → (rows others : Calls)
    → ((f : List ℕ) (op : IntelOp) → intel.find_of f ≡ Some op → (vs : List Value) (s : State) → rows f vs s ≡ row_call table op vs s) → AreRows others
    → DoesTheSame rows others written_type unit (with_helpers us (moved_items plans unit))
unit_does_the_same laws plans us unit h rows others intel_rows neon_rows =
    let items = moved_items plans unit in
    let match = units_match plans unit unit us items h.helpers (items_match plans h.helps no_heads unit h.items) in
    let empty : table_blocks unit ≡ [] = no_blocks plans h.helps no_heads unit h.items in
    runs_match laws.memory laws.forms.turns TypedValues written_type rows others unit (with_helpers us items) match (rw empty tt)
    (λ memory types args more is m. typed_arguments memory types args more m.first (written_arguments memory types args more is m.first m.second m.same))
    (λ t v w k. written_values_match t v w k.0) (λ m.
    let n = m + length (table_blocks unit) in
    let first : table_objects m unit ≡ [] = no_objects plans h.helps no_heads unit m h.items in
    let second : table_objects m (with_helpers us items) ≡ [] = behind_helpers us items m ∙ no_written plans h.helps no_heads unit m h.items in
    let agreed : CallsAgree n (setting plans h.helps no_heads) rows (helped laws [] us others) = record {
      functions = λ x k e. absurd (cc);
      rows = intel_rows;
      neon = helped_rows laws [] plans unit us others h.helpers neon_rows;
      helpers = λ x op imm q e plan is ws o long value s. among_gives laws [] plans unit us others h.helpers neon_rows x op imm q e plan (h.among x imm is) ws o long value s;
    } in
    rw (first, second) (helpers_run laws n plans unit us items rows others h.helpers
    (items_run laws n (numbered m) plans us h.helps h.among unit h.helpers no_heads rows (helped laws [] us others) unit h.items agreed)))
