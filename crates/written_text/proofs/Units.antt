-- What is written for a unit is printed and read as it is.
use Rattle.std.proofs.Common.{◌≡◌, inl, inr, refl, sym, subst, ℕ, ◌<◌, ◌^◌, Bool, true, false, List, [], ◌∷◌, map, Option, Some, None, if◌then◌else◌}
use Rattle.std.specs.Prelude.{bytes_eq}
use Rattle.std.proofs.lemmas.Slice.Eq.{bytes_eq-Decides}
use Rattle.c_text.specs.declared.refusals.Refusal.{Refusal}
use Rattle.c_tree.specs.declared.types.CType.{CType}
use Rattle.c_tree.specs.Marks.{short}
use Rattle.c_tree.specs.Types.{is_array}
use Rattle.c_tree.specs.Tree.{Object, Definition, External, Function, Table}
use Rattle.c_memory.specs.Matching.{written_type}
use Rattle.scopes.specs.Scopes.{or_else}
use Rattle.lane_core.specs.Table.{params_of}
use Rattle.c_memory.specs.Functions.{types_of}
use Rattle.intel_table.specs.Rows.{signature_of, range_of}
use Rattle.round_trip.specs.Good.{GoodName}
use Rattle.round_trip.specs.GoodUnits.{GoodObjectType, IsNoArray, GoodParameter, GoodParameters, GoodUnit}
use Rattle.reading_again.specs.Plain.{PlainParameters, PlainUnit}
use Rattle.written_forms.specs.Seen.{Sees, sees_nothing, local, with_parameter}
use Rattle.written_forms.specs.Moved.{Plans}
use Rattle.written_forms.specs.Statements.{moved_parameter, moved_parameters, sees_parameters, moved_function}
use Rattle.written_forms.specs.Helpers.{Use, helpers, helper_function, moved_items, with_helpers}
use Rattle.written_forms.specs.Ready.{Heading, IsCarried, AreCarried, operand_types}
use Rattle.written_forms.specs.ReadyStatements.{ReadyParameters, ReadyFunction}
use Rattle.written_forms.specs.ReadyUnits.{Heads, no_heads, with_head, setting, ReadyItems, IsHelper, AreHelpers, Among, ReadyUnit}
use Rattle.ready_units.specs.Claims.{MovableUnitsAreReady}
use Rattle.ready_units.specs.Movable.{is_moved_result, unmoved, unless, unmoved_parameters, unmoved_statements, unmoved_function, first_unmoved}
use Rattle.read_units.specs.Read.{ReadParameters, ReadFunction, ReadUnit}
use Rattle.written_text.specs.Claims.{WrittenUnitsArePrinted}
use Rattle.written_text.proofs.Names.{good_name}
use Rattle.written_text.proofs.RowWords.{intel_named}
use Rattle.written_text.proofs.Words.{helper_named}
use Rattle.written_text.proofs.Fine.{written_object, written_no_array, written_plain}
use Rattle.written_text.proofs.RowFunctions.{AllWritten, FineFunction, function_fine}
use Rattle.written_text.proofs.Expressions.{Kept, integer_good}
use Rattle.written_text.proofs.Statements.{carried_written, shape, no_part, no_list, kept_with, statements_fine}
use Rattle.written_text.proofs.Told.{AllTold, Bare, AllBare, ToldFunction, ToldUnit, unit_told}
use Rattle.written_text.proofs.ReadTyped.{unit_stays}

-- ---- what is moved

first_none : {A : Type 0} (a b : Option A) → or_else a b ≡ None → a ≡ None
first_none None b h = refl
first_none (Some x) b h = absurd (cc)

second_none : {A : Type 0} (a b : Option A) → or_else a b ≡ None → b ≡ None
second_none None b h = h
second_none (Some x) b h = absurd (cc)

unless_none : (b : Bool) (r : Refusal) → unless b r ≡ None → b ≡ true
unless_none true r h = refl
unless_none false r h = absurd (cc)

-- ---- functions of rows

all_carried : (ts : List CType) → AreCarried ts → AllWritten (map written_type ts)
all_carried [] h = tt
all_carried (t ∷ ts) h = (carried_written t h.0, all_carried ts h.1)

helper_fine : (plans : Plans) (unit : List External) (u : Use) → IsHelper plans unit u → FineFunction (helper_function u)
helper_fine plans unit u h =
    function_fine u.name u.plan (subst GoodName (sym h.name) (helper_named u.row (range_of h.op) u.imm (intel_named u.row h.op h.is) h.small)) h.callable
    (subst AllWritten (sym h.fits.stands.params) (all_carried (operand_types (params_of (signature_of h.op))) h.carried))

small_among : (plans : Plans) (unit : List External) (us : List Use) (f : List ℕ) (imm : ℕ) → AreHelpers plans unit us → Among f imm us → imm < 2 ^ 64
small_among plans unit [] f imm h a = absurd a
small_among plans unit (u ∷ us) f imm h (inl e) = subst (λ n. n < 2 ^ 64) e.1 h.0.small
small_among plans unit (u ∷ us) f imm h (inr a) = small_among plans unit us f imm h.2 a

record FineUnit (unit : List External) : Type 0 where
  pub good : GoodUnit unit
  pub plain : PlainUnit unit

helpers_fine : (plans : Plans) (unit : List External) (us : List Use) (items : List External) → AreHelpers plans unit us → FineUnit items → FineUnit (with_helpers us items)
helpers_fine plans unit [] items h f = f
helpers_fine plans unit (u ∷ us) items h f =
    let one = helper_fine plans unit u h.0 in
    let rest = helpers_fine plans unit us items h.2 f in
    record { good = (one.good, rest.good); plain = (one.plain, rest.plain) }

-- ---- functions

record FineResult (t : CType) : Type 0 where
  pub ty : GoodObjectType t true
  pub no_array : IsNoArray t
  pub plain : is_array t ≡ false

result_fine : (t : CType) → is_moved_result t ≡ true → FineResult (written_type t)
result_fine CType.Void h = record { ty = tt; no_array = tt; plain = refl }
result_fine (CType.Int s) h = record { ty = integer_good s; no_array = tt; plain = refl }
result_fine CType.M128 h = record { ty = tt; no_array = tt; plain = refl }
result_fine t h = absurd (cc)

parameter_good : (d : Object) → IsCarried d.ty → GoodName d.name → Bare d → GoodParameter (moved_parameter d)
parameter_good d c n b =
    let is = carried_written d.ty c in
    record {
      good = record {
        named = n;
        typed = written_object (written_type d.ty) d.constant is;
        shaped = shape (written_type d.ty) d.length d.init d.list is b.length b.list;
        length = (no_part d.length b.length).good;
        align = (no_part d.align b.align).good;
        init = (no_part d.init b.init).good;
        list = (no_list d.list b.list).good;
      };
      no_array = written_no_array (written_type d.ty) is;
      no_align = b.align;
      no_init = b.init;
    }

module _ (plans : Plans) (helps : List ℕ → ℕ → Bool) where
  record FineParameters (heads : Heads) (sees : Sees) (ds : List Object) : Type 0 where
    pub good : GoodParameters (moved_parameters ds)
    pub plain : PlainParameters (moved_parameters ds)
    pub kept : Kept helps heads (sees_parameters ds sees)

  parameters_fine : (heads : Heads) (sees : Sees) → Kept helps heads sees → (ds : List Object) → ReadyParameters ds → ReadParameters ds → AllTold ds → AllBare ds → FineParameters heads sees ds
  parameters_fine heads sees k [] r g t b = record { good = tt; plain = tt; kept = k }
  parameters_fine heads sees k (d ∷ rest) r g t b =
      let name = good_name d.name g.0 t.0.free in
      let next = parameters_fine heads (with_parameter d sees) (kept_with helps heads sees d.name (local d.ty true) k name) rest r.1 g.1 t.1 b.1 in
      let length = no_part d.length b.0.length in
      let align = no_part d.align b.0.align in
      let init = no_part d.init b.0.init in
      let list = no_list d.list b.0.list in
      record {
        good = (parameter_good d r.0 name b.0, next.good);
        plain = (((length.plain, (align.plain, (init.plain, list.plain))), written_plain (written_type d.ty) (carried_written d.ty r.0)), next.plain);
        kept = next.kept;
      }

  moved_fine : (heads : Heads) → Kept helps heads sees_nothing → (f : Definition) → ReadyFunction (setting plans helps heads) f → ReadFunction f → ToldFunction f → unmoved_function plans f ≡ None → FineFunction (moved_function plans sees_nothing f)
  moved_fine heads k f r g t m =
      let params = parameters_fine heads sees_nothing k f.params r.params g.params t.params t.bare in
      let body = statements_fine plans helps heads f.result (sees_parameters f.params sees_nothing) params.kept f.body r.body g.body t.body in
      let here = unless (is_moved_result f.result) (unmoved f.place (short f.name)) in
      let result = result_fine f.result (unless_none (is_moved_result f.result) (unmoved f.place (short f.name)) (first_none here (or_else (unmoved_parameters f.params) (unmoved_statements plans f.body)) m)) in
      record {
        good = record { named = good_name f.name g.named t.free; result = result.ty; no_array = result.no_array; params = params.good; body = body.good };
        plain = (result.plain, (params.plain, body.plain));
      }

  head_kept : (heads : Heads) (f : Definition) → Kept helps heads sees_nothing → GoodName f.name → Kept helps (with_head f heads) sees_nothing
  head_kept heads f k g = record { small = k.small; functions = λ x h e. at x h (bytes_eq x f.name) refl e (k.functions x h); names = k.names }
    where
      head : Heading
      head = record { params = types_of f.params; result = f.result }

      at : (x : List ℕ) (h : Heading) (b : Bool) → bytes_eq x f.name ≡ b → (if b then Some head else heads x) ≡ Some h → (heads x ≡ Some h → GoodName x) → GoodName x
      at x h true e i j = subst GoodName (sym ((bytes_eq-Decides x f.name).0 e)) g
      at x h false e i j = j i

  items_fine : (heads : Heads) → Kept helps heads sees_nothing → (unit : List External) → ReadyItems plans helps heads unit → ReadUnit unit → ToldUnit unit → first_unmoved plans unit ≡ None → FineUnit (moved_items plans unit)
  items_fine heads k [] r g t m = record { good = tt; plain = tt }
  items_fine heads k (Function f ∷ rest) r g t m =
      let one = moved_fine heads k f r.0 g.0 t.0 (first_none (unmoved_function plans f) (first_unmoved plans rest) m) in
      let next = items_fine (with_head f heads) (head_kept heads f k (good_name f.name g.0.named t.0.free)) rest r.2 g.1 t.1 (second_none (unmoved_function plans f) (first_unmoved plans rest) m) in
      record { good = (one.good, next.good); plain = (one.plain, next.plain) }
  items_fine heads k (Table d is_static ∷ rest) r g t m = absurd r

pub written_units : MovableUnitsAreReady → WrittenUnitsArePrinted
written_units ready plans source unit fit read typed m =
    let r : ReadyUnit plans (helpers plans unit) unit = ready plans source unit fit typed m in
    let kept : Kept r.helps no_heads sees_nothing = record {
      small = λ f imm h. small_among plans unit (helpers plans unit) f imm r.helpers (r.among f imm h);
      functions = λ f h e. absurd (cc);
      names = λ x l e. absurd (cc);
    } in
    let items = items_fine plans r.helps no_heads kept unit r.items (unit_stays source unit typed read) (unit_told source unit typed) m in
    let all = helpers_fine plans unit (helpers plans unit) (moved_items plans unit) r.helpers items in
    record { good = all.good; plain = all.plain }
