-- What is written for a unit has its types (C11 6.9).
use Rattle.std.proofs.Common.{◌≡◌, ◌⊎◌, inl, inr, refl, sym, ap, ◌∙◌, subst, arith, ℕ, ◌+◌, ◌<◌, ◌≤◌, Bool, true, false, not, ◌&&◌, ◌||◌, List, [], ◌∷◌, ◌++◌, map, length, Option, Some, None, is_some, Ok, codes, take}
use Rattle.std.specs.Prelude.{bytes_eq, option_map}
use Rattle.std.proofs.lemmas.List.{length-append}
use Rattle.std.proofs.lemmas.Slice.Eq.{bytes_eq-Decides}
use Rattle.c_text.specs.declared.tokens.Dialect.{Dialect}
use Rattle.c_text.specs.declared.tokens.Dialect.TheVariants.{X86, Neon}
use Rattle.c_text.specs.declared.tokens.Place.{Place}
use Rattle.c_text.specs.declared.refusals.Refusal.{Refusal}
use Rattle.lane_core.specs.Table.{params_of}
use Rattle.c_tree.specs.declared.types.CType.{CType}
use Rattle.c_tree.specs.Marks.{short}
use Rattle.c_tree.specs.Tree.{Object, Definition, External, Function, Table}
use Rattle.c_memory.specs.Matching.{written_type}
use Rattle.c_memory.specs.Meaning.{is_helper}
use Rattle.intel_table.specs.declared.IntelOp.{IntelOp}
use Rattle.intel_table.specs.Rows as intel
use Rattle.neon_table.specs.declared.NeonOp.{NeonOp}
use Rattle.neon_table.specs.Rows as neon
use Rattle.neon_table.specs.Found.{found_by_name}
use Rattle.type_rules.specs.Types.{read_type}
use Rattle.type_rules.specs.Passing.{row_heading}
use Rattle.scopes.specs.Scopes.{Env, Callee, or_else, named, object_named, same_name}
use Rattle.object_types.specs.Reserved.{is_reserved}
use Rattle.order_rule.specs.Callees.{Before}
use Rattle.order_rule.specs.Full.{effects_of}
use Rattle.expression_types.specs.Check.{called}
use Rattle.expression_types.specs.Typed.{IsArray, IsVoidPointer}
use Rattle.statement_types.specs.Statements.{around, with_objects}
use Rattle.statement_types.specs.Typed.{TypedStatements}
use Rattle.vector_types.specs.Rows.{row_told, row_of_table, is_neon_row}
use Rattle.vector_types.specs.Functions.{is_helper as calls_nothing, parameter_of, heading_of, with_items, in_function}
use Rattle.vector_types.specs.Order.{Orderly, calls, with_callee}
use Rattle.vector_types.specs.Units.{next_item, unit_env}
use Rattle.vector_types.specs.Typed as typed
use Rattle.vector_types.specs.Typed.{MayDefine, TypedFunction, TypedItems, TypedUnit}
use Rattle.seq_core.specs.Terms.{Sequence}
use Rattle.seq_core.specs.Functions.{start, function_of}
use Rattle.sequence_types.specs.Claims.{SeesRows, IsDeclarable, AreDeclarable, InPlaceIsTyped, FunctionIsTyped}
use Rattle.written_forms.specs.Seen.{sees_nothing}
use Rattle.written_forms.specs.Moved.{Plans, helper_name}
use Rattle.written_forms.specs.Statements.{moved_parameters, moved_statements, sees_parameters, moved_function}
use Rattle.written_forms.specs.Helpers.{Use, has_name, helpers, helper_function, moved_items, with_helpers, moved_unit}
use Rattle.written_forms.specs.Planned.{AreFit}
use Rattle.written_forms.specs.Ready.{IsCarried, AreCarried, operand_types}
use Rattle.written_forms.specs.ReadyStatements.{ReadyFunction}
use Rattle.written_forms.specs.ReadyUnits.{Heads, no_heads, with_head, setting, ReadyItems, IsHelper, AreHelpers, Among, ReadyUnit}
use Rattle.ready_units.specs.Movable.{is_moved_result, unmoved, unless, unmoved_parameters, unmoved_statements, unmoved_function, first_unmoved}
use Rattle.ready_units.specs.Claims.{MovableUnitsAreReady}
use Rattle.written_types.specs.Claims.{WrittenUnitsAreTyped}
use Rattle.written_types.proofs.Types.{read_type_written, read_source, no_array, no_pointer}
use Rattle.written_types.proofs.Fine.{first_none, second_none}
use Rattle.written_types.proofs.Places.{At, SeenFunction, SeenHelper, opened_sees, middle_false}
use Rattle.written_types.proofs.Names.{Unreserved, unreserved, written_unreserved}
use Rattle.written_types.proofs.Parameters.{parameters_own, parameter_types}
use Rattle.written_types.proofs.Statements.{statements_own}
use Rattle.written_types.proofs.Named.{first, with_items_named, first_behind, Pair, Pairs, written_for, source_of, behind_helpers, behind_others, turned, helper_found}

-- ---- the side of what is written

-- what each item sees beside its own number
record Side (whole : List External) (there : Env) : Type 0 where
  pub dialect : there.dialect ≡ Neon
  pub names : there.neon ≡ is_neon_row
  pub rows : there.rows ≡ row_of_table Neon
  pub objects : (x : List ℕ) → object_named x there ≡ None
  pub inner : (x : List ℕ) → named x there.innermost ≡ None
  pub calls : there.calls_none ≡ false
  pub functions : there.functions ≡ with_items Neon 0 whole []

next_side : (whole : List External) (there : Env) → Side whole there → Side whole (next_item there)
next_side whole there s = record { dialect = s.dialect; names = s.names; rows = s.rows; objects = s.objects; inner = s.inner; calls = s.calls; functions = s.functions }

function_there : (whole : List External) (there : Env) (x : List ℕ) → Side whole there → named x there.functions ≡ first Neon x 0 whole
function_there whole there x s = ap (named x) s.functions ∙ with_items_named Neon x 0 whole []

none_or : (o : Option Callee) → ((c : Callee) → o ≡ Some c → ⊥) → o ≡ None
none_or None h = refl
none_or (Some c) h = absurd (h c refl)

-- no function of a row has such a name
no_helper : (plans : Plans) (unit : List External) (x : List ℕ) (us : List Use) → AreHelpers plans unit us → ((u : Use) → IsHelper plans unit u → bytes_eq x u.name ≡ false) → has_name x us ≡ false
no_helper plans unit x [] h f = refl
no_helper plans unit x (u ∷ us) h f = rw (f u h.0, no_helper plans unit x us h.2 f) refl

different : (x y : List ℕ) → (x ≡ y → ⊥) → bytes_eq x y ≡ false
different x y h = at (bytes_eq x y) refl
  where
    at : (b : Bool) → bytes_eq x y ≡ b → b ≡ false
    at true e = absurd (h ((bytes_eq-Decides x y).0 e))
    at false e = refl

module _ (plans : Plans) (source unit : List External) (us : List Use) (pairs : Pairs source unit) (all_help : AreHelpers plans unit us) where
  abbrev whole : List External
  whole = with_helpers us (moved_items plans unit)

  -- an unreserved name is a function's of the unit alone
  own_name : (x : List ℕ) → Unreserved x → has_name x us ≡ false
  own_name x u = no_helper plans unit x us all_help (λ v h. different x v.name (λ e. let a : is_helper x ≡ true = ap is_helper e ∙ h.helper in let b = u.clean.no_helper in absurd (cc)))

  found_own : (x : List ℕ) → Unreserved x → first Neon x 0 whole ≡ first Neon x (length us + 0) (moved_items plans unit)
  found_own x u = let place : 0 + length us ≡ length us + 0 = omega arith in behind_helpers x 0 us (moved_items plans unit) (own_name x u) ∙ ap (λ n. first Neon x n (moved_items plans unit)) place

  -- no function has a row's name
  row_free : (op : NeonOp) → has_name (neon.name_of op) us ≡ false
  row_free op = no_helper plans unit (neon.name_of op) us all_help (λ v h. different (neon.name_of op) v.name (λ e. let a : Some op ≡ None = sym (found_by_name op) ∙ ap neon.find_of e ∙ h.no_neon in absurd (cc)))

  no_function : (op : NeonOp) (c : Callee) → first Neon (neon.name_of op) (length us + 0) (moved_items plans unit) ≡ Some c → ⊥
  no_function op c h =
      let s = source_of plans source unit (neon.name_of op) 0 (length us) c pairs h in
      let w = written_for plans source unit (neon.name_of op) 0 (length us) s.callee pairs s.is in
      let a : Some op ≡ None = sym (found_by_name op) ∙ w.unreserved.clean.no_neon in absurd (cc)

  no_row : (there : Env) (op : NeonOp) → Side whole there → named (neon.name_of op) there.functions ≡ None
  no_row there op s =
      let place : 0 + length us ≡ length us + 0 = omega arith in
      function_there whole there (neon.name_of op) s ∙ behind_helpers (neon.name_of op) 0 us (moved_items plans unit) (row_free op)
      ∙ ap (λ n. first Neon (neon.name_of op) n (moved_items plans unit)) place ∙ none_or (first Neon (neon.name_of op) (length us + 0) (moved_items plans unit)) (no_function op)

  sees : (there : Env) → Side whole there → SeesRows there
  sees there s = record { dialect = s.dialect; neon = s.names; undefined = λ op. no_row there op s; rows = row }
    where
      row : (op : NeonOp) (p : Place) → called (neon.name_of op) p there ≡ Ok (record { heading = row_heading (neon.signature_of op); range = neon.range_of op; outside = false })
      row op p =
          let found : there.rows (neon.name_of op) ≡ Some (row_told (neon.signature_of op) (neon.range_of op)) =
          ap (λ g. g (neon.name_of op)) s.rows ∙ ap (option_map (λ z. row_told (neon.signature_of z) (neon.range_of z))) (found_by_name op) in
          let known_row = middle_false (same_name (take 3 (neon.name_of op)) (codes "_mm")) (not (is_some (there.rows (neon.name_of op)))) (not (same_name (neon.name_of op) (codes "_mm256_castsi128_si256"))) (ap (λ z. not (is_some z)) found) in
          rw (known_row, s.objects (neon.name_of op), no_row there op s, found) refl

  -- ---- functions of rows

  declarable : (ts : List CType) → AreCarried ts → AreDeclarable (map written_type ts)
  declarable [] h = tt
  declarable (t ∷ ts) h = (one t h.0, declarable ts h.1)
    where
      one : (t : CType) → IsCarried t → IsDeclarable (written_type t)
      one (CType.Int s) c = record { carrier = tt; read = read_type_written (CType.Int s); pointer = λ z. z }
      one CType.M128 c = record { carrier = tt; read = refl; pointer = λ z. z }
      one t c = absurd c

  -- the name isn't among those before
  new_among : (pre : List Use) (u : Use) (rest : List Use) → AreHelpers plans unit (pre ++ u ∷ rest) → has_name u.name pre ≡ false
  new_among [] u rest h = refl
  new_among (v ∷ pre) u rest h = both (bytes_eq u.name v.name) (has_name u.name pre) (turned v.name u.name (last v.name pre u rest h.1)) (new_among pre u rest h.2)
    where
      both : (a b : Bool) → a ≡ false → b ≡ false → (a || b) ≡ false
      both a b e f = rw (e, f) refl

      either : (a b : Bool) → (a || b) ≡ false → (a ≡ false) × (b ≡ false)
      either true b e = absurd (cc)
      either false b e = (refl, e)

      last : (n : List ℕ) (pre : List Use) (u : Use) (rest : List Use) → has_name n (pre ++ u ∷ rest) ≡ false → bytes_eq n u.name ≡ false
      last n [] u rest e = (either (bytes_eq n u.name) (has_name n rest) e).0
      last n (w ∷ pre) u rest e = last n pre u rest (either (bytes_eq n w.name) (has_name n (pre ++ u ∷ rest)) e).1

  of_helpers : (pre : List Use) (u : Use) (rest : List Use) → AreHelpers plans unit (pre ++ u ∷ rest) → IsHelper plans unit u
  of_helpers [] u rest h = h.0
  of_helpers (v ∷ pre) u rest h = of_helpers pre u rest h.2

  helper_may : (pre : List Use) (u : Use) (rest : List Use) (there : Env) → us ≡ pre ++ u ∷ rest → Side whole there → there.here ≡ length pre → MayDefine there u.name
  helper_may pre u rest there e s here = record {
    unreserved = subst (λ d. is_reserved d (there.neon u.name) u.name ≡ false) (sym s.dialect) (ap (λ g. g u.name) s.names ∙ ap is_some about.no_neon);
    undeclared = s.inner u.name;
    undefined = λ c h l. before c h l;
  }
    where
      split : AreHelpers plans unit (pre ++ u ∷ rest)
      split = subst (AreHelpers plans unit) e all_help

      about : IsHelper plans unit u
      about = of_helpers pre u rest split

      before : (c : Callee) → named u.name there.functions ≡ Some c → c.order < there.here → ⊥
      before c h l =
          let is : first Neon u.name (0 + length pre) (with_helpers (u ∷ rest) (moved_items plans unit)) ≡ Some c =
          sym (behind_others u.name 0 pre (u ∷ rest) (moved_items plans unit) (new_among pre u rest split)) ∙ ap (λ z. first Neon u.name 0 (with_helpers z (moved_items plans unit))) (sym e)
          ∙ sym (function_there whole there u.name s) ∙ h in
          let later = first_behind Neon u.name (0 + length pre) (with_helpers (u ∷ rest) (moved_items plans unit)) c is in
          omega (arith, later, l, here)

  helper_typed : FunctionIsTyped → (pre : List Use) (u : Use) (rest : List Use) (there : Env) → us ≡ pre ++ u ∷ rest → Side whole there → there.here ≡ length pre → TypedFunction there (helper_function u) (helper_function u)
  helper_typed law pre u rest there e s here =
      let about = of_helpers pre u rest (subst (AreHelpers plans unit) e all_help) in
      law there (sees there s) start u.name u.plan about.callable
      (subst AreDeclarable (sym about.fits.stands.params) (declarable (operand_types (params_of (intel.signature_of about.op))) about.carried)) (helper_may pre u rest there e s here)

  orderly : (d : Dialect) (callees : Before) (there : Env) (g : Definition) → d ≡ Neon → Orderly d (calls callees there) g
  orderly d callees there g e = subst (λ z. Orderly z (calls callees there) g) (sym e) tt

  moved_on : (pre : List Use) (u : Use) (rest : List Use) → pre ++ u ∷ rest ≡ (pre ++ u ∷ []) ++ rest
  moved_on [] u rest = refl
  moved_on (v ∷ pre) u rest = ap (λ z. v ∷ z) (moved_on pre u rest)

  helpers_typed : FunctionIsTyped → ((there : Env) → Side whole there → there.here ≡ length us → (callees : Before) → TypedItems there callees (moved_items plans unit) (moved_items plans unit))
      → (pre rest : List Use) (there : Env) → us ≡ pre ++ rest → Side whole there → there.here ≡ length pre → (callees : Before)
      → TypedItems there callees (with_helpers rest (moved_items plans unit)) (with_helpers rest (moved_items plans unit))
  helpers_typed law items pre [] there e s here callees = items there s (here ∙ ap length (sym (e ∙ none pre))) callees
    where
      none : (pre : List Use) → pre ++ [] ≡ pre
      none [] = refl
      none (v ∷ pre) = ap (λ z. v ∷ z) (none pre)
  helpers_typed law items pre (u ∷ rest) there e s here callees =
      let items_behind = with_helpers rest (moved_items plans unit) in
      typed.one_function there callees (helper_function u) (helper_function u) items_behind items_behind (helper_typed law pre u rest there e s here) (orderly there.dialect callees there (helper_function u) s.dialect)
      (helpers_typed law items (pre ++ u ∷ []) rest (next_item there) (e ∙ moved_on pre u rest) (next_side whole there s) (ap (λ n. n + 1) here ∙ sym (length-append pre (u ∷ [])))
      (with_callee there.dialect u.name (effects_of (helper_function u) (calls callees there)) callees))

  -- ---- the unit's own functions

  -- what an item of the source sees
  record ItemsAt (env : Env) : Type 0 where
    pub dialect : env.dialect ≡ X86
    pub rows : env.rows ≡ row_of_table X86
    pub names : env.neon ≡ is_neon_row
    pub objects : (x : List ℕ) → object_named x env ≡ None
    pub functions : env.functions ≡ with_items X86 0 source []

  next_at : (env : Env) → ItemsAt env → ItemsAt (next_item env)
  next_at env a = record { dialect = a.dialect; rows = a.rows; names = a.names; objects = a.objects; functions = a.functions }

  source_function : (env : Env) (x : List ℕ) → ItemsAt env → named x env.functions ≡ first X86 x 0 source
  source_function env x a = ap (named x) a.functions ∙ with_items_named X86 x 0 source []

  module _ (helps : List ℕ → ℕ → Bool) (among : (row : List ℕ) (imm : ℕ) → helps row imm ≡ true → Among row imm us) (heads : Heads) (env there : Env) (a : ItemsAt env) (s : Side whole there) (here : there.here ≡ length us + env.here) where
    seen_function : (f : List ℕ) (c : Callee) → named f env.functions ≡ Some c → c.order < env.here → SeenFunction there.functions there.here f c
    seen_function f c h l =
        let w = written_for plans source unit f 0 (length us) c pairs (sym (source_function env f a) ∙ h) in
        let o = w.order in
        record {
          free = w.free;
          plain = w.unreserved.plain;
          callee = w.callee;
          is = function_there whole there f s ∙ found_own f w.unreserved ∙ w.is;
          before = omega (arith, o, l, here);
          types = w.types;
          params = w.params;
          written = w.heading;
        }

    seen_helper : (f : List ℕ) (imm : ℕ) (op : IntelOp) (q : Sequence) → intel.find_of f ≡ Some op → plans f imm ≡ Some q → helps f imm ≡ true → SeenHelper there.functions there.here (helper_name f (intel.range_of op) imm) q
    seen_helper f imm op q i p h =
        let r = helper_found plans unit f imm 0 us (moved_items plans unit) all_help (among f imm h) in
        let u = r.helper in
        let same : Some r.about.op ≡ Some op = sym r.about.is ∙ ap intel.find_of r.same_row ∙ i in
        let name : u.name ≡ helper_name f (intel.range_of op) imm = r.about.name ∙ named_as u r.about.op op f imm r.same_row r.same_imm same in
        let plan : u.plan ≡ q = one u.plan q (sym r.about.plan ∙ ap (λ z. plans z u.imm) r.same_row ∙ ap (plans f) r.same_imm ∙ p) in
        let l = r.before in
        record {
          callee = record { order = r.order; heading = heading_of Neon (helper_function u) };
          is = function_there whole there (helper_name f (intel.range_of op) imm) s ∙ ap (λ x. first Neon x 0 whole) (sym name) ∙ r.is;
          before = omega (arith, l, here);
          head = ap (λ x. heading_of Neon (function_of start x u.plan)) name ∙ ap (λ z. heading_of Neon (function_of start (helper_name f (intel.range_of op) imm) z)) plan;
          helper = ap is_helper (sym name) ∙ r.about.helper;
        }
      where
        one : (x y : Sequence) → Some x ≡ Some y → x ≡ y
        one x y e = cc

        named_as : (u : Use) (o op : IntelOp) (f : List ℕ) (imm : ℕ) → u.row ≡ f → u.imm ≡ imm → Some o ≡ Some op → helper_name u.row (intel.range_of o) u.imm ≡ helper_name f (intel.range_of op) imm
        named_as u o op f imm e g h =
            let same : o ≡ op = cc in
            ap (λ x. helper_name x (intel.range_of o) u.imm) e ∙ ap (λ z. helper_name f (intel.range_of z) u.imm) same ∙ ap (helper_name f (intel.range_of op)) g

    -- a function's parts, on both sides
    function_at : (f g : Definition) → Unreserved g.name → At (setting plans helps heads) (in_function f env) (in_function (moved_function plans sees_nothing g) there)
    function_at f g u = record {
      source = a.dialect;
      rows = a.rows;
      source_names = a.names;
      dialect = s.dialect;
      neon_names = s.names;
      neon_rows = s.rows;
      no_rows = λ op. no_row there op s;
      objects = λ x. opened_sees x (record there { calls_none = calls_nothing there.dialect g.name }) ∙ s.objects x ∙ sym (ap (option_map _) (opened_sees x (record env { calls_none = calls_nothing env.dialect f.name }) ∙ a.objects x));
      clean = λ x o h. absurd (let none : object_named x (in_function f env) ≡ None = opened_sees x (record env { calls_none = calls_nothing env.dialect f.name }) ∙ a.objects x in cc);
      scope = λ x h. refl;
      calls = ap (λ d. calls_nothing d g.name) s.dialect ∙ u.helper;
      functions = seen_function;
      helpers = seen_helper;
    }

    may_there : (f : Definition) (x : List ℕ) → f.name ≡ x → MayDefine env f.name → Unreserved x → MayDefine there x
    may_there f x e may u = record {
      unreserved = written_unreserved there.dialect there.neon x s.dialect s.names u;
      undeclared = s.inner x;
      undefined = λ c h l. before c h l;
    }
      where
        before : (c : Callee) → named x there.functions ≡ Some c → c.order < there.here → ⊥
        before c h l =
            let r = source_of plans source unit x 0 (length us) c pairs (sym (found_own x u) ∙ sym (function_there whole there x s) ∙ h) in
            let o = r.order in
            may.undefined r.callee (ap (λ z. named z env.functions) e ∙ source_function env x a ∙ r.is) (omega (arith, o, l, here))

    unless_none : (b : Bool) (r : Refusal) → unless b r ≡ None → b ≡ true
    unless_none true r h = refl
    unless_none false r h = absurd (cc)

    function_typed : AreFit plans → InPlaceIsTyped → (f g : Definition) → TypedFunction env f g → Pair f g → unmoved_function plans g ≡ None → ReadyFunction (setting plans helps heads) g
        → TypedFunction there (moved_function plans sees_nothing g) (moved_function plans sees_nothing g)
    function_typed fit law f g (typed.function h ps b may array pointer params body) p m ready =
        let result = read_type env.dialect f.result in
        let w = moved_function plans sees_nothing g in
        let inside = in_function w there in
        let unreserved_name : Unreserved g.name = subst Unreserved p.name p.unreserved in
        let at = function_at f g unreserved_name in
        let here2 = unless (is_moved_result result) (unmoved f.place (short f.name)) in
        let inner = or_else (unmoved_parameters ps) (unmoved_statements plans b) in
        let moves = unless_none (is_moved_result result) (unmoved f.place (short f.name)) (first_none here2 inner m) in
        let taken = parameters_own plans fit law helps heads (in_function f env) inside f.params ps at params ready.params in
        let read : read_type there.dialect (written_type result) ≡ written_type result = ap (λ d. read_type d (written_type result)) s.dialect ∙ read_type_written result in
        let c = around (with_objects ps (in_function f env)) result false in
        let d = around (with_objects (moved_parameters ps) inside) (written_type result) false in
        let scope = sees_parameters ps sees_nothing in
        let statements : TypedStatements d (moved_statements plans scope b) (moved_statements plans scope b) =
        statements_own plans fit law helps heads scope c d f.body b (record { at = taken.at; result = refl; in_loop = refl }) body (second_none (unmoved_parameters ps) (unmoved_statements plans b) (second_none here2 inner m)) ready.body in
        subst (λ t. TypedFunction there w (record w { result = t })) read
        (typed.function w (moved_parameters ps) (moved_statements plans scope b) (may_there f g.name p.name may unreserved_name)
        (subst (λ t. IsArray t → ⊥) (sym read) (no_array result moves)) (subst (λ t. IsVoidPointer t → ⊥) (sym read) (no_pointer result moves)) taken.typed
        (subst (λ t. TypedStatements (around (with_objects (moved_parameters ps) inside) t false) (moved_statements plans scope b) (moved_statements plans scope b)) (sym read) statements))

  items_typed : AreFit plans → InPlaceIsTyped → (helps : List ℕ → ℕ → Bool) → ((row : List ℕ) (imm : ℕ) → helps row imm ≡ true → Among row imm us) → (heads : Heads) (env there : Env) → ItemsAt env → Side whole there → there.here ≡ length us + env.here
      → (callees others : Before) (rest more : List External) → TypedItems env callees rest more → Pairs rest more → first_unmoved plans more ≡ None → ReadyItems plans helps heads more
      → TypedItems there others (moved_items plans more) (moved_items plans more)
  items_typed fit law helps among heads env there a s here callees others rest more (typed.no_item e k) p m r = typed.no_item there others
  items_typed fit law helps among heads env there a s here callees others rest more (typed.one_function e k f g source2 unit2 h order next) p m r =
      let w = moved_function plans sees_nothing g in
      typed.one_function there others w w (moved_items plans unit2) (moved_items plans unit2)
      (function_typed helps among heads env there a s here fit law f g h p.0 (first_none (unmoved_function plans g) (first_unmoved plans unit2) m) r.0) (orderly there.dialect others there w s.dialect)
      (items_typed fit law helps among (with_head g heads) (next_item env) (next_item there) (next_at env a) (next_side whole there s) (let l = here in omega (arith, l)) _
      (with_callee there.dialect w.name (effects_of w (calls others there)) others) source2 unit2 next p.1 (second_none (unmoved_function plans g) (first_unmoved plans unit2) m) r.2)
  items_typed fit law helps among heads env there a s here callees others rest more (typed.one_table e k d v is_static source2 unit2 h next) p m r = absurd r

-- ---- the source and its typed form

pair_of : (plans : Plans) (helps : List ℕ → ℕ → Bool) (heads : Heads) (env : Env) (f g : Definition) → env.dialect ≡ X86 → env.neon ≡ is_neon_row → TypedFunction env f g → ReadyFunction (setting plans helps heads) g → intel.find_of g.name ≡ None → Pair f g
pair_of plans helps heads env f g d n (typed.function h ps b may array pointer params body) r free = record {
  name = refl;
  result = ap (λ z. read_type z f.result) (sym d);
  params = ap (λ z. map (parameter_of z) f.params) (sym d) ∙ parameter_types (in_function f env) f.params ps params r.params;
  unreserved = unreserved env.dialect env.neon f.name d n may.unreserved;
  free = free;
}

pairs_of : (plans : Plans) (helps : List ℕ → ℕ → Bool) (heads : Heads) (env : Env) (callees : Before) (source unit : List External) → env.dialect ≡ X86 → env.neon ≡ is_neon_row → TypedItems env callees source unit → ReadyItems plans helps heads unit → Pairs source unit
pairs_of plans helps heads env callees source unit d n (typed.no_item e k) r = tt
pairs_of plans helps heads env callees source unit d n (typed.one_function e k f g rest more h order next) r =
    (pair_of plans helps heads env f g d n h r.0 r.1.no_intel, pairs_of plans helps (with_head g heads) (next_item env) _ rest more d n next r.2)
pairs_of plans helps heads env callees source unit d n (typed.one_table e k x v is_static rest more h next) r = absurd r

pub written_unit_typed : InPlaceIsTyped → FunctionIsTyped → MovableUnitsAreReady → WrittenUnitsAreTyped
written_unit_typed law function ready plans source unit fit typed_unit m =
    let r : ReadyUnit plans (helpers plans unit) unit = ready plans source unit fit typed_unit m in
    let us = helpers plans unit in
    let pairs = pairs_of plans r.helps no_heads (unit_env X86 source) [] source unit refl refl typed_unit r.items in
    let whole = moved_unit plans unit in
    let side : Side whole (unit_env Neon whole) = record { dialect = refl; names = refl; rows = refl; objects = λ x. refl; inner = λ x. refl; calls = refl; functions = refl } in
    let at : ItemsAt plans source unit us pairs r.helpers (unit_env X86 source) = record { dialect = refl; rows = refl; names = refl; objects = λ x. refl; functions = refl } in
    helpers_typed plans source unit us pairs r.helpers function
    (λ there s here callees. items_typed plans source unit us pairs r.helpers fit law r.helps r.among no_heads (unit_env X86 source) there at s (let h = here in omega (arith, h)) [] callees source unit typed_unit pairs m r.items)
    [] us (unit_env Neon whole) refl side refl []
