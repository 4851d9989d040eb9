-- A unit with its types is given back by the check as it is.
use Rattle.std.proofs.Common.{◌≡◌, ℕ, ◌+◌, List, [], ◌∷◌, ◌++◌, map, Bool, true, false, not, ◌&&◌, ◌||◌, Option, Some, None, Ok, Err, refl, sym, ap, ◌∙◌, subst, if◌then◌else◌}
use Rattle.std.specs.Prelude.{option_map, is_some, Result}
use Rattle.c_text.specs.declared.tokens.Dialect.{Dialect}
use Rattle.c_text.specs.declared.refusals.Refusal.{Refusal}
use Rattle.lane_core.specs.declared.vector.Pointee.{Pointee}
use Rattle.c_tree.specs.declared.types.CType.{CType}
use Rattle.c_tree.specs.Types.{is_array}
use Rattle.c_tree.specs.Tree.{Tree, Object, External, Function, Table}
use Rattle.type_rules.specs.Types.{read_type, is_integer}
use Rattle.scopes.specs.Scopes.{Env, named, with_object}
use Rattle.expression_types.specs.Check.{◌>>=◌, Checked, check}
use Rattle.object_types.specs.Reserved.{is_reserved}
use Rattle.object_types.specs.Objects.{member, with_number, declared_type, behind_declarator, Length, length_of, new_name, small_once, is_open, is_object_type, start, check_object}
use Rattle.order_rule.specs.Callees.{Before}
use Rattle.vector_types.specs.Functions.{Functions, parameter_of, heading_of, with_item, with_items, is_taken}
use Rattle.vector_types.specs.Order.{calls, effects_given, with_callee}
use Rattle.vector_types.specs.Tables.{is_table_type, fits_file, table_name, judged_alignment, check_table, refused_object, beyond_table}
use Rattle.vector_types.specs.Units.{function_checked, item_checked, beyond_item, callees_beyond, next_item, Judged, and_judged, check_items, unit_env, unless_refused, answer, check_unit}
use Rattle.reading_again.specs.Answers.{unplaced_answer}
use Rattle.reading_again.specs.Unplaced.{unplaced}
use Rattle.reading_again.specs.Plain.{PlainObject, PlainFunction, PlainUnit}
use Rattle.reading_again.proofs.Fixed.{Whenever, after, anything, read_twice}
use Rattle.reading_again.proofs.FixedObjects.{whenever_is, paired, both, weaker, Valued, Keeps, plain_kept, plain_declared, object_again, object_back, object_keeps}
use Rattle.reading_again.proofs.FixedStatements.{AreHeaded, IsOrdered, function_checked_back}
use Rattle.reading_again.proofs.Objects.{maybe, maybe_env, name_told, behind, on_side, on_later_side}
use Rattle.reading_again.proofs.Units.{judged_maybe, judged_later, behind_alignment, value_behind, by_parts}

-- ---- steps that have passed

abbrev Passed : {A : Type 0} → Checked A → Type 0
Passed {A} x = (a : A) × (x ≡ Ok a)

first_passed : {A B : Type 0} (x : Checked A) (h : A → Checked B) (b : B) → (x >>= h) ≡ Ok b → (a : A) × ((x ≡ Ok a) × (h a ≡ Ok b))
first_passed (Ok a) h b e = (a, (refl, e))
first_passed (Err r) h b e = absurd (cc)

passed_as : {A B : Type 0} (f : A → B) (x y : Checked A) → unplaced_answer false f x ≡ unplaced_answer false f y → Passed y → Passed x
passed_as f (Ok a) y e h = (a, refl)
passed_as f (Err r) (Ok b) e h = absurd (cc)
passed_as f (Err r) (Err s) e h = absurd (cc)

-- the alignment of an object that passes is one, in whatever scope it is judged
alignment_passes : (first : Bool) (v w : Object) (env : Env) → on_side first v env ≡ Ok w → Passed (maybe v.align env)
alignment_passes true v w env e = let first = first_passed (maybe v.align env) (λ a. behind true a v v.ty env) w e in (first.0, first.1.0)
alignment_passes false v w env e =
    let one = first_passed (new_name v.name v.place (read_type env.dialect v.ty) env) (λ _. from_length) w (sym (on_later_side v env) ∙ e) in
    let two = first_passed (length_of v.length env) from_size w one.1.1 in
    let three = first_passed (small_once (not (is_open (declared_type two.0.number v.ty env))) v.name v.place (declared_type two.0.number v.ty env)) (λ _. from_alignment two.0) w two.1.1 in
    let four = first_passed (maybe v.align (scope two.0)) (from_start two.0) w three.1.1 in
    passed_as (option_map unplaced) (maybe v.align env) (maybe v.align (scope two.0)) (sym (maybe_env v.align env v.name v.constant (declared_type two.0.number v.ty env))) (four.0, four.1.0)
  where
    scope : Length → Env
    scope l = behind_declarator v.name v.constant (declared_type l.number v.ty env) env

    from_start : Length → Option Tree → Checked Object
    from_start l b = start v.name v.place (declared_type l.number v.ty env) v.init v.list (scope l) >>= λ s. Ok (record { place = v.place; name = v.name; ty = s.ty; length = l.expression; constant = v.constant; align = b; align_first = false; init = s.init; list = s.list })

    from_alignment : Length → Checked Object
    from_alignment l = maybe v.align (scope l) >>= from_start l

    from_size : Length → Checked Object
    from_size l = small_once (not (is_open (declared_type l.number v.ty env))) v.name v.place (declared_type l.number v.ty env) >>= λ _. from_alignment l

    from_length : Checked Object
    from_length = length_of v.length env >>= from_size

judged_passes : (a : Option Tree) (env : Env) → Passed (maybe a env) → judged_alignment true a env ≡ Ok true
judged_passes a env h = judged_maybe a env ∙ ap (λ x. x >>= λ _. Ok true) h.1

judged_here : (first : Bool) (a : Option Tree) (env : Env) → Passed (maybe a env) → judged_alignment first a env ≡ Ok true
judged_here true a env h = judged_passes a env h
judged_here false a env h = judged_later a env

judged_behind : (first : Bool) (a : Option Tree) (env : Env) (x : List ℕ) (c : Bool) (t : CType) → Passed (maybe a env) → judged_alignment first a (behind_declarator x c t env) ≡ Ok true
judged_behind true a env x c t h = judged_passes a (behind_declarator x c t env) (passed_as (option_map unplaced) (maybe a (behind_declarator x c t env)) (maybe a env) (maybe_env a env x c t) h)
judged_behind false a env x c t h = judged_later a (behind_declarator x c t env)

-- ---- tables

table_again : (n m : Option ℕ) (t : CType) (env : Env) → is_table_type (read_type env.dialect (with_number m (declared_type n t env))) ≡ is_table_type (read_type env.dialect t)
table_again n m t env = at n m t
  where
    at : (n m : Option ℕ) (t : CType) → is_table_type (read_type env.dialect (with_number m (declared_type n t env))) ≡ is_table_type (read_type env.dialect t)
    at None None (CType.Array (Pointee.Int s) k c) = refl
    at None (Some j) (CType.Array (Pointee.Int s) k c) = refl
    at (Some i) None (CType.Array (Pointee.Int s) k c) = refl
    at (Some i) (Some j) (CType.Array (Pointee.Int s) k c) = refl
    at None None (CType.Array e k c) = refl
    at None (Some j) (CType.Array e k c) = refl
    at (Some i) None (CType.Array e k c) = refl
    at (Some i) (Some j) (CType.Array e k c) = refl
    at n m t = ap (λ u. is_table_type (read_type env.dialect u)) (plain_kept n m t env refl) ∙ ap is_table_type (read_twice env.dialect t)

same_valued : (a b : Option Tree) (env : Env) → Valued a b env → is_some b ≡ is_some a
same_valued None None env h = refl
same_valued (Some e) (Some w) env h = refl
same_valued None (Some w) env h = absurd h
same_valued (Some e) None env h = absurd h

fits_again : (d v : Object) (env : Env) → Keeps d.align_first d env v → fits_file v (read_type env.dialect v.ty) ≡ fits_file d (read_type env.dialect d.ty)
fits_again d v env k =
    ap (λ t. fits_file v (read_type env.dialect t)) k.ty
    ∙ ap (λ c. if c then is_table_type (read_type env.dialect kept) && (is_some v.init || is_some v.list) else is_object_type (read_type env.dialect kept)) k.constant
    ∙ ap (λ b. if d.constant then b && (is_some v.init || is_some v.list) else is_object_type (read_type env.dialect kept)) (table_again k.length k.number d.ty env)
    ∙ ap (λ b. if d.constant then is_table_type (read_type env.dialect d.ty) && (b || is_some v.list) else is_object_type (read_type env.dialect kept)) (same_valued d.init v.init (behind_declarator d.name d.constant (declared_type k.length d.ty env) env) k.valued)
    ∙ ap (λ b. if d.constant then is_table_type (read_type env.dialect d.ty) && (is_some d.init || b) else is_object_type (read_type env.dialect kept)) k.listed
    ∙ ap (λ b. if d.constant then is_table_type (read_type env.dialect d.ty) && (is_some d.init || is_some d.list) else b) (object_again k.length k.number d.ty env)
  where
    kept : CType
    kept = with_number k.number (declared_type k.length d.ty env)

name_again : (d v : Object) (env : Env) → Keeps d.align_first d env v → table_name v (read_type env.dialect v.ty) env ≡ table_name d (read_type env.dialect d.ty) env
name_again d v env k =
    ap (λ b. name_told (is_reserved env.dialect (env.neon v.name) v.name) (is_taken v.name env) (not b) (not v.constant) v.name v.place) (fits_again d v env k)
    ∙ ap (λ x. name_told (is_reserved env.dialect (env.neon x) x) (is_taken x env) (not (fits_file d (read_type env.dialect d.ty))) (not v.constant) x v.place) k.name
    ∙ ap (λ c. name_told (is_reserved env.dialect (env.neon d.name) d.name) (is_taken d.name env) (not (fits_file d (read_type env.dialect d.ty))) (not c) d.name v.place) k.constant
    ∙ ap (λ p. name_told (is_reserved env.dialect (env.neon d.name) d.name) (is_taken d.name env) (not (fits_file d (read_type env.dialect d.ty))) (not d.constant) d.name p) k.place

integer_again : (n m : Option ℕ) (t : CType) (env : Env) → is_integer (read_type env.dialect (with_number m (declared_type n t env))) ≡ is_integer (read_type env.dialect t)
integer_again None None (CType.Array e k c) env = refl
integer_again None (Some j) (CType.Array e k c) env = refl
integer_again (Some i) None (CType.Array e k c) env = refl
integer_again (Some i) (Some j) (CType.Array e k c) env = refl
integer_again n m t env = ap (λ u. is_integer (read_type env.dialect u)) (plain_kept n m t env refl) ∙ ap is_integer (read_twice env.dialect t)

no_integer : (t : CType) → is_integer t ≡ true → is_array t ≡ false
no_integer (CType.Array e n c) h = absurd (cc)
no_integer t h = refl

-- the value of an integer is judged as that of the declared object
member_again : (t : CType) (e w a : Tree) (c : Checked Bool) (env : Env) (b : Bool) → check e env ≡ Ok a → check w env ≡ Ok a → behind_alignment c t e env ≡ Ok b → behind_alignment (Ok true) t w env ≡ Ok true
member_again t e w a c env b h k g =
    let one = first_passed c (λ _. from_value e) b g in
    let two = first_passed (check e env) (λ v. member t true v >>= λ _. Ok true) b one.1.1 in
    let same : two.0 ≡ a = ap (found a) (sym two.1.0 ∙ h) in
    let three = first_passed (member t true two.0) (λ _. Ok true) b two.1.1 in
    ap (λ x. x >>= λ v. member t true v >>= λ _. Ok true) k ∙ ap (λ x. x >>= λ _. Ok true) (ap (member t true) (sym same) ∙ three.1.0)
  where
    found : Tree → Checked Tree → Tree
    found a (Ok b) = b
    found a (Err r) = a

    from_value : Tree → Checked Bool
    from_value e = check e env >>= λ v. member t true v >>= λ _. Ok true

value_again : (d v : Object) (env : Env) (b : Bool) → Keeps d.align_first d env v → Passed (maybe v.align env) →
    value_behind (judged_alignment (not d.align_first) d.align) (read_type env.dialect d.ty) d d.init env ≡ Ok b → value_behind (judged_alignment (not v.align_first) v.align) (read_type env.dialect v.ty) v v.init env ≡ Ok true
value_again d v env b k align h = at d.init v.init k.valued h
  where
    kept : CType
    kept = with_number k.number (declared_type k.length d.ty env)

    integer : (e w a : Tree) → is_integer (read_type env.dialect d.ty) ≡ true → check e (behind_declarator d.name d.constant (declared_type k.length d.ty env) env) ≡ Ok a → check w (behind_declarator d.name d.constant (declared_type k.length d.ty env) env) ≡ Ok a →
        behind_alignment (judged_alignment (not d.align_first) d.align (behind_declarator d.name d.constant (read_type env.dialect d.ty) env)) (read_type env.dialect d.ty) e (behind_declarator d.name d.constant (read_type env.dialect d.ty) env) ≡ Ok b →
        behind_alignment (judged_alignment (not v.align_first) v.align (behind_declarator v.name v.constant (read_type env.dialect v.ty) env)) (read_type env.dialect v.ty) w (behind_declarator v.name v.constant (read_type env.dialect v.ty) env) ≡ Ok true
    integer e w a whole f g p =
        let plain = no_integer (read_type env.dialect d.ty) whole in
        let same : read_type env.dialect v.ty ≡ read_type env.dialect d.ty = ap (read_type env.dialect) (k.ty ∙ plain_kept k.length k.number d.ty env plain) ∙ read_twice env.dialect d.ty in
        let declared : declared_type k.length d.ty env ≡ read_type env.dialect d.ty = plain_declared k.length d.ty env plain in
        ap (λ x. behind_alignment x (read_type env.dialect v.ty) w (behind_declarator v.name v.constant (read_type env.dialect v.ty) env)) (judged_behind (not v.align_first) v.align env v.name v.constant (read_type env.dialect v.ty) align)
        ∙ ap (λ t. behind_alignment (Ok true) t w (behind_declarator v.name v.constant t env)) same
        ∙ ap (λ x. behind_alignment (Ok true) (read_type env.dialect d.ty) w (behind_declarator x v.constant (read_type env.dialect d.ty) env)) k.name
        ∙ ap (λ c. behind_alignment (Ok true) (read_type env.dialect d.ty) w (behind_declarator d.name c (read_type env.dialect d.ty) env)) k.constant
        ∙ member_again (read_type env.dialect d.ty) e w a (judged_alignment (not d.align_first) d.align (behind_declarator d.name d.constant (read_type env.dialect d.ty) env)) (behind_declarator d.name d.constant (read_type env.dialect d.ty) env) b
        (subst (λ t. check e (behind_declarator d.name d.constant t env) ≡ Ok a) declared f) (subst (λ t. check w (behind_declarator d.name d.constant t env) ≡ Ok a) declared g) p

    by : (e w a : Tree) (x : Bool) → is_integer (read_type env.dialect d.ty) ≡ x → check e (behind_declarator d.name d.constant (declared_type k.length d.ty env) env) ≡ Ok a → check w (behind_declarator d.name d.constant (declared_type k.length d.ty env) env) ≡ Ok a →
        (if x then behind_alignment (judged_alignment (not d.align_first) d.align (behind_declarator d.name d.constant (read_type env.dialect d.ty) env)) (read_type env.dialect d.ty) e (behind_declarator d.name d.constant (read_type env.dialect d.ty) env) else Ok true) ≡ Ok b →
        (if x then behind_alignment (judged_alignment (not v.align_first) v.align (behind_declarator v.name v.constant (read_type env.dialect v.ty) env)) (read_type env.dialect v.ty) w (behind_declarator v.name v.constant (read_type env.dialect v.ty) env) else Ok true) ≡ Ok true
    by e w a true whole f g p = integer e w a whole f g p
    by e w a false whole f g p = refl

    at : (e w : Option Tree) → Valued e w (behind_declarator d.name d.constant (declared_type k.length d.ty env) env) → value_behind (judged_alignment (not d.align_first) d.align) (read_type env.dialect d.ty) d e env ≡ Ok b → value_behind (judged_alignment (not v.align_first) v.align) (read_type env.dialect v.ty) v w env ≡ Ok true
    at None None h p = refl
    at (Some e) (Some w) h p =
        subst (λ x. (if x then behind_alignment (judged_alignment (not v.align_first) v.align (behind_declarator v.name v.constant (read_type env.dialect v.ty) env)) (read_type env.dialect v.ty) w (behind_declarator v.name v.constant (read_type env.dialect v.ty) env) else Ok true) ≡ Ok true)
        (sym (ap (λ t. is_integer (read_type env.dialect t)) k.ty ∙ integer_again k.length k.number d.ty env)) (by e w h.0 (is_integer (read_type env.dialect d.ty)) refl h.1.0 h.1.1 p)
    at None (Some w) h p = absurd h
    at (Some e) None h p = absurd h

table_back : (d : Object) (env : Env) → Whenever (check_table d env) (λ v. (check_table v env ≡ Ok v) × (check_table d env ≡ Ok v))
table_back d env = weaker (λ v. (check_table d env ≡ Ok v) × (check_table v env ≡ Ok v)) (λ v. (check_table v env ≡ Ok v) × (check_table d env ≡ Ok v)) (check_table d env) (λ v h. (h.1, h.0)) (paired (check_table d env) (λ v. check_table v env ≡ Ok v)
    (subst (λ x. Whenever x (λ v. check_table v env ≡ Ok v)) (sym (by_parts d env))
    (after (λ _. Unit {0}) (λ v. check_table v env ≡ Ok v) (judged_alignment d.align_first d.align env) _ (anything (judged_alignment d.align_first d.align env)) (λ _ _ _.
    after (λ u. table_name d (read_type env.dialect d.ty) env ≡ Ok u) (λ v. check_table v env ≡ Ok v) (table_name d (read_type env.dialect d.ty) env) _ (whenever_is (table_name d (read_type env.dialect d.ty) env)) (λ u _ name.
    after (λ b. value_behind (judged_alignment (not d.align_first) d.align) (read_type env.dialect d.ty) d d.init env ≡ Ok b) (λ v. check_table v env ≡ Ok v) (value_behind (judged_alignment (not d.align_first) d.align) (read_type env.dialect d.ty) d d.init env) _ (whenever_is (value_behind (judged_alignment (not d.align_first) d.align) (read_type env.dialect d.ty) d d.init env)) (λ b _ value.
    weaker (λ v. (check_object v env ≡ Ok v) × Keeps d.align_first d env v) (λ v. check_table v env ≡ Ok v) (check_object d env) (λ v h. again u b v name value h.0 h.1) (both (check_object d env) (λ v. check_object v env ≡ Ok v) (Keeps d.align_first d env) (object_back d env) (object_keeps d env))))))))
  where
    again : (u b : Bool) (v : Object) → table_name d (read_type env.dialect d.ty) env ≡ Ok u → value_behind (judged_alignment (not d.align_first) d.align) (read_type env.dialect d.ty) d d.init env ≡ Ok b → check_object v env ≡ Ok v → Keeps d.align_first d env v → check_table v env ≡ Ok v
    again u b v name value whole k =
        let align = alignment_passes v.align_first v v env whole in
        by_parts v env
        ∙ ap (λ x. x >>= λ _. table_name v (read_type env.dialect v.ty) env >>= λ _. value_behind (judged_alignment (not v.align_first) v.align) (read_type env.dialect v.ty) v v.init env >>= λ _. check_object v env) (judged_here v.align_first v.align env align)
        ∙ ap (λ x. x >>= λ _. value_behind (judged_alignment (not v.align_first) v.align) (read_type env.dialect v.ty) v v.init env >>= λ _. check_object v env) (name_again d v env k ∙ name)
        ∙ ap (λ x. x >>= λ _. check_object v env) (value_again d v env b k align value)
        ∙ whole

-- ---- units

-- an item with its types is seen by calls as the item
abbrev IsHeaded : Dialect → External → External → Type 0
IsHeaded dialect (Function f) (Function g) = (g.name ≡ f.name) × ((g.result ≡ read_type dialect f.result) × AreHeaded dialect f.params g.params)
IsHeaded dialect (Table d s) (Table v t) = Unit {0}
IsHeaded dialect _ _ = ⊥

abbrev AllHeaded : Dialect → List External → List External → Type 0
AllHeaded dialect [] [] = Unit {0}
AllHeaded dialect (u ∷ us) (v ∷ vs) = IsHeaded dialect u v × AllHeaded dialect us vs
AllHeaded dialect _ _ = ⊥

same_parameters : (dialect : Dialect) (ds vs : List Object) → AreHeaded dialect ds vs → map (parameter_of dialect) vs ≡ map (parameter_of dialect) ds
same_parameters dialect [] [] h = refl
same_parameters dialect (d ∷ ds) (v ∷ vs) h = rw (h.0, read_twice dialect d.ty, same_parameters dialect ds vs h.1) refl
same_parameters dialect [] (v ∷ vs) h = absurd h
same_parameters dialect (d ∷ ds) [] h = absurd h

same_items : (dialect : Dialect) (i : ℕ) (u v : List External) (all : Functions) → AllHeaded dialect u v → with_items dialect i v all ≡ with_items dialect i u all
same_items dialect i [] [] all h = refl
same_items dialect i (Function f ∷ us) (Function g ∷ vs) all h =
    ap (λ r. with_items dialect (i + 1) vs (if is_some (named g.name all) then all else all ++ (g.name, record { order = i; heading = record { result = r; params = map (parameter_of dialect) g.params } }) ∷ [])) (ap (read_type dialect) h.0.1.0 ∙ read_twice dialect f.result)
    ∙ ap (λ r. with_items dialect (i + 1) vs (if is_some (named g.name all) then all else all ++ (g.name, record { order = i; heading = record { result = read_type dialect f.result; params = r } }) ∷ [])) (same_parameters dialect f.params g.params h.0.1.1)
    ∙ ap (λ x. with_items dialect (i + 1) vs (if is_some (named x all) then all else all ++ (x, record { order = i; heading = heading_of dialect f }) ∷ [])) h.0.0
    ∙ same_items dialect (i + 1) us vs (with_item dialect i (Function f) all) h.1
same_items dialect i (Table d s ∷ us) (Table v t ∷ vs) all h = same_items dialect (i + 1) us vs all h.1
same_items dialect i (Function f ∷ us) (Table v t ∷ vs) all h = absurd h.0
same_items dialect i (Table d s ∷ us) (Function g ∷ vs) all h = absurd h.0
same_items dialect i [] (v ∷ vs) all h = absurd h
same_items dialect i (u ∷ us) [] all h = absurd h

-- the items that passed, with nothing refused
abbrev passed_with : List External → Judged
passed_with items = record { refusals = []; items = items }

-- an item that passes is given back, and leaves the same to those behind it
pub record ItemBack (u : External) (env : Env) (callees : Before) (v : External) : Type 0 where
  pub back : item_checked v env callees ≡ Ok v
  pub scope : beyond_item v env ≡ beyond_item u env
  pub callees_same : callees_beyond v env callees ≡ callees_beyond u env callees
  pub headed : IsHeaded env.dialect u v

abbrev PlainItem : External → Type 0
PlainItem (Function f) = PlainFunction f
PlainItem (Table d is_static) = PlainObject d

item_back : (u : External) (env : Env) (callees : Before) → PlainItem u → Whenever (item_checked u env callees) (ItemBack u env callees)
item_back (Function f) env callees plain =
    after (λ g. (function_checked f env callees ≡ Ok g) × IsOrdered f env callees g) (ItemBack (Function f) env callees) (function_checked f env callees) (λ v. Ok (Function v)) (paired (function_checked f env callees) (IsOrdered f env callees) (function_checked_back f env callees plain)) (λ g _ h.
    record {
      back = ap (λ x. x >>= λ v. Ok (Function v)) h.1.0;
      scope = refl;
      callees_same = ap (λ x. with_callee env.dialect x (effects_given (function_checked g env callees) (calls callees env)) callees) h.1.1.0 ∙ ap (λ x. with_callee env.dialect f.name (effects_given x (calls callees env)) callees) (h.1.0 ∙ sym h.0);
      headed = h.1.1;
    })
item_back (Table d is_static) env callees plain =
    after (λ v. ((check_table v env ≡ Ok v) × (check_table d env ≡ Ok v))) (ItemBack (Table d is_static) env callees) (check_table d env) (λ v. Ok (Table v is_static)) (table_back d env) (λ v _ h.
    record {
      back = ap (λ x. x >>= λ v. Ok (Table v is_static)) h.0;
      scope = ap (λ x. beyond_table v x env) h.0 ∙ sym (ap (λ x. beyond_table d x env) h.1);
      callees_same = refl;
      headed = tt;
    })

abbrev HasRefusal : List Refusal → Type 0
HasRefusal [] = ⊥
HasRefusal (r ∷ more) = Unit {0}

no_refusal : (r : Refusal) (j : Judged) (items : List External) → and_judged (Err r) j ≡ passed_with items → ⊥
no_refusal r j items e = subst (λ k. HasRefusal k.refusals) e tt

plain_first : (u : External) (rest : List External) → PlainUnit (u ∷ rest) → PlainItem u × PlainUnit rest
plain_first (Function f) rest h = h
plain_first (Table d is_static) rest h = h

-- what is seen behind an item is of the same dialect
same_dialect : (u : External) (env : Env) → (beyond_item u env).dialect ≡ env.dialect
same_dialect (Function f) env = refl
same_dialect (Table d is_static) env = at (check_table d env)
  where
    where_taken : (v : Bool) (other : Env) → other.dialect ≡ env.dialect → (if v then env else other).dialect ≡ env.dialect
    where_taken true other e = refl
    where_taken false other e = e

    at : (x : Checked Object) → (beyond_table d x env).dialect ≡ env.dialect
    at (Ok v) = refl
    at (Err r) = where_taken (is_taken d.name env) (with_object d.name (refused_object d env) env) refl

items_back : (us : List External) (env : Env) (callees : Before) (vs : List External) → PlainUnit us → check_items us env callees ≡ passed_with vs → (check_items vs env callees ≡ passed_with vs) × AllHeaded env.dialect us vs
items_back [] env callees vs plain e = subst (λ l. (check_items l env callees ≡ passed_with l) × AllHeaded env.dialect [] l) (ap (λ j. j.items) e) (refl, tt)
items_back (u ∷ rest) env callees vs plain e =
    let parts = plain_first u rest plain in
    at (item_checked u env callees) (item_back u env callees parts.0) e (λ ws h.
    subst (λ o. (check_items ws (next_item (beyond_item u env)) (callees_beyond u env callees) ≡ passed_with ws) × AllHeaded o rest ws) (same_dialect u env) (items_back rest (next_item (beyond_item u env)) (callees_beyond u env callees) ws parts.1 h))
  where
    behind : Judged
    behind = check_items rest (next_item (beyond_item u env)) (callees_beyond u env callees)

    at : (x : Checked External) → Whenever x (ItemBack u env callees) → and_judged x behind ≡ passed_with vs →
        ((ws : List External) → behind ≡ passed_with ws → (check_items ws (next_item (beyond_item u env)) (callees_beyond u env callees) ≡ passed_with ws) × AllHeaded env.dialect rest ws) →
        (check_items vs env callees ≡ passed_with vs) × AllHeaded env.dialect (u ∷ rest) vs
    at (Err r) k g more = absurd (no_refusal r behind vs g)
    at (Ok v) k g more =
        let ws = more behind.items (ap (λ l. record { refusals = l; items = behind.items }) (ap (λ j. j.refusals) g)) in
        subst (λ l. (check_items l env callees ≡ passed_with l) × AllHeaded env.dialect (u ∷ rest) l) (ap (λ j. j.items) g) (
          ap (λ x. and_judged x (check_items behind.items (next_item (beyond_item v env)) (callees_beyond v env callees))) k.back
              ∙ ap (λ o. and_judged (Ok v) (check_items behind.items (next_item o) (callees_beyond v env callees))) k.scope
              ∙ ap (λ c. and_judged (Ok v) (check_items behind.items (next_item (beyond_item u env)) c)) k.callees_same
              ∙ ap (and_judged (Ok v)) ws.0,
          (k.headed, ws.1),
        )

abbrev unit_in : List External → Result (List External) (List Refusal) → List External
unit_in v (Ok w) = w
unit_in v (Err list) = v

passed_answer : (j : Judged) (v : List External) → answer j ≡ Ok v → j ≡ passed_with v
passed_answer j v e = at j.refusals j.items e
  where
    at : (refusals : List Refusal) (items : List External) → unless_refused refusals items ≡ Ok v → record { refusals = refusals; items = items } ≡ passed_with v
    at [] items e = ap (λ l. passed_with l) (ap (unit_in v) e)
    at (r ∷ more) items e = absurd (cc)

pub unit_back : (dialect : Dialect) (u v : List External) → PlainUnit u → check_unit dialect u ≡ Ok v → check_unit dialect v ≡ Ok v
unit_back dialect u v plain e =
    let items = items_back u (unit_env dialect u) [] v plain (passed_answer (check_items u (unit_env dialect u) []) v e) in
    ap (λ all. answer (check_items v (record (unit_env dialect u) { functions = all }) [])) (same_items dialect 0 u v [] items.1) ∙ ap answer items.0
