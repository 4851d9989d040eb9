-- What is left of a unit gets the same types, and the same refusals where alignments stand on the same sides.
use Rattle.std.proofs.Common.{◌≡◌, ℕ, ◌+◌, List, [], ◌∷◌, ◌++◌, map, Bool, true, false, not, ◌&&◌, Option, Some, None, Ok, Err, refl, sym, ap, ◌∙◌, subst, if◌then◌else◌}
use Rattle.std.specs.Prelude.{option_map, is_some}
use Rattle.c_text.specs.declared.tokens.Dialect.{Dialect}
use Rattle.c_text.specs.declared.refusals.Refusal.{Refusal}
use Rattle.lane_core.specs.declared.vector.Pointee.{Pointee}
use Rattle.const_imm.specs.Constant.{value_of}
use Rattle.c_tree.specs.declared.types.CType.{CType}
use Rattle.c_tree.specs.Tree.{Tree, Trees, NoTrees, More, Object, Definition, External, Function, Table}
use Rattle.c_tree.specs.Same.{nowhere, unnumbered, stripped, stripped_all, stripped_object}
use Rattle.type_rules.specs.Types.{read_type, is_integer}
use Rattle.scopes.specs.Scopes.{Env, named, with_object}
use Rattle.expression_types.specs.Check.{◌>>=◌, Checked, check}
use Rattle.object_types.specs.Reserved.{is_reserved}
use Rattle.object_types.specs.Objects.{alignment, member, count_all, count_of, known, declared_type, behind_declarator, check_object}
use Rattle.order_rule.specs.declared.callees.Effects.{Effects}
use Rattle.order_rule.specs.Callees.{Before, Callees}
use Rattle.order_rule.specs.Full.{effects_of}
use Rattle.vector_types.specs.Functions.{Functions, parameter_of, heading_of, with_item, with_items, is_taken}
use Rattle.vector_types.specs.Order.{calls, effects_given, with_callee}
use Rattle.vector_types.specs.Tables.{is_table_type, fits_file, table_name, judged_alignment, constant_value, check_table, number_of, told_number, refused_object, beyond_table}
use Rattle.vector_types.specs.Units.{function_checked, beyond_item, callees_beyond, next_item, Judged, and_judged, check_items, unit_env, unless_refused, answer, check_unit}
use Rattle.reading_again.specs.Rewritten.{definition, external, unit}
use Rattle.reading_again.specs.Unplaced.{unplaced, unplaced_object, places}
use Rattle.reading_again.specs.Answers.{unplaced_refusal, unplaced_answer, unplaced_unit}
use Rattle.reading_again.specs.Plain.{Plain, PlainPart, PlainObject, PlainParameters, PlainFunction, PlainUnit}
use Rattle.reading_again.specs.Left.{left, left_object}
use Rattle.reading_again.proofs.Answers.{Alike, go_on}
use Rattle.reading_again.proofs.Expressions.{same_thing, check_alike, plain_type}
use Rattle.reading_again.proofs.Objects.{maybe, maybe_alike, maybe_env, Fails, one_refusal, fails_later, fails_by, by_fails, name_told, told_alike, count_alike, member_alike, same_declared, same_object_type, object_alike}
use Rattle.reading_again.proofs.Order.{same_effects, order_alike}
use Rattle.reading_again.proofs.Statements.{beyond_object, same_some, function_alike}

-- ---- the functions of a unit by their headings

same_parameters : (exact : Bool) (dialect : Dialect) (all : List Object) → PlainParameters all → map (parameter_of dialect) (map (left_object exact) all) ≡ map (parameter_of dialect) all
same_parameters exact dialect [] plain = refl
same_parameters exact dialect (d ∷ rest) plain = rw (plain_type d.ty plain.0.1, same_parameters exact dialect rest plain.1) refl

same_heading : (exact : Bool) (dialect : Dialect) (f : Definition) → PlainFunction f → heading_of dialect (definition (left exact) f) ≡ heading_of dialect f
same_heading exact dialect f plain = rw (plain_type f.result plain.0, same_parameters exact dialect f.params plain.1.0) refl

same_items : (exact : Bool) (dialect : Dialect) (i : ℕ) (u : List External) (all : Functions) → PlainUnit u → with_items dialect i (unit (left exact) u) all ≡ with_items dialect i u all
same_items exact dialect i [] all plain = refl
same_items exact dialect i (Function f ∷ rest) all plain =
    ap (λ h. with_items dialect (i + 1) (unit (left exact) rest) (if is_some (named f.name all) then all else all ++ (f.name, record { order = i; heading = h }) ∷ [])) (same_heading exact dialect f plain.0)
    ∙ same_items exact dialect (i + 1) rest (with_item dialect i (Function f) all) plain.1
same_items exact dialect i (Table d is_static ∷ rest) all plain = same_items exact dialect (i + 1) rest all plain.1

same_env : (exact : Bool) (dialect : Dialect) (u : List External) → PlainUnit u → unit_env dialect (unit (left exact) u) ≡ unit_env dialect u
same_env exact dialect u plain = ap (λ all. record (unit_env dialect u) { functions = all }) (same_items exact dialect 0 u [] plain)

-- ---- tables

same_table_type : (dialect : Dialect) (t : CType) → is_table_type (read_type dialect (unnumbered t)) ≡ is_table_type (read_type dialect t)
same_table_type dialect (CType.Array (Pointee.Int s) n c) = refl
same_table_type dialect (CType.Array Pointee.Void n c) = refl
same_table_type dialect (CType.Array Pointee.M128 n c) = refl
same_table_type dialect (CType.Array Pointee.M256 n c) = refl
same_table_type dialect t = refl

same_fits : (exact : Bool) (dialect : Dialect) (d : Object) → fits_file (left_object exact d) (read_type dialect (unnumbered d.ty)) ≡ fits_file d (read_type dialect d.ty)
same_fits exact dialect d = rw (same_table_type dialect d.ty, same_some stripped d.init, same_some stripped_all d.list, same_object_type dialect d.ty) refl

name_alike : (exact : Bool) (d : Object) (env : Env) → Alike exact same_thing (table_name d (read_type env.dialect d.ty) env) (table_name (left_object exact d) (read_type env.dialect (unnumbered d.ty)) env)
name_alike exact d env =
    subst (λ v. Alike exact same_thing (table_name d (read_type env.dialect d.ty) env) (name_told (is_reserved env.dialect (env.neon d.name) d.name) (is_taken d.name env) (not v) (not d.constant) d.name nowhere)) (sym (same_fits exact env.dialect d))
    (told_alike exact (is_reserved env.dialect (env.neon d.name) d.name) (is_taken d.name env) (not (fits_file d (read_type env.dialect d.ty))) (not d.constant) d.name d.place nowhere)

-- an alignment that is judged now passes or fails as one that is kept
pub judged_maybe : (a : Option Tree) (env : Env) → judged_alignment true a env ≡ (maybe a env >>= λ _. Ok true)
judged_maybe None env = refl
judged_maybe (Some e) env = at (alignment e env)
  where
    at : (x : Checked Tree) → (x >>= λ _. Ok true) ≡ ((x >>= λ v. Ok (Some v)) >>= λ _. Ok true)
    at (Ok v) = refl
    at (Err r) = refl

pub judged_later : (a : Option Tree) (env : Env) → judged_alignment false a env ≡ Ok true
judged_later None env = refl
judged_later (Some e) env = refl

judged_by : (exact : Bool) (a b : Option Tree) (env other : Env) → Alike exact (option_map unplaced) (maybe a env) (maybe b other) → Alike exact same_thing (judged_alignment true a env) (judged_alignment true b other)
judged_by exact a b env other e =
    subst (λ x. Alike exact same_thing x (judged_alignment true b other)) (sym (judged_maybe a env)) (subst (λ x. Alike exact same_thing (maybe a env >>= λ _. Ok true) x) (sym (judged_maybe b other))
    (go_on exact (option_map unplaced) same_thing _ _ _ _ e (λ _ _ _. refl)))

judged_alike : (exact now : Bool) (a : Option Tree) (env : Env) → PlainPart a → Alike exact same_thing (judged_alignment now a env) (judged_alignment now (option_map stripped a) env)
judged_alike exact true a env plain = judged_by exact a (option_map stripped a) env env (maybe_alike exact a env plain)
judged_alike exact false a env plain = rw (judged_later a env, judged_later (option_map stripped a) env) refl

-- the value of an integer, behind an alignment
abbrev pub behind_alignment : Checked Bool → CType → Tree → Env → Checked Bool
behind_alignment judged t e env = judged >>= λ _. check e env >>= λ v. member t true v >>= λ _. Ok true

scalar_alike : (exact : Bool) (judged other : Checked Bool) (t : CType) (e : Tree) (env : Env) → Plain e → Alike exact same_thing judged other → Alike exact same_thing (behind_alignment judged t e env) (behind_alignment other t (stripped e) env)
scalar_alike exact judged other t e env plain same =
    go_on exact same_thing same_thing _ _ _ _ same (λ _ _ _. go_on exact unplaced same_thing _ _ _ _ (check_alike exact e env plain) (λ a b h. go_on exact unplaced same_thing _ _ _ _ (member_alike exact t true a b h) (λ _ _ _. refl)))

-- the value of a table, with what its alignment says behind its name
abbrev pub value_behind : (Env → Checked Bool) → CType → Object → Option Tree → Env → Checked Bool
value_behind judged t d None env = Ok true
value_behind judged t d (Some e) env = if is_integer t then behind_alignment (judged (behind_declarator d.name d.constant t env)) t e (behind_declarator d.name d.constant t env) else Ok true

value_alike : (exact : Bool) (judged other : Env → Checked Bool) (t : CType) (d : Object) (init : Option Tree) (env : Env) → PlainPart init →
    ((x : List ℕ) (c : Bool) (u : CType) → Alike exact same_thing (judged (behind_declarator x c u env)) (other (behind_declarator x c u env))) →
    Alike exact same_thing (value_behind judged (read_type env.dialect t) d init env) (value_behind other (read_type env.dialect (unnumbered t)) (stripped_object d) (option_map stripped init) env)
value_alike exact judged other t d None env plain same = refl
value_alike exact judged other (CType.Array e n c) d (Some i) env plain same = refl
value_alike exact judged other (CType.Int s) d (Some i) env plain same =
    scalar_alike exact (judged (behind_declarator d.name d.constant (read_type env.dialect (CType.Int s)) env)) (other (behind_declarator d.name d.constant (read_type env.dialect (CType.Int s)) env)) (read_type env.dialect (CType.Int s)) i (behind_declarator d.name d.constant (read_type env.dialect (CType.Int s)) env) plain (same d.name d.constant (read_type env.dialect (CType.Int s)))
value_alike exact judged other t d (Some i) env plain same = refl

-- a table, with what its alignment says in front of its name and behind it
abbrev pub table_by : Checked Bool → (Env → Checked Bool) → Checked Object → Object → CType → Option Tree → Env → Checked Object
table_by front judged whole d t init env =
    front >>= λ _. table_name d (read_type env.dialect t) env >>= λ _. value_behind judged (read_type env.dialect t) d init env >>= λ _. whole

same_value_behind : (d : Object) (t : CType) (init : Option Tree) (env : Env) → constant_value t d init env ≡ value_behind (judged_alignment (not d.align_first) d.align) t d init env
same_value_behind d t None env = refl
same_value_behind d t (Some e) env = refl

pub by_parts : (d : Object) (env : Env) → check_table d env ≡ table_by (judged_alignment d.align_first d.align env) (judged_alignment (not d.align_first) d.align) (check_object d env) d d.ty d.init env
by_parts d env = ap (λ x. judged_alignment d.align_first d.align env >>= λ _. table_name d (read_type env.dialect d.ty) env >>= λ _. x >>= λ _. check_object d env) (same_value_behind d (read_type env.dialect d.ty) d.init env)

table_parts_alike : (exact : Bool) (front back : Checked Bool) (judged other : Env → Checked Bool) (d : Object) (env : Env) → PlainObject d → Alike exact same_thing front back →
    ((x : List ℕ) (c : Bool) (u : CType) → Alike exact same_thing (judged (behind_declarator x c u env)) (other (behind_declarator x c u env))) →
    Alike exact unplaced_object (table_by front judged (check_object d env) d d.ty d.init env) (table_by back other (check_object (left_object exact d) env) (left_object exact d) (unnumbered d.ty) (option_map stripped d.init) env)
table_parts_alike exact front back judged other d env plain e same =
    go_on exact same_thing unplaced_object _ _ _ _ e (λ _ _ _. go_on exact same_thing unplaced_object _ _ _ _ (name_alike exact d env) (λ _ _ _.
    go_on exact same_thing unplaced_object _ _ _ _ (value_alike exact judged other d.ty d d.init env plain.1.1.0 same) (λ _ _ _. object_alike exact d env plain)))

-- where an alignment in front of the name fails, the object does
front_fails : (first : Bool) (d : Object) (env : Env) → first ≡ true → d.align_first ≡ first → (r : Refusal) → maybe d.align env ≡ Err r → check_object d env ≡ Err r
front_fails true d env h e r g = rw (e, g) refl
front_fails false d env h e r g = absurd (cc)

table_sides : (exact first : Bool) (d : Object) (env : Env) → d.align_first ≡ first → PlainObject d →
    Alike exact unplaced_object (table_by (judged_alignment first d.align env) (judged_alignment (not first) d.align) (check_object d env) d d.ty d.init env)
    (table_by (judged_alignment (exact && first) (option_map stripped d.align) env) (judged_alignment (not (exact && first)) (option_map stripped d.align)) (check_object (left_object exact d) env) (left_object exact d) (unnumbered d.ty) (option_map stripped d.init) env)
table_sides true first d env h plain =
    table_parts_alike true (judged_alignment first d.align env) (judged_alignment first (option_map stripped d.align) env) (judged_alignment (not first) d.align) (judged_alignment (not first) (option_map stripped d.align)) d env plain (judged_alike true first d.align env plain.1.0) (λ x c u. judged_alike true (not first) d.align (behind_declarator x c u env) plain.1.0)
table_sides false false d env h plain =
    table_parts_alike false (judged_alignment false d.align env) (judged_alignment false (option_map stripped d.align) env) (judged_alignment true d.align) (judged_alignment true (option_map stripped d.align)) d env plain (judged_alike false false d.align env plain.1.0) (λ x c u. judged_alike false true d.align (behind_declarator x c u env) plain.1.0)
table_sides false true d env h plain = at (maybe d.align env) refl
  where
    left_whole : Checked Object
    left_whole = table_by (judged_alignment true d.align env) (judged_alignment false d.align) (check_object d env) d d.ty d.init env

    right_whole : Checked Object
    right_whole = table_by (judged_alignment false (option_map stripped d.align) env) (judged_alignment true (option_map stripped d.align)) (check_object (left_object false d) env) (left_object false d) (unnumbered d.ty) (option_map stripped d.init) env

    passes : (a : Option Tree) → maybe d.align env ≡ Ok a → judged_alignment true d.align env ≡ Ok true
    passes a e = judged_maybe d.align env ∙ ap (λ x. x >>= λ _. Ok true) e

    fails : (r : Refusal) → maybe d.align env ≡ Err r → judged_alignment true d.align env ≡ Err r
    fails r e = judged_maybe d.align env ∙ ap (λ x. x >>= λ _. Ok true) e

    at : (m : Checked (Option Tree)) → maybe d.align env ≡ m → Alike false unplaced_object left_whole right_whole
    at (Ok a) e =
        table_parts_alike false (judged_alignment true d.align env) (judged_alignment false (option_map stripped d.align) env) (judged_alignment false d.align) (judged_alignment true (option_map stripped d.align)) d env plain (ap (unplaced_answer false same_thing) (passes a e ∙ sym (judged_later (option_map stripped d.align) env)))
        (λ x c u. ap (unplaced_answer false same_thing) (judged_later d.align (behind_declarator x c u env) ∙ sym (passes a e))
        ∙ judged_by false d.align (option_map stripped d.align) env (behind_declarator x c u env) (sym (maybe_env d.align env x c u) ∙ maybe_alike false d.align (behind_declarator x c u env) plain.1.0))
    at (Err r) e =
        let object : unplaced_answer false unplaced_object (check_object (left_object false d) env) ≡ Err one_refusal = sym (object_alike false d env plain) ∙ ap (unplaced_answer false unplaced_object) (front_fails true d env refl h r e) in
        let right : Fails right_whole =
        fails_later (judged_alignment false (option_map stripped d.align) env) _ (λ _. fails_later (table_name (left_object false d) (read_type env.dialect (unnumbered d.ty)) env) _ (λ _.
        fails_later (value_behind (judged_alignment true (option_map stripped d.align)) (read_type env.dialect (unnumbered d.ty)) (left_object false d) (option_map stripped d.init) env) _ (λ _.
        by_fails unplaced_object (check_object (left_object false d) env) object))) in
        ap (λ x. unplaced_answer false unplaced_object (x >>= λ _. table_name d (read_type env.dialect d.ty) env >>= λ _. value_behind (judged_alignment false d.align) (read_type env.dialect d.ty) d d.init env >>= λ _. check_object d env)) (fails r e)
        ∙ sym (fails_by unplaced_object right_whole right)

table_alike : (exact : Bool) (d : Object) (env : Env) → PlainObject d → Alike exact unplaced_object (check_table d env) (check_table (left_object exact d) env)
table_alike exact d env plain =
    subst (λ x. Alike exact unplaced_object x (check_table (left_object exact d) env)) (sym (by_parts d env))
    (subst (λ x. Alike exact unplaced_object (table_by (judged_alignment d.align_first d.align env) (judged_alignment (not d.align_first) d.align) (check_object d env) d d.ty d.init env) x) (sym (by_parts (left_object exact d) env))
    (table_sides exact d.align_first d env refl plain))

-- ---- what an item leaves to those behind it

same_number : (exact : Bool) (x y : Checked ℕ) → Alike exact same_thing x y → number_of x ≡ number_of y
same_number exact (Ok n) (Ok m) e = ap (λ z. number_of z) e
same_number exact (Err r) (Err s) e = refl
same_number exact (Ok n) (Err s) e = absurd (cc)
same_number exact (Err r) (Ok m) e = absurd (cc)

same_count : (all : Trees) → count_all (stripped_all all) ≡ count_all all
same_count NoTrees = refl
same_count (More a rest) = rw (same_count rest) refl

same_told : (exact : Bool) (length : Option Tree) (list : Option Trees) (env : Env) → PlainPart length → told_number (option_map stripped length) (option_map stripped_all list) env ≡ told_number length list env
same_told exact (Some e) list env plain = sym (same_number exact (check e env >>= λ v. count_of v (value_of v)) (check (stripped e) env >>= λ v. count_of v (value_of v)) (go_on exact unplaced same_thing _ _ _ _ (check_alike exact e env plain) (λ a b h. count_alike exact a b h)))
same_told exact None None env plain = refl
same_told exact None (Some all) env plain = ap (λ n. Some n) (same_count all)

same_refused : (exact : Bool) (d : Object) (env : Env) → PlainObject d → refused_object (left_object exact d) env ≡ refused_object d env
same_refused exact d env plain = ap (known d.constant) (same_declared (told_number (option_map stripped d.length) (option_map stripped_all d.list) env) d.ty env ∙ ap (λ n. declared_type n d.ty env) (same_told exact d.length d.list env plain.0))

same_beyond_table : (exact : Bool) (d : Object) (env : Env) (x y : Checked Object) → PlainObject d → Alike exact unplaced_object x y → beyond_table (left_object exact d) y env ≡ beyond_table d x env
same_beyond_table exact d env (Ok v) (Ok w) plain e = sym (ap (λ o. as_env o) e)
  where
    as_env : Checked Object → Env
    as_env (Ok o) = beyond_object o env
    as_env (Err r) = env
same_beyond_table exact d env (Err r) (Err s) plain e = ap (λ o. if is_taken d.name env then env else with_object d.name o env) (same_refused exact d env plain)
same_beyond_table exact d env (Ok v) (Err s) plain e = absurd (cc)
same_beyond_table exact d env (Err r) (Ok w) plain e = absurd (cc)

same_given : (exact : Bool) (x y : Checked Definition) (c : Callees) → Alike exact (definition places) x y → effects_given y c ≡ effects_given x c
same_given exact (Ok f) (Ok g) c e = sym (same_effects g c) ∙ sym (ap (λ o. as_effects o) e) ∙ same_effects f c
  where
    as_effects : Checked Definition → Effects
    as_effects (Ok o) = effects_of o c
    as_effects (Err r) = record { stores = false; reads = false }
same_given exact (Err r) (Err s) c e = refl
same_given exact (Ok f) (Err s) c e = absurd (cc)
same_given exact (Err r) (Ok g) c e = absurd (cc)

function_checked_alike : (exact : Bool) (f : Definition) (env : Env) (callees : Before) → PlainFunction f → Alike exact (definition places) (function_checked f env callees) (function_checked (definition (left exact) f) env callees)
function_checked_alike exact f env callees plain = go_on exact (definition places) (definition places) _ _ _ _ (function_alike exact f env plain) (λ g h e. order_alike exact env.dialect (calls callees env) g h e)

-- ---- items

abbrev unplaced_judged : Bool → Judged → Judged
unplaced_judged exact j = record { refusals = map (unplaced_refusal exact) j.refusals; items = unit places j.items }

judged_items_alike : (exact : Bool) (x y : Checked External) (j k : Judged) → Alike exact (external places) x y → unplaced_judged exact j ≡ unplaced_judged exact k → unplaced_judged exact (and_judged x j) ≡ unplaced_judged exact (and_judged y k)
judged_items_alike exact (Ok v) (Ok w) j k e same =
    ap (λ o. record { refusals = o.refusals; items = external places v ∷ o.items }) same ∙ ap (λ o. with_found o) e
  where
    with_found : Checked External → Judged
    with_found (Ok o) = record { refusals = map (unplaced_refusal exact) k.refusals; items = o ∷ unit places k.items }
    with_found (Err r) = k
judged_items_alike exact (Err r) (Err s) j k e same =
    ap (λ o. record { refusals = unplaced_refusal exact r ∷ o.refusals; items = o.items }) same ∙ ap (λ o. with_refused o) e
  where
    with_refused : Checked External → Judged
    with_refused (Ok o) = k
    with_refused (Err o) = record { refusals = o ∷ map (unplaced_refusal exact) k.refusals; items = unit places k.items }
judged_items_alike exact (Ok v) (Err s) j k e same = absurd (cc)
judged_items_alike exact (Err r) (Ok w) j k e same = absurd (cc)

items_alike : (exact : Bool) (u : List External) (env : Env) (callees : Before) → PlainUnit u → unplaced_judged exact (check_items u env callees) ≡ unplaced_judged exact (check_items (unit (left exact) u) env callees)
items_alike exact [] env callees plain = refl
items_alike exact (Function f ∷ rest) env callees plain =
    let same = function_checked_alike exact f env callees plain.0 in
    judged_items_alike exact _ _ _ _ (go_on exact (definition places) (external places) _ _ _ _ same (λ g h e. ap (λ o. Ok (Function o)) e))
    (subst (λ e. unplaced_judged exact (check_items rest (next_item env) (callees_beyond (Function f) env callees)) ≡ unplaced_judged exact (check_items (unit (left exact) rest) (next_item env) (with_callee env.dialect f.name e callees)))
    (sym (same_given exact (function_checked f env callees) (function_checked (definition (left exact) f) env callees) (calls callees env) same))
    (items_alike exact rest (next_item env) (callees_beyond (Function f) env callees) plain.1))
items_alike exact (Table d is_static ∷ rest) env callees plain =
    let same = table_alike exact d env plain.0 in
    judged_items_alike exact _ _ _ _ (go_on exact unplaced_object (external places) _ _ _ _ same (λ v w e. ap (λ o. Ok (Table o is_static)) e))
    (subst (λ e. unplaced_judged exact (check_items rest (next_item (beyond_item (Table d is_static) env)) callees) ≡ unplaced_judged exact (check_items (unit (left exact) rest) (next_item e) callees))
    (sym (same_beyond_table exact d env (check_table d env) (check_table (left_object exact d) env) plain.0 same))
    (items_alike exact rest (next_item (beyond_item (Table d is_static) env)) callees plain.1))

-- ---- units

same_answer : (exact : Bool) (j k : Judged) → unplaced_judged exact j ≡ unplaced_judged exact k → unplaced_unit exact (answer j) ≡ unplaced_unit exact (answer k)
same_answer exact j k e = at j ∙ ap answer e ∙ sym (at k)
  where
    of_lists : (refusals : List Refusal) (items : List External) → unplaced_unit exact (unless_refused refusals items) ≡ unless_refused (map (unplaced_refusal exact) refusals) (unit places items)
    of_lists [] items = refl
    of_lists (r ∷ more) items = refl

    at : (j : Judged) → unplaced_unit exact (answer j) ≡ answer (unplaced_judged exact j)
    at j = of_lists j.refusals j.items

pub unit_alike : (exact : Bool) (dialect : Dialect) (u : List External) → PlainUnit u → unplaced_unit exact (check_unit dialect u) ≡ unplaced_unit exact (check_unit dialect (unit (left exact) u))
unit_alike exact dialect u plain =
    same_answer exact (check_items u (unit_env dialect u) []) (check_items (unit (left exact) u) (unit_env dialect (unit (left exact) u)) [])
    (subst (λ env. unplaced_judged exact (check_items u (unit_env dialect u) []) ≡ unplaced_judged exact (check_items (unit (left exact) u) env [])) (sym (same_env exact dialect u plain)) (items_alike exact u (unit_env dialect u) [] plain))
