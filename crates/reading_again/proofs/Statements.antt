-- What is left of a statement gets the same types, and the same refusals where alignments stand on the same sides.
use Rattle.std.proofs.Common.{◌≡◌, ℕ, List, [], ◌∷◌, map, Bool, true, false, Option, Some, None, Ok, refl, sym, ap, ◌∙◌, subst, if◌then◌else◌}
use Rattle.std.specs.Prelude.{option_map, codes, is_some}
use Rattle.c_text.specs.declared.tokens.Place.{Place}
use Rattle.c_tree.specs.declared.types.CType.{CType}
use Rattle.c_tree.specs.declared.types.CType.TheVariants.{Void}
use Rattle.c_tree.specs.Types.{is_array}
use Rattle.c_tree.specs.Tree.{Tree, Object, Statement, Statements, Optional, Declare, Run, Block, If, While, DoWhile, For, Break, Continue, Return, Empty, Absent, Present, NoStatements, Then}
use Rattle.c_tree.specs.Tree.{Definition}
use Rattle.c_tree.specs.Nodes.{node_type, node_place}
use Rattle.c_tree.specs.Same.{nowhere, stripped, stripped_all}
use Rattle.c_tree.specs.Marks.{short, mark}
use Rattle.type_rules.specs.Types.{read_type, is_void_pointer, is_scalar, same_type, assigned}
use Rattle.scopes.specs.Scopes.{Env, with_object}
use Rattle.expression_types.specs.Check.{◌>>=◌, Checked, refuse}
use Rattle.object_types.specs.Objects.{known, check_object}
use Rattle.object_types.specs.Reserved.{is_reserved}
use Rattle.statement_types.specs.Statements.{Around, inside, looped, around, with_objects, check_objects, scalar, condition, maybe_condition, maybe_expression, returned_value, returned, in_a_loop, beyond, beyond_optional, check_statement, check_optional, check_statements}
use Rattle.vector_types.specs.Functions.{is_taken, function_name, is_bare, without_length, check_parameter, check_parameters, in_function, check_function}
use Rattle.reading_again.specs.Rewritten.{statement, statements, optional, definition}
use Rattle.reading_again.specs.Unplaced.{unplaced, unplaced_object, places}
use Rattle.reading_again.specs.Plain.{Plain, PlainPart, PlainObject, PlainObjects, PlainStatement, PlainStatements, PlainOptional, PlainParameters, PlainFunction}
use Rattle.reading_again.specs.Left.{left, left_object}
use Rattle.reading_again.proofs.Answers.{Alike, go_on, refuse_alike}
use Rattle.reading_again.proofs.Expressions.{same_thing, check_alike, plain_type}
use Rattle.reading_again.proofs.Nodes.{same_node_type, same_mark, same_assigned}
use Rattle.reading_again.proofs.Objects.{told_alike, object_alike}

-- the scope behind an object
abbrev pub beyond_object : Object → Env → Env
beyond_object d env = with_object d.name (known d.constant d.ty) env

objects_alike : (exact : Bool) (all : List Object) (env : Env) → PlainObjects all → Alike exact (map unplaced_object) (check_objects all env) (check_objects (map (left_object exact) all) env)
objects_alike exact [] env plain = refl
objects_alike exact (d ∷ rest) env plain =
    go_on exact unplaced_object (map unplaced_object) _ _ _ _ (object_alike exact d env plain.0) (λ v w e. go_on exact (map unplaced_object) (map unplaced_object) _ _ _ _
    (subst (λ o. Alike exact (map unplaced_object) (check_objects rest (beyond_object v env)) (check_objects (map (left_object exact) rest) o)) (ap (λ o. beyond_object o env) e) (objects_alike exact rest (beyond_object v env) plain.1))
    (λ vs ws f. ap (λ o. Ok (o ∷ map unplaced_object vs)) e ∙ ap (λ o. Ok (unplaced_object w ∷ o)) f))

scalar_alike : (exact : Bool) (a b : Tree) → unplaced a ≡ unplaced b → Alike exact unplaced (scalar a) (scalar b)
scalar_alike exact a b e = rw (sym (same_node_type a) ∙ ap node_type e ∙ same_node_type b, sym (same_mark a) ∙ ap mark e ∙ same_mark b) (at (is_scalar (node_type b)))
  where
    at : (v : Bool) → Alike exact unplaced (if v then Ok a else refuse 11 (node_place a) (mark b)) (if v then Ok b else refuse 11 (node_place b) (mark b))
    at true = ap (λ t. Ok t) e
    at false = refuse_alike exact unplaced 11 (node_place a) (node_place b) (mark b)

condition_alike : (exact : Bool) (e : Tree) (env : Env) → Plain e → Alike exact unplaced (condition e env) (condition (stripped e) env)
condition_alike exact e env plain = go_on exact unplaced unplaced _ _ _ _ (check_alike exact e env plain) (λ a b h. scalar_alike exact a b h)

maybe_condition_alike : (exact : Bool) (e : Option Tree) (env : Env) → PlainPart e → Alike exact (option_map unplaced) (maybe_condition e env) (maybe_condition (option_map stripped e) env)
maybe_condition_alike exact None env plain = refl
maybe_condition_alike exact (Some e) env plain = go_on exact unplaced (option_map unplaced) _ _ _ _ (condition_alike exact e env plain) (λ a b h. ap (λ t. Ok (Some t)) h)

maybe_expression_alike : (exact : Bool) (e : Option Tree) (env : Env) → PlainPart e → Alike exact (option_map unplaced) (maybe_expression e env) (maybe_expression (option_map stripped e) env)
maybe_expression_alike exact None env plain = refl
maybe_expression_alike exact (Some e) env plain = go_on exact unplaced (option_map unplaced) _ _ _ _ (check_alike exact e env plain) (λ a b h. ap (λ t. Ok (Some t)) h)

value_alike : (exact : Bool) (p : Place) (t : CType) (v w : Option Tree) → option_map unplaced v ≡ option_map unplaced w → Alike exact (option_map unplaced) (returned_value p t v) (returned_value nowhere t w)
value_alike exact p t (Some a) (Some b) e = ap (λ o. Ok o) e
value_alike exact p t None None e = refuse_alike exact (option_map unplaced) 11 p nowhere (codes "return")
value_alike exact p t (Some a) None e = absurd (cc)
value_alike exact p t None (Some b) e = absurd (cc)

returned_alike : (exact : Bool) (p : Place) (t : CType) (e : Option Tree) (env : Env) → PlainPart e → Alike exact (option_map unplaced) (returned p t e env) (returned nowhere t (option_map stripped e) env)
returned_alike exact p t None env plain = at (same_type t Void)
  where
    at : (v : Bool) → Alike {A = Option Tree} exact (option_map unplaced) (if v then Ok None else refuse 11 p (codes "return")) (if v then Ok None else refuse 11 nowhere (codes "return"))
    at true = refl
    at false = refuse_alike exact (option_map unplaced) 11 p nowhere (codes "return")
returned_alike exact p t (Some e) env plain =
    go_on exact unplaced (option_map unplaced) _ _ _ _ (check_alike exact e env plain) (λ a b h. value_alike exact p t (assigned t a) (assigned t b) (same_assigned t a ∙ ap (assigned t) h ∙ sym (same_assigned t b)))

loop_alike : (exact b : Bool) (p : Place) (word : List ℕ) (s t : Statement) → statement places s ≡ statement places t → Alike exact (statement places) (in_a_loop b p word s) (in_a_loop b nowhere word t)
loop_alike exact true p word s t e = ap (λ o. Ok o) e
loop_alike exact false p word s t e = refuse_alike exact (statement places) 11 p nowhere word

-- what typed declarations leave in scope
pub same_with_objects : (all : List Object) (env : Env) → with_objects (map unplaced_object all) env ≡ with_objects all env
same_with_objects [] env = refl
same_with_objects (d ∷ rest) env = same_with_objects rest (beyond_object d env)

same_beyond : (s : Statement) (env : Env) → beyond (statement places s) env ≡ beyond s env
same_beyond (Declare all) env = same_with_objects all env
same_beyond s env = refl

same_beyond_optional : (o : Optional) (env : Env) → beyond_optional (optional places o) env ≡ beyond_optional o env
same_beyond_optional Absent env = refl
same_beyond_optional (Present s) env = same_beyond s env

-- the parts of a `for` behind its first one, in this scope
abbrev behind_first : Around → Option Tree → Option Tree → Statement → Optional → Env → Checked Statement
behind_first c e n s j env = maybe_condition e env >>= λ v. maybe_expression n env >>= λ m. check_statement s (looped (record c { env = env })) >>= λ t. Ok (For j v m t)

first_alike : (exact : Bool) (e n : Option Tree) (s : Statement) (c : Around) (j k : Optional) → optional places j ≡ optional places k → (env : Env) → PlainPart e → PlainPart n →
    ((d : Around) → Alike exact (statement places) (check_statement s d) (check_statement (statement (left exact) s) d)) →
    Alike exact (statement places) (behind_first c e n s j env) (behind_first c (option_map stripped e) (option_map stripped n) (statement (left exact) s) k env)
first_alike exact e n s c j k f env g h body =
    go_on exact (option_map unplaced) (statement places) _ _ _ _ (maybe_condition_alike exact e env g) (λ v w l. go_on exact (option_map unplaced) (statement places) _ _ _ _ (maybe_expression_alike exact n env h) (λ x y m.
    go_on exact (statement places) (statement places) _ _ _ _ (body (looped (record c { env = env }))) (λ t u r.
    ap (λ o. Ok (For o (option_map unplaced v) (option_map unplaced x) (statement places t))) f ∙ ap (λ o. Ok (For (optional places k) o (option_map unplaced x) (statement places t))) l
    ∙ ap (λ o. Ok (For (optional places k) (option_map unplaced w) o (statement places t))) m ∙ ap (λ o. Ok (For (optional places k) (option_map unplaced w) (option_map unplaced y) o)) r)))

mutual
  pub statement_alike : (exact : Bool) (s : Statement) (c : Around) → PlainStatement s → Alike exact (statement places) (check_statement s c) (check_statement (statement (left exact) s) c)
  statement_alike exact (Declare all) c plain = go_on exact (map unplaced_object) (statement places) _ _ _ _ (objects_alike exact all c.env plain) (λ vs ws e. ap (λ o. Ok (Declare o)) e)
  statement_alike exact (Run e) c plain = go_on exact unplaced (statement places) _ _ _ _ (check_alike exact e c.env plain) (λ a b h. ap (λ o. Ok (Run o)) h)
  statement_alike exact (Block all) c plain = go_on exact (statements places) (statement places) _ _ _ _ (statements_alike exact all (inside c) plain) (λ vs ws e. ap (λ o. Ok (Block o)) e)
  statement_alike exact (If e s o) c plain =
      go_on exact unplaced (statement places) _ _ _ _ (condition_alike exact e c.env plain.0) (λ a b h. go_on exact (statement places) (statement places) _ _ _ _ (statement_alike exact s (inside c) plain.1.0) (λ t u k. go_on exact (optional places) (statement places) _ _ _ _ (optional_alike exact o (inside c) plain.1.1) (λ v w l.
      ap (λ x. Ok (If x (statement places t) (optional places v))) h ∙ ap (λ x. Ok (If (unplaced b) x (optional places v))) k ∙ ap (λ x. Ok (If (unplaced b) (statement places u) x)) l)))
  statement_alike exact (While e s) c plain =
      go_on exact unplaced (statement places) _ _ _ _ (condition_alike exact e c.env plain.0) (λ a b h. go_on exact (statement places) (statement places) _ _ _ _ (statement_alike exact s (looped c) plain.1) (λ t u k.
      ap (λ x. Ok (While x (statement places t))) h ∙ ap (λ x. Ok (While (unplaced b) x)) k))
  statement_alike exact (DoWhile s e) c plain =
      go_on exact (statement places) (statement places) _ _ _ _ (statement_alike exact s (looped c) plain.0) (λ t u k. go_on exact unplaced (statement places) _ _ _ _ (condition_alike exact e c.env plain.1) (λ a b h.
      ap (λ x. Ok (DoWhile x (unplaced a))) k ∙ ap (λ x. Ok (DoWhile (statement places u) x)) h))
  statement_alike exact (For i e n s) c plain =
      go_on exact (optional places) (statement places) _ _ _ _ (optional_alike exact i (inside c) plain.0) (λ j k f.
      subst (λ env. Alike exact (statement places) (behind_first c e n s j (beyond_optional j (inside c).env)) (behind_first c (option_map stripped e) (option_map stripped n) (statement (left exact) s) k env)) (sym (same_beyond_optional j (inside c).env) ∙ ap (λ o. beyond_optional o (inside c).env) f ∙ same_beyond_optional k (inside c).env)
      (first_alike exact e n s c j k f (beyond_optional j (inside c).env) plain.1.0 plain.1.1.0 (λ d. statement_alike exact s d plain.1.1.1)))
  statement_alike exact (Break p) c plain = loop_alike exact c.in_loop p (codes "break") (Break p) (Break nowhere) refl
  statement_alike exact (Continue p) c plain = loop_alike exact c.in_loop p (codes "continue") (Continue p) (Continue nowhere) refl
  statement_alike exact (Return p e) c plain = go_on exact (option_map unplaced) (statement places) _ _ _ _ (returned_alike exact p c.result e c.env plain) (λ a b h. ap (λ o. Ok (Return nowhere o)) h)
  statement_alike exact Empty c plain = refl

  optional_alike : (exact : Bool) (o : Optional) (c : Around) → PlainOptional o → Alike exact (optional places) (check_optional o c) (check_optional (optional (left exact) o) c)
  optional_alike exact Absent c plain = refl
  optional_alike exact (Present s) c plain = go_on exact (statement places) (optional places) _ _ _ _ (statement_alike exact s c plain) (λ a b h. ap (λ o. Ok (Present o)) h)

  pub statements_alike : (exact : Bool) (all : Statements) (c : Around) → PlainStatements all → Alike exact (statements places) (check_statements all c) (check_statements (statements (left exact) all) c)
  statements_alike exact NoStatements c plain = refl
  statements_alike exact (Then s rest) c plain =
      go_on exact (statement places) (statements places) _ _ _ _ (statement_alike exact s c plain.0) (λ v w e. go_on exact (statements places) (statements places) _ _ _ _
      (subst (λ env. Alike exact (statements places) (check_statements rest (record c { env = beyond v c.env })) (check_statements (statements (left exact) rest) (record c { env = env }))) (sym (same_beyond v c.env) ∙ ap (λ o. beyond o c.env) e ∙ same_beyond w c.env)
      (statements_alike exact rest (record c { env = beyond v c.env }) plain.1))
      (λ vs ws f. ap (λ o. Ok (Then o (statements places vs))) e ∙ ap (λ o. Ok (Then (statement places w) o)) f))

-- ---- functions

pub same_some : {A B : Type 0} (f : A → B) (x : Option A) → is_some (option_map f x) ≡ is_some x
same_some f None = refl
same_some f (Some a) = refl

same_bare : (exact : Bool) (d : Object) → is_bare (left_object exact d) ≡ is_bare d
same_bare exact d = rw (same_some stripped d.align, same_some stripped d.init, same_some stripped_all d.list) refl

parameter_alike : (exact : Bool) (d : Object) (env : Env) → PlainObject d → Alike exact unplaced_object (check_parameter d env) (check_parameter (left_object exact d) env)
parameter_alike exact d env plain = subst (λ v. Alike exact unplaced_object (check_parameter d env) (if v then (check_object (left_object exact d) env >>= λ v. Ok (without_length v)) else refuse 11 nowhere (short d.name))) (sym (same_bare exact d)) (at (is_bare d))
  where
    at : (v : Bool) → Alike exact unplaced_object (if v then (check_object d env >>= λ v. Ok (without_length v)) else refuse 11 d.place (short d.name)) (if v then (check_object (left_object exact d) env >>= λ v. Ok (without_length v)) else refuse 11 nowhere (short d.name))
    at true = go_on exact unplaced_object unplaced_object _ _ _ _ (object_alike exact d env plain) (λ v w e. ap (λ o. Ok (without_length o)) e)
    at false = refuse_alike exact unplaced_object 11 d.place nowhere (short d.name)

parameters_alike : (exact : Bool) (all : List Object) (env : Env) → PlainParameters all → Alike exact (map unplaced_object) (check_parameters all env) (check_parameters (map (left_object exact) all) env)
parameters_alike exact [] env plain = refl
parameters_alike exact (d ∷ rest) env plain =
    go_on exact unplaced_object (map unplaced_object) _ _ _ _ (parameter_alike exact d env plain.0.0) (λ v w e. go_on exact (map unplaced_object) (map unplaced_object) _ _ _ _
    (subst (λ o. Alike exact (map unplaced_object) (check_parameters rest (beyond_object v env)) (check_parameters (map (left_object exact) rest) o)) (ap (λ o. beyond_object o env) e) (parameters_alike exact rest (beyond_object v env) plain.1))
    (λ vs ws f. ap (λ o. Ok (o ∷ map unplaced_object vs)) e ∙ ap (λ o. Ok (unplaced_object w ∷ o)) f))

function_name_alike : (exact : Bool) (x : List ℕ) (p : Place) (t : CType) (env : Env) → Alike exact same_thing (function_name x p t env) (function_name x nowhere t env)
function_name_alike exact x p t env = told_alike exact (is_reserved env.dialect (env.neon x) x) (is_taken x env) (is_array t) (is_void_pointer t) x p nowhere

-- what is left of a function gets the same types
pub function_alike : (exact : Bool) (f : Definition) (env : Env) → PlainFunction f → Alike exact (definition places) (check_function f env) (check_function (definition (left exact) f) env)
function_alike exact f env plain = subst (λ t. Alike exact (definition places) (with_result f f.result) (with_result (definition (left exact) f) t)) (sym (plain_type f.result plain.0)) (at (read_type env.dialect f.result))
  where
    typed : Definition → CType → Checked Definition
    typed g t =
        function_name g.name g.place t env >>= λ _.
        check_parameters g.params (in_function g env) >>= λ ps.
        check_statements g.body (around (with_objects ps (in_function g env)) t false) >>= λ b.
        Ok (record { place = g.place; name = g.name; result = t; params = ps; is_static = g.is_static; is_inline = g.is_inline; body = b })

    with_result : Definition → CType → Checked Definition
    with_result g t = typed g (read_type env.dialect t)

    whole : CType → List Object → Statements → Definition
    whole t ps b = record { place = nowhere; name = f.name; result = t; params = ps; is_static = f.is_static; is_inline = f.is_inline; body = b }

    at : (t : CType) → Alike exact (definition places) (typed f t) (typed (definition (left exact) f) t)
    at t =
        go_on exact same_thing (definition places) _ _ _ _ (function_name_alike exact f.name f.place t env) (λ _ _ _.
        go_on exact (map unplaced_object) (definition places) _ _ _ _ (parameters_alike exact f.params (in_function f env) plain.1.0) (λ ps qs e.
        go_on exact (statements places) (definition places) _ _ _ _
        (subst (λ o. Alike exact (statements places) (check_statements f.body (around (with_objects ps (in_function f env)) t false)) (check_statements (statements (left exact) f.body) (around o t false)))
        (sym (same_with_objects ps (in_function f env)) ∙ ap (λ o. with_objects o (in_function f env)) e ∙ same_with_objects qs (in_function f env))
        (statements_alike exact f.body (around (with_objects ps (in_function f env)) t false) plain.1.1))
        (λ b d k. ap (λ o. Ok (whole t o (statements places b))) e ∙ ap (λ o. Ok (whole t (map unplaced_object qs) o)) k)))
