-- A statement and a function with their types are given back by the check as they are.
use Rattle.std.proofs.Common.{◌≡◌, ℕ, List, [], ◌∷◌, Bool, true, false, not, ◌&&◌, Option, Some, None, Ok, refl, sym, ap, ◌∙◌, subst, if◌then◌else◌}
use Rattle.std.specs.Prelude.{codes, is_some}
use Rattle.c_text.specs.declared.tokens.Dialect.{Dialect}
use Rattle.c_text.specs.declared.tokens.Dialect.TheVariants.{X86, Neon}
use Rattle.c_text.specs.declared.tokens.Place.{Place}
use Rattle.c_text.specs.declared.refusals.Refusal.{Refusal}
use Rattle.c_tree.specs.declared.types.CType.{CType}
use Rattle.c_tree.specs.declared.types.CType.TheVariants.{Void}
use Rattle.c_tree.specs.Types.{is_array}
use Rattle.c_tree.specs.Tree.{Tree, Trees, Object, Statement, Statements, Optional, Declare, Run, Block, If, While, DoWhile, For, Break, Continue, Return, Empty, Absent, Present, NoStatements, Then}
use Rattle.c_tree.specs.Tree.{Definition}
use Rattle.c_tree.specs.Nodes.{node_type, node_place}
use Rattle.c_tree.specs.Marks.{mark, short}
use Rattle.type_rules.specs.Types.{read_type, is_scalar, same_type, assigned}
use Rattle.scopes.specs.Scopes.{Env}
use Rattle.expression_types.specs.Check.{◌>>=◌, Checked, refuse, check}
use Rattle.object_types.specs.Objects.{new_name, length_of, small_once, start, closed_type, is_open, declared_type, Length, Start, check_object}
use Rattle.statement_types.specs.Statements.{Around, inside, looped, around, with_objects, check_objects, scalar, condition, maybe_condition, maybe_expression, returned_value, returned, in_a_loop, beyond, beyond_optional, check_statement, check_optional, check_statements}
use Rattle.vector_types.specs.Functions.{function_name, is_bare, without_length, check_parameter, check_parameters, in_function, check_function}
use Rattle.vector_types.specs.Order.{in_order, unless_broken}
use Rattle.vector_types.specs.Units.{function_checked}
use Rattle.order_rule.specs.Callees.{Callees, Before}
use Rattle.vector_types.specs.Order.{calls}
use Rattle.order_rule.specs.Full.{order_of}
use Rattle.reading_again.specs.Plain.{PlainParameters, PlainFunction}
use Rattle.reading_again.proofs.Fixed.{Whenever, Each, Back, after, answered, anything, read_twice, given_back, check_back}
use Rattle.reading_again.proofs.FixedObjects.{whenever_is, paired, weaker, plain_declared, object_back}
use Rattle.reading_again.proofs.Statements.{beyond_object}

objects_back : (all : List Object) (env : Env) → Whenever (check_objects all env) (Back (λ vs. check_objects vs env))
objects_back [] env = refl
objects_back (d ∷ rest) env =
    after (Back (λ v. check_object v env)) (Back (λ vs. check_objects vs env)) (check_object d env) _ (object_back d env) (λ v _ e.
    after (Back (λ vs. check_objects vs (beyond_object v env))) (Back (λ vs. check_objects vs env)) (check_objects rest (beyond_object v env)) _ (objects_back rest (beyond_object v env)) (λ vs _ h.
    rw (e, h) refl))

scalar_is : (v : Tree) → Whenever (scalar v) (λ w. w ≡ v)
scalar_is v = at (is_scalar (node_type v))
  where
    at : (b : Bool) → Whenever (if b then Ok v else refuse 11 (node_place v) (mark v)) (λ w. w ≡ v)
    at true = refl
    at false = tt

condition_back : (e : Tree) (env : Env) → Whenever (condition e env) (Back (λ v. condition v env))
condition_back e env =
    after (Back (λ v. check v env)) (Back (λ v. condition v env)) (check e env) (λ v. scalar v) (check_back e env) (λ v _ h.
    weaker (λ w. (scalar v ≡ Ok w) × (w ≡ v)) (Back (λ v. condition v env)) (scalar v) (λ w g. subst (λ u. condition u env ≡ Ok w) (sym g.1) (ap (λ x. x >>= λ v. scalar v) h ∙ g.0)) (paired (scalar v) (λ w. w ≡ v) (scalar_is v)))

maybe_condition_back : (e : Option Tree) (env : Env) → Whenever (maybe_condition e env) (Back (λ v. maybe_condition v env))
maybe_condition_back None env = refl
maybe_condition_back (Some e) env = after (Back (λ v. condition v env)) (Back (λ v. maybe_condition v env)) (condition e env) (λ v. Ok (Some v)) (condition_back e env) (λ v _ h. ap (λ x. x >>= λ v. Ok (Some v)) h)

maybe_expression_back : (e : Option Tree) (env : Env) → Whenever (maybe_expression e env) (Back (λ v. maybe_expression v env))
maybe_expression_back None env = refl
maybe_expression_back (Some e) env = after (Back (λ v. check v env)) (Back (λ v. maybe_expression v env)) (check e env) (λ v. Ok (Some v)) (check_back e env) (λ v _ h. ap (λ x. x >>= λ v. Ok (Some v)) h)

returned_back : (p : Place) (t : CType) (e : Option Tree) (env : Env) → Whenever (returned p t e env) (Back (λ v. returned p t v env))
returned_back p t None env = answered (λ v. returned p t v env) (returned p t None env) (at (same_type t Void))
  where
    at : (v : Bool) → Whenever {A = Option Tree} (if v then Ok None else refuse 11 p (codes "return")) (λ o. returned p t o env ≡ returned p t None env)
    at true = refl
    at false = tt
returned_back p t (Some e) env =
    after (Back (λ v. check v env)) (Back (λ v. returned p t v env)) (check e env) (λ v. returned_value p t (assigned t v)) (check_back e env) (λ v _ h. at v (assigned t v) refl (given_back t v env h))
  where
    at : (v : Tree) (x : Option Tree) → assigned t v ≡ x → Each x (λ c. check c env ≡ Ok v) → Whenever (returned_value p t x) (Back (λ v. returned p t v env))
    at v None e h = tt
    at v (Some c) e h = ap (λ y. y >>= λ v. returned_value p t (assigned t v)) h ∙ ap (returned_value p t) e

in_loop_back : (P : Statement → Type 0) (b : Bool) (p : Place) (word : List ℕ) (s : Statement) → P s → Whenever (in_a_loop b p word s) P
in_loop_back P true p word s h = h
in_loop_back P false p word s h = tt

mutual
  pub statement_back : (s : Statement) (c : Around) → Whenever (check_statement s c) (Back (λ v. check_statement v c))
  statement_back (Declare all) c = after (Back (λ vs. check_objects vs c.env)) (Back (λ v. check_statement v c)) (check_objects all c.env) _ (objects_back all c.env) (λ vs _ h. ap (λ x. x >>= λ vs. Ok (Declare vs)) h)
  statement_back (Run e) c = after (Back (λ v. check v c.env)) (Back (λ v. check_statement v c)) (check e c.env) _ (check_back e c.env) (λ v _ h. ap (λ x. x >>= λ v. Ok (Run v)) h)
  statement_back (Block all) c = after (Back (λ vs. check_statements vs (inside c))) (Back (λ v. check_statement v c)) (check_statements all (inside c)) _ (statements_back all (inside c)) (λ vs _ h. ap (λ x. x >>= λ vs. Ok (Block vs)) h)
  statement_back (If e s o) c =
      after (Back (λ v. condition v c.env)) (Back (λ v. check_statement v c)) (condition e c.env) _ (condition_back e c.env) (λ v _ h.
      after (Back (λ v. check_statement v (inside c))) (Back (λ v. check_statement v c)) (check_statement s (inside c)) _ (statement_back s (inside c)) (λ t _ k.
      after (Back (λ v. check_optional v (inside c))) (Back (λ v. check_statement v c)) (check_optional o (inside c)) _ (optional_back o (inside c)) (λ u _ l. rw (h, k, l) refl)))
  statement_back (While e s) c =
      after (Back (λ v. condition v c.env)) (Back (λ v. check_statement v c)) (condition e c.env) _ (condition_back e c.env) (λ v _ h.
      after (Back (λ v. check_statement v (looped c))) (Back (λ v. check_statement v c)) (check_statement s (looped c)) _ (statement_back s (looped c)) (λ t _ k. rw (h, k) refl))
  statement_back (DoWhile s e) c =
      after (Back (λ v. check_statement v (looped c))) (Back (λ v. check_statement v c)) (check_statement s (looped c)) _ (statement_back s (looped c)) (λ t _ k.
      after (Back (λ v. condition v c.env)) (Back (λ v. check_statement v c)) (condition e c.env) _ (condition_back e c.env) (λ v _ h. rw (k, h) refl))
  statement_back (For i e n s) c =
      after (Back (λ v. check_optional v (inside c))) (Back (λ v. check_statement v c)) (check_optional i (inside c)) _ (optional_back i (inside c)) (λ j _ f.
      after (Back (λ v. maybe_condition v (beyond_optional j (inside c).env))) (Back (λ v. check_statement v c)) (maybe_condition e (beyond_optional j (inside c).env)) _ (maybe_condition_back e (beyond_optional j (inside c).env)) (λ v _ h.
      after (Back (λ v. maybe_expression v (beyond_optional j (inside c).env))) (Back (λ v. check_statement v c)) (maybe_expression n (beyond_optional j (inside c).env)) _ (maybe_expression_back n (beyond_optional j (inside c).env)) (λ m _ k.
      after (Back (λ v. check_statement v (looped (record c { env = beyond_optional j (inside c).env })))) (Back (λ v. check_statement v c)) (check_statement s (looped (record c { env = beyond_optional j (inside c).env }))) _ (statement_back s (looped (record c { env = beyond_optional j (inside c).env }))) (λ t _ l.
      rw (f, h, k, l) refl))))
  statement_back (Break p) c = answered (λ v. check_statement v c) (in_a_loop c.in_loop p (codes "break") (Break p)) (in_loop_back (λ v. check_statement v c ≡ in_a_loop c.in_loop p (codes "break") (Break p)) c.in_loop p (codes "break") (Break p) refl)
  statement_back (Continue p) c = answered (λ v. check_statement v c) (in_a_loop c.in_loop p (codes "continue") (Continue p)) (in_loop_back (λ v. check_statement v c ≡ in_a_loop c.in_loop p (codes "continue") (Continue p)) c.in_loop p (codes "continue") (Continue p) refl)
  statement_back (Return p e) c = after (Back (λ v. returned p c.result v c.env)) (Back (λ v. check_statement v c)) (returned p c.result e c.env) _ (returned_back p c.result e c.env) (λ v _ h. ap (λ x. x >>= λ v. Ok (Return p v)) h)
  statement_back Empty c = refl

  optional_back : (o : Optional) (c : Around) → Whenever (check_optional o c) (Back (λ v. check_optional v c))
  optional_back Absent c = refl
  optional_back (Present s) c = after (Back (λ v. check_statement v c)) (Back (λ v. check_optional v c)) (check_statement s c) _ (statement_back s c) (λ v _ h. ap (λ x. x >>= λ v. Ok (Present v)) h)

  pub statements_back : (all : Statements) (c : Around) → Whenever (check_statements all c) (Back (λ vs. check_statements vs c))
  statements_back NoStatements c = refl
  statements_back (Then s rest) c =
      after (Back (λ v. check_statement v c)) (Back (λ vs. check_statements vs c)) (check_statement s c) _ (statement_back s c) (λ v _ h.
      after (Back (λ vs. check_statements vs (record c { env = beyond v c.env }))) (Back (λ vs. check_statements vs c)) (check_statements rest (record c { env = beyond v c.env })) _ (statements_back rest (record c { env = beyond v c.env })) (λ vs _ k. rw (h, k) refl))

-- ---- parameters

bare_parts : (a b : Option Tree) (l : Option Trees) → (not (is_some a) && not (is_some b) && not (is_some l)) ≡ true → (a ≡ None) × ((b ≡ None) × (l ≡ None))
bare_parts None None None e = (refl, (refl, refl))
bare_parts (Some a) b l e = absurd (cc)
bare_parts None (Some b) l e = absurd (cc)
bare_parts None None (Some l) e = absurd (cc)

-- an object that begins with nothing
abbrev bare : Object → Object
bare d = record d { align = None; init = None; list = None }

is_bare_object : (d : Object) → is_bare d ≡ true → d ≡ bare d
is_bare_object d e = let parts = bare_parts d.align d.init d.list e in λ i. record d { align = parts.0 i; init = parts.1.0 i; list = parts.1.1 i }

-- what is known of a parameter that has its types
abbrev pub IsParameterOf : Object → Env → Object → Type 0
IsParameterOf d env v = (check_object (without_length (bare d)) env ≡ Ok (without_length v)) × ((is_bare v ≡ true) × ((v.ty ≡ read_type env.dialect d.ty) × (v.name ≡ d.name)))

-- what an object that begins with nothing begins with
abbrev begun : List ℕ → Place → CType → Checked Start
begun x p t = closed_type x p t >>= λ u. Ok (record { init = None; list = None; ty = u })

begun_is : (x : List ℕ) (p : Place) (t : CType) → Whenever (begun x p t) (λ s. s ≡ record { init = None; list = None; ty = t })
begun_is x p t = at (is_open t)
  where
    at : (v : Bool) → Whenever {A = Start} ((if v then refuse 11 p (short x) else Ok t) >>= λ u. Ok (record { init = None; list = None; ty = u })) (λ s. s ≡ record { init = None; list = None; ty = t })
    at true = tt
    at false = refl

-- a bare object that begins so
abbrev bare_with : Object → Option Tree → Start → Object
bare_with d length s = record { place = d.place; name = d.name; ty = s.ty; length = length; constant = d.constant; align = None; align_first = d.align_first; init = s.init; list = s.list }

abbrev bare_typed : Object → Option Tree → CType → Checked Object
bare_typed d length t = small_once (not (is_open t)) d.name d.place t >>= λ _. begun d.name d.place t >>= λ s. Ok (bare_with d length s)

bare_again : (d : Object) (env : Env) → is_array (read_type env.dialect d.ty) ≡ false → (u : Bool) (l : Length) (w : Bool) (s : Start) → new_name d.name d.place (read_type env.dialect d.ty) env ≡ Ok u →
    small_once (not (is_open (declared_type l.number d.ty env))) d.name d.place (declared_type l.number d.ty env) ≡ Ok w → begun d.name d.place (declared_type l.number d.ty env) ≡ Ok s →
    check_object (without_length (bare d)) env ≡ Ok (bare_with d None s)
bare_again d env plain u l w s name size start =
    ap (λ x. x >>= λ _. bare_typed d None (declared_type None d.ty env)) name
    ∙ ap (bare_typed d None) (plain_declared None d.ty env plain ∙ sym (plain_declared l.number d.ty env plain))
    ∙ ap (λ x. x >>= λ _. begun d.name d.place (declared_type l.number d.ty env) >>= λ s. Ok (bare_with d None s)) size
    ∙ ap (λ x. x >>= λ s. Ok (bare_with d None s)) start

bare_back : (d : Object) (env : Env) → is_array (read_type env.dialect d.ty) ≡ false → Whenever (check_object (bare d) env) (IsParameterOf d env)
bare_back d env plain =
    after (λ u. new_name d.name d.place (read_type env.dialect d.ty) env ≡ Ok u) (IsParameterOf d env) (new_name d.name d.place (read_type env.dialect d.ty) env) (λ _. length_of d.length env >>= λ l. bare_typed d l.expression (declared_type l.number d.ty env)) (whenever_is (new_name d.name d.place (read_type env.dialect d.ty) env)) (λ u _ name.
    after (λ _. Unit {0}) (IsParameterOf d env) (length_of d.length env) (λ l. bare_typed d l.expression (declared_type l.number d.ty env)) (anything (length_of d.length env)) (λ l _ _.
    after (λ w. small_once (not (is_open (declared_type l.number d.ty env))) d.name d.place (declared_type l.number d.ty env) ≡ Ok w) (IsParameterOf d env) (small_once (not (is_open (declared_type l.number d.ty env))) d.name d.place (declared_type l.number d.ty env)) (λ _. begun d.name d.place (declared_type l.number d.ty env) >>= λ s. Ok (bare_with d l.expression s)) (whenever_is (small_once (not (is_open (declared_type l.number d.ty env))) d.name d.place (declared_type l.number d.ty env))) (λ w _ size.
    after (λ s. (begun d.name d.place (declared_type l.number d.ty env) ≡ Ok s) × (s ≡ record { init = None; list = None; ty = declared_type l.number d.ty env })) (IsParameterOf d env) (begun d.name d.place (declared_type l.number d.ty env)) (λ s. Ok (bare_with d l.expression s)) (paired (begun d.name d.place (declared_type l.number d.ty env)) (λ s. s ≡ record { init = None; list = None; ty = declared_type l.number d.ty env }) (begun_is d.name d.place (declared_type l.number d.ty env))) (λ s _ h.
    (bare_again d env plain u l w s name size h.0, (ap (λ r. is_bare (bare_with d l.expression r)) h.1, (ap (λ r. r.ty) h.1 ∙ plain_declared l.number d.ty env plain, refl)))))))

-- ---- functions

parameter_back : (d : Object) (env : Env) → is_array d.ty ≡ false → Whenever (check_parameter d env) (λ v. (check_parameter v env ≡ Ok v) × ((v.ty ≡ read_type env.dialect d.ty) × (v.name ≡ d.name)))
parameter_back d env plain = at (is_bare d) refl
  where
    plain_read : (t : CType) → is_array t ≡ false → is_array (read_type env.dialect t) ≡ false
    plain_read (CType.Array e n c) h = absurd (cc)
    plain_read t h = refl

    -- the parameter without its length, which its check gives back
    given : (v : Object) → IsParameterOf d env v → check_parameter (without_length v) env ≡ Ok (without_length v)
    given v h =
        ap (λ b. if b then (check_object (without_length v) env >>= λ v. Ok (without_length v)) else refuse 11 v.place (short v.name)) h.1.0
        ∙ ap (λ x. x >>= λ v. Ok (without_length v)) (subst (λ x. Whenever x (Back (λ v. check_object v env))) h.0 (object_back (without_length (bare d)) env))

    passed : Whenever (check_object (bare d) env >>= λ v. Ok (without_length v)) (λ v. (check_parameter v env ≡ Ok v) × ((v.ty ≡ read_type env.dialect d.ty) × (v.name ≡ d.name)))
    passed = after (IsParameterOf d env) (λ v. (check_parameter v env ≡ Ok v) × ((v.ty ≡ read_type env.dialect d.ty) × (v.name ≡ d.name))) (check_object (bare d) env) (λ v. Ok (without_length v)) (bare_back d env (plain_read d.ty plain)) (λ v _ h. (given v h, h.1.1))

    at : (b : Bool) → is_bare d ≡ b → Whenever (if b then (check_object d env >>= λ v. Ok (without_length v)) else refuse 11 d.place (short d.name)) (λ v. (check_parameter v env ≡ Ok v) × ((v.ty ≡ read_type env.dialect d.ty) × (v.name ≡ d.name)))
    at true e = subst (λ o. Whenever (check_object o env >>= λ v. Ok (without_length v)) (λ v. (check_parameter v env ≡ Ok v) × ((v.ty ≡ read_type env.dialect d.ty) × (v.name ≡ d.name)))) (sym (is_bare_object d e)) passed
    at false e = tt

-- parameters with their types have the types that calls see
abbrev pub AreHeaded : Dialect → List Object → List Object → Type 0
AreHeaded dialect [] [] = Unit {0}
AreHeaded dialect (d ∷ ds) (v ∷ vs) = (v.ty ≡ read_type dialect d.ty) × AreHeaded dialect ds vs
AreHeaded dialect _ _ = ⊥

parameters_back : (all : List Object) (env : Env) → PlainParameters all → Whenever (check_parameters all env) (λ vs. (check_parameters vs env ≡ Ok vs) × AreHeaded env.dialect all vs)
parameters_back [] env plain = (refl, tt)
parameters_back (d ∷ rest) env plain =
    after (λ v. (check_parameter v env ≡ Ok v) × ((v.ty ≡ read_type env.dialect d.ty) × (v.name ≡ d.name))) (λ vs. (check_parameters vs env ≡ Ok vs) × AreHeaded env.dialect (d ∷ rest) vs) (check_parameter d env) _ (parameter_back d env plain.0.1) (λ v _ e.
    after (λ vs. (check_parameters vs (beyond_object v env) ≡ Ok vs) × AreHeaded env.dialect rest vs) (λ vs. (check_parameters vs env ≡ Ok vs) × AreHeaded env.dialect (d ∷ rest) vs) (check_parameters rest (beyond_object v env)) _ (parameters_back rest (beyond_object v env) plain.1) (λ vs _ h.
    (rw (e.0, h.0) refl, (e.1.0, h.1))))

-- what is known of a function that has its types
abbrev pub IsFunctionOf : Definition → Env → Definition → Type 0
IsFunctionOf f env g = (check_function g env ≡ Ok g) × ((g.name ≡ f.name) × ((g.result ≡ read_type env.dialect f.result) × AreHeaded env.dialect f.params g.params))

pub function_back : (f : Definition) (env : Env) → PlainFunction f → Whenever (check_function f env) (IsFunctionOf f env)
function_back f env plain =
    after (λ u. function_name f.name f.place (read_type env.dialect f.result) env ≡ Ok u) (IsFunctionOf f env) (function_name f.name f.place (read_type env.dialect f.result) env) _ (whenever_is (function_name f.name f.place (read_type env.dialect f.result) env)) (λ u _ name.
    after (λ ps. (check_parameters ps (in_function f env) ≡ Ok ps) × AreHeaded env.dialect f.params ps) (IsFunctionOf f env) (check_parameters f.params (in_function f env)) _ (parameters_back f.params (in_function f env) plain.1.0) (λ ps _ h.
    after (Back (λ b. check_statements b (around (with_objects ps (in_function f env)) (read_type env.dialect f.result) false))) (IsFunctionOf f env) (check_statements f.body (around (with_objects ps (in_function f env)) (read_type env.dialect f.result) false)) _ (statements_back f.body (around (with_objects ps (in_function f env)) (read_type env.dialect f.result) false)) (λ b _ k.
    (again u ps b name h.0 k, (refl, (refl, h.1))))))
  where
    whole : CType → List Object → Statements → Definition
    whole t ps b = record { place = f.place; name = f.name; result = t; params = ps; is_static = f.is_static; is_inline = f.is_inline; body = b }

    typed : List Object → Statements → CType → Checked Definition
    typed ps b t =
        function_name f.name f.place t env >>= λ _.
        check_parameters ps (in_function f env) >>= λ qs.
        check_statements b (around (with_objects qs (in_function f env)) t false) >>= λ c.
        Ok (whole t qs c)

    again : (u : Bool) (ps : List Object) (b : Statements) → function_name f.name f.place (read_type env.dialect f.result) env ≡ Ok u → check_parameters ps (in_function f env) ≡ Ok ps →
        check_statements b (around (with_objects ps (in_function f env)) (read_type env.dialect f.result) false) ≡ Ok b →
        check_function (whole (read_type env.dialect f.result) ps b) env ≡ Ok (whole (read_type env.dialect f.result) ps b)
    again u ps b name h k = ap (typed ps b) (read_twice env.dialect f.result) ∙ rw (name, h, k) refl

-- what the order rule passes is the function
in_order_is : (dialect : Dialect) (c : Callees) (g : Definition) → Whenever (in_order dialect c g) (λ h. h ≡ g)
in_order_is X86 c g = at (order_of g c)
  where
    at : (r : Option Refusal) → Whenever (unless_broken r g) (λ h. h ≡ g)
    at None = refl
    at (Some r) = tt
in_order_is Neon c g = refl

-- what is known of a function that keeps the order rule
abbrev pub IsOrdered : Definition → Env → Before → Definition → Type 0
IsOrdered f env callees g = (function_checked g env callees ≡ Ok g) × ((g.name ≡ f.name) × ((g.result ≡ read_type env.dialect f.result) × AreHeaded env.dialect f.params g.params))

pub function_checked_back : (f : Definition) (env : Env) (callees : Before) → PlainFunction f → Whenever (function_checked f env callees) (IsOrdered f env callees)
function_checked_back f env callees plain =
    after (IsFunctionOf f env) (IsOrdered f env callees) (check_function f env) (λ g. in_order env.dialect (calls callees env) g) (function_back f env plain) (λ g _ h.
    weaker (λ w. (in_order env.dialect (calls callees env) g ≡ Ok w) × (w ≡ g)) (IsOrdered f env callees) (in_order env.dialect (calls callees env) g)
    (λ w k. subst (IsOrdered f env callees) (sym k.1) (ap (λ x. x >>= λ g. in_order env.dialect (calls callees env) g) h.0 ∙ k.0 ∙ ap (λ o. Ok o) k.1, h.1))
    (paired (in_order env.dialect (calls callees env) g) (λ w. w ≡ g) (in_order_is env.dialect (calls callees env) g)))
