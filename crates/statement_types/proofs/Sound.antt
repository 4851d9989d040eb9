-- What passes the check is typed by the rules.
use Rattle.std.proofs.Common.{◌≡◌, ◌↔◌, ℕ, Bool, true, false, if◌then◌else◌, List, [], ◌∷◌, Option, Some, None, Ok, Err, refl, subst, codes}
use Rattle.c_text.specs.declared.tokens.Place.{Place}
use Rattle.c_tree.specs.declared.types.CType.{CType}
use Rattle.c_tree.specs.declared.types.CType.TheVariants.{Void, Int, Pointer}
use Rattle.c_tree.specs.Tree.{Tree, Object, Statement, Statements, Optional, Declare, Run, Block, If, While, DoWhile, For, Break, Continue, Return, Empty, Absent, Present, NoStatements, Then}
use Rattle.c_tree.specs.Nodes.{node_type, node_place}
use Rattle.type_rules.specs.Types.{is_scalar, same_type, assigned}
use Rattle.type_rules.specs.Rules as r
use Rattle.type_rules.specs.Rules.{IsScalar, Assigned}
use Rattle.scopes.specs.Scopes.{Env, with_object}
use Rattle.c_tree.specs.Marks.{mark}
use Rattle.expression_types.specs.Check.{◌>>=◌, Checked, refuse, check}
use Rattle.expression_types.specs.Typed.{Typed}
use Rattle.object_types.specs.Objects.{known, check_object}
use Rattle.object_types.specs.Typed.{TypedObject}
use Rattle.statement_types.specs.Statements.{Around, inside, looped, beyond, check_objects, condition, maybe_condition, maybe_expression, returned_value, returned, check_statement, check_optional, check_statements}
use Rattle.statement_types.specs.Typed as t
use Rattle.statement_types.specs.Typed.{TypedObjects, TypedCondition, OptionalCondition, OptionalExpression, Returned, behind_first, TypedStatement, TypedOptional, TypedStatements}

-- an answer that comes after another
record After {A B : Type 0} (r : Checked A) (f : A → Checked B) (y : B) : Type 0 where
  first : A
  gives : r ≡ Ok first
  goes : f first ≡ Ok y

after : {A B : Type 0} (r : Checked A) (f : A → Checked B) (y : B) → (r >>= f) ≡ Ok y → After r f y
after (Ok x) f y e = record { first = x; gives = refl; goes = e }
after (Err r) f y e = cc

abbrev ok : {A : Type 0} → A → Checked A
ok x = Ok x

becomes : {A : Type 0} (P : A → Type 0) (x v : A) → ok x ≡ ok v → P x → P v
becomes P x v e = let h : x ≡ v = cc in subst P h

-- what passes a test
tested : {A : Type 0} (b : Bool) (p : Place) (word : List ℕ) (x v : A) → (if b then Ok x else refuse 11 p word) ≡ Ok v → (b ≡ true) × (x ≡ v)
tested true p word x v h = let e : x ≡ v = cc in (refl, e)
tested false p word x v h = cc

scalar-says : (u : CType) → is_scalar u ≡ true → IsScalar u
scalar-says (Int s) h = tt
scalar-says (Pointer e c) h = tt
scalar-says _ h = cc

void-says : (u : CType) → same_type u Void ≡ true → u ≡ Void
void-says Void h = refl
void-says _ h = cc

-- nothing is assigned to an object of type `void`
no-void : (a v : Tree) (u : CType) → Assigned a u v → u ≡ Void → ⊥
no-void a v u (r.to_integer s x e) h = cc
no-void a v u (r.null_pointer s x c e z) h = cc
no-void a v u (r.to_pointer x f c d e l m) h = cc
no-void a v u (r.to_vector w x e) h = subst r.IsVector h x

value-says : (p : Place) (u : CType) (o v : Option Tree) → returned_value p u o ≡ Ok v → (w : Tree) × (o ≡ Some w) × (Some w ≡ v)
value-says p u (Some w) v h = let e : Some w ≡ v = cc in (w, refl, e)
value-says p u None v h = cc

module _ (passes : (env : Env) (u v : Tree) → (check u env ≡ Ok v) ↔ Typed env u v) (given : (u : CType) (a v : Tree) → (assigned u a ≡ Some v) ↔ Assigned a u v)
    (declares : (env : Env) (d v : Object) → (check_object d env ≡ Ok v) ↔ TypedObject env d v) where
  -- the objects behind the first one, each in its own scope, are typed where they pass
  object-says : (env : Env) (d : Object) (rest vs : List Object) → ((behind : Env) (more : List Object) → check_objects rest behind ≡ Ok more → TypedObjects behind rest more) →
      check_objects (d ∷ rest) env ≡ Ok vs → TypedObjects env (d ∷ rest) vs
  object-says env d rest vs others h =
      let x = after (check_object d env) _ vs h in
      let v = x.first in
      let y = after (check_objects rest (with_object v.name (known v.constant v.ty) env)) _ vs x.goes in
      becomes (TypedObjects env (d ∷ rest)) (v ∷ y.first) vs y.goes (t.one_object env d v rest y.first ((declares env d v).0 x.gives) (others (with_object v.name (known v.constant v.ty) env) y.first y.gives))

  pub objects-say : (env : Env) (all vs : List Object) → check_objects all env ≡ Ok vs → TypedObjects env all vs
  objects-say env [] vs h = becomes (TypedObjects env []) [] vs h (t.no_object env)
  objects-say env (d ∷ rest) vs h = object-says env d rest vs (λ behind more k. objects-say behind rest more k) h

  condition-says : (env : Env) (e v : Tree) → condition e env ≡ Ok v → TypedCondition env e v
  condition-says env e v h =
      let x = after (check e env) _ v h in
      let y = tested (is_scalar (node_type x.first)) (node_place x.first) (mark x.first) x.first v x.goes in
      subst (TypedCondition env e) y.1 (t.condition e x.first ((passes env e x.first).0 x.gives) (scalar-says (node_type x.first) y.0))

  maybe_condition-says : (env : Env) (e v : Option Tree) → maybe_condition e env ≡ Ok v → OptionalCondition env e v
  maybe_condition-says env None v h = becomes (OptionalCondition env None) None v h t.no_condition
  maybe_condition-says env (Some e) v h =
      let x = after (condition e env) _ v h in
      becomes (OptionalCondition env (Some e)) (Some x.first) v x.goes (t.one_condition e x.first (condition-says env e x.first x.gives))

  maybe_expression-says : (env : Env) (e v : Option Tree) → maybe_expression e env ≡ Ok v → OptionalExpression env e v
  maybe_expression-says env None v h = becomes (OptionalExpression env None) None v h t.no_expression
  maybe_expression-says env (Some e) v h =
      let x = after (check e env) _ v h in
      becomes (OptionalExpression env (Some e)) (Some x.first) v x.goes (t.one_expression e x.first ((passes env e x.first).0 x.gives))

  returned-says : (p : Place) (u : CType) (env : Env) (e v : Option Tree) → returned p u e env ≡ Ok v → Returned env u e v
  returned-says p u env None v h =
      let x = tested (same_type u Void) p (codes "return") None v h in
      subst (Returned env u None) x.1 (t.nothing (void-says u x.0))
  returned-says p u env (Some e) v h =
      let x = after (check e env) _ v h in
      let y = value-says p u (assigned u x.first) v x.goes in
      let z = (given u x.first y.0).0 y.1 in
      subst (Returned env u (Some e)) y.2 (t.value e x.first y.0 (no-void x.first y.0 u z) ((passes env e x.first).0 x.gives) z)

  mutual
    pub statement-says : (c : Around) (s v : Statement) → check_statement s c ≡ Ok v → TypedStatement c s v
    statement-says c (Declare all) v h =
        let x = after (check_objects all c.env) _ v h in
        becomes (TypedStatement c (Declare all)) (Declare x.first) v x.goes (t.declaration c all x.first (objects-say c.env all x.first x.gives))
    statement-says c (Run e) v h =
        let x = after (check e c.env) _ v h in
        becomes (TypedStatement c (Run e)) (Run x.first) v x.goes (t.expression c e x.first ((passes c.env e x.first).0 x.gives))
    statement-says c (Block all) v h =
        let x = after (check_statements all (inside c)) _ v h in
        becomes (TypedStatement c (Block all)) (Block x.first) v x.goes (t.block c all x.first (statements-say (inside c) all x.first x.gives))
    statement-says c (If e s o) v h =
        let x = after (condition e c.env) _ v h in
        let y = after (check_statement s (inside c)) _ v x.goes in
        let z = after (check_optional o (inside c)) _ v y.goes in
        becomes (TypedStatement c (If e s o)) (If x.first y.first z.first) v z.goes
        (t.selection c e x.first s y.first o z.first (condition-says c.env e x.first x.gives) (statement-says (inside c) s y.first y.gives) (optional-says (inside c) o z.first z.gives))
    statement-says c (While e s) v h =
        let x = after (condition e c.env) _ v h in
        let y = after (check_statement s (looped c)) _ v x.goes in
        becomes (TypedStatement c (While e s)) (While x.first y.first) v y.goes (t.while_loop c e x.first s y.first (condition-says c.env e x.first x.gives) (statement-says (looped c) s y.first y.gives))
    statement-says c (DoWhile s e) v h =
        let x = after (check_statement s (looped c)) _ v h in
        let y = after (condition e c.env) _ v x.goes in
        becomes (TypedStatement c (DoWhile s e)) (DoWhile x.first y.first) v y.goes (t.do_loop c s x.first e y.first (statement-says (looped c) s x.first x.gives) (condition-says c.env e y.first y.gives))
    statement-says c (For i e n s) v h =
        let w = after (check_optional i (inside c)) _ v h in
        let d = behind_first w.first c in
        let x = after (maybe_condition e d.env) _ v w.goes in
        let y = after (maybe_expression n d.env) _ v x.goes in
        let z = after (check_statement s (looped d)) _ v y.goes in
        becomes (TypedStatement c (For i e n s)) (For w.first x.first y.first z.first) v z.goes
        (t.for_loop c i w.first e x.first n y.first s z.first (optional-says (inside c) i w.first w.gives) (maybe_condition-says d.env e x.first x.gives) (maybe_expression-says d.env n y.first y.gives) (statement-says (looped d) s z.first z.gives))
    statement-says c (Break p) v h = let x = tested c.in_loop p (codes "break") (Break p) v h in subst (TypedStatement c (Break p)) x.1 (t.break_statement c p x.0)
    statement-says c (Continue p) v h = let x = tested c.in_loop p (codes "continue") (Continue p) v h in subst (TypedStatement c (Continue p)) x.1 (t.continue_statement c p x.0)
    statement-says c (Return p e) v h =
        let x = after (returned p c.result e c.env) _ v h in
        becomes (TypedStatement c (Return p e)) (Return p x.first) v x.goes (t.return_statement c p e x.first (returned-says p c.result c.env e x.first x.gives))
    statement-says c Empty v h = becomes (TypedStatement c Empty) Empty v h (t.null_statement c)

    pub optional-says : (c : Around) (s v : Optional) → check_optional s c ≡ Ok v → TypedOptional c s v
    optional-says c Absent v h = becomes (TypedOptional c Absent) Absent v h (t.absent c)
    optional-says c (Present s) v h =
        let x = after (check_statement s c) _ v h in
        becomes (TypedOptional c (Present s)) (Present x.first) v x.goes (t.present c s x.first (statement-says c s x.first x.gives))

    pub statements-say : (c : Around) (s v : Statements) → check_statements s c ≡ Ok v → TypedStatements c s v
    statements-say c NoStatements v h = becomes (TypedStatements c NoStatements) NoStatements v h (t.no_more c)
    statements-say c (Then s rest) v h =
        let x = after (check_statement s c) _ v h in
        let y = after (check_statements rest (record c { env = beyond x.first c.env })) _ v x.goes in
        becomes (TypedStatements c (Then s rest)) (Then x.first y.first) v y.goes (t.one_more c s x.first rest y.first (statement-says c s x.first x.gives) (statements-say (record c { env = beyond x.first c.env }) rest y.first y.gives))
