-- No address is taken in what is moved, nor in what is written for it.
use Rattle.std.proofs.Common.{◌≡◌, ℕ, zero, suc, List, [], ◌∷◌, Bool, true, false, not, ◌&&◌, ◌||◌, Option, Some, None, refl, ◌∙◌, if◌then◌else◌}
use Rattle.std.specs.Prelude.{option_map, get_or}
use Rattle.std.specs.Str.{bytes_eq}
use Rattle.lane_core.specs.declared.table.ParamKind.{ParamKind}
use Rattle.lane_core.specs.declared.table.ParamKind.TheVariants as kind
use Rattle.lane_core.specs.Table.{params_of}
use Rattle.c_text.specs.declared.tokens.Place.{Place}
use Rattle.c_tree.specs.declared.types.CType.{CType}
use Rattle.c_tree.specs.Nodes.{node_place}
use Rattle.c_tree.specs.Tree.{Tree, Kind, Trees, Node, Const, Name, Unary, Step, Binary, AndThen, OrElse, Choice, Assign, Comma, Cast, Call, SizeOfType, SizeOfName, NoTrees, More}
use Rattle.c_tree.specs.Tree.{Object, Statement, Statements, Optional, Declare, Run, Block, If, While, DoWhile, For, Break, Continue, Return, Empty, Absent, Present, NoStatements, Then}
use Rattle.c_memory.specs.Matching.{written_type}
use Rattle.c_memory.specs.Meaning.{type_of}
use Rattle.const_imm.specs.Sizes.{size_of}
use Rattle.type_rules.specs.Types.{same_type}
use Rattle.address_taken.specs.Addressed.{takes, takes_in, takes_in_all, takes_optional, takes_declared, takes_statement, takes_maybe, takes_statements, declares, declares_first}
use Rattle.intel_table.specs.declared.IntelOp.{IntelOp}
use Rattle.intel_table.specs.Rows.{find_of, signature_of, range_of}
use Rattle.seq_core.specs.Terms.{Sequence}
use Rattle.seq_core.specs.InPlace.{stands_in_place, in_place, TakesNoAddress}
use Rattle.seq_core.specs.Listed.{listed}
use Rattle.written_forms.specs.Seen.{Sees, beginning, declared}
use Rattle.written_forms.specs.Moved as moved
use Rattle.written_forms.specs.Moved.{Plans, operands, immediate_among, helper_name, simple, moved_kind, moved_all, all_stated, row_written, called, size_of_local}
use Rattle.written_forms.specs.Statements.{moved_objects, sees_behind, sees_optional, braced, braced_else, moved_statement, moved_optional, moved_else, moved_statements}
use Rattle.written_forms.specs.Ready.{Setting, Ready, ReadyKind, AreReady}
use Rattle.written_forms.specs.ReadyStatements.{ReadyObjects, ReadyFirst, ReadyCondition, ReadyStep, ReadyResult, ReadyStart, ReadyStatement, ReadyOptional, ReadyStatements}
use Rattle.written_forms.proofs.StatedOperands.{stated_takes}

pub or_false : {a b : Bool} → a ≡ false → b ≡ false → (a || b) ≡ false
or_false h i = rw (h, i) refl

and_false : (a : Bool) {b : Bool} → b ≡ false → (a && b) ≡ false
and_false true h = h
and_false false h = refl

-- the two laws that are asked of what stands in place
abbrev pub AddressLaw : Type 0
AddressLaw = (place : Place) (params : List Tree) (q : Sequence) → TakesNoAddress place params q

module _ (law : AddressLaw) (w : Setting) where
  -- ---- expressions

  mutual
    pub taken : (sees : Sees) (x : List ℕ) (e : Tree) → Ready w sees e → takes x e ≡ false
    taken sees x (Node p t k) h = kind_taken sees x t k h

    kind_taken : (sees : Sees) (x : List ℕ) (t : CType) (k : Kind) → ReadyKind w sees t k → takes_in x k ≡ false
    kind_taken sees x t (Const m) h = refl
    kind_taken sees x t (Name y) h = refl
    kind_taken sees x t (Unary o a) h = taken sees x a h.1
    kind_taken sees x t (Step (Node q u (Name y)) up before) h = refl
    kind_taken sees x t (Step (Node q u _) up before) h = absurd h.1
    kind_taken sees x t (Binary o a b) h = or_false (taken sees x a h.1) (taken sees x b h.2)
    kind_taken sees x t (AndThen a b) h = or_false (taken sees x a h.3) (taken sees x b h.4)
    kind_taken sees x t (OrElse a b) h = or_false (taken sees x a h.3) (taken sees x b h.4)
    kind_taken sees x t (Choice c a b) h = or_false (taken sees x c h.4) (or_false (taken sees x a h.5) (taken sees x b h.6))
    kind_taken sees x t (Assign o (Node q u (Name y)) b) h = taken sees x b h.2
    kind_taken sees x t (Assign o (Node q u _) b) h = absurd h.0
    kind_taken sees x t (Comma all) h = all_taken sees x all h.1
    kind_taken sees x t (Cast CType.Void a true) h = taken sees x a h.1
    kind_taken sees x t (Cast (CType.Int s) a z) h = taken sees x a h.2
    kind_taken sees x t (Call f all) h = all_taken sees x all h.1
    kind_taken sees x t (SizeOfType u) h = refl
    kind_taken sees x t (SizeOfName y) h = refl
    kind_taken sees x t _ h = absurd h

    all_taken : (sees : Sees) (x : List ℕ) (all : Trees) → AreReady w sees all → takes_in_all x all ≡ false
    all_taken sees x NoTrees h = refl
    all_taken sees x (More a rest) h = or_false (taken sees x a h.0) (all_taken sees x rest h.1)

  -- ---- what is written for them

  -- each of these takes none
  abbrev NoneTakes : Trees → Type 0
  NoneTakes NoTrees = Unit {0}
  NoneTakes (More a rest) = ((x : List ℕ) → takes x a ≡ false) × NoneTakes rest

  any_of : (x : List ℕ) (all : Trees) → NoneTakes all → takes_in_all x all ≡ false
  any_of x NoTrees h = refl
  any_of x (More a rest) h = or_false (h.0 x) (any_of x rest h.1)

  one_of : (all : Trees) → NoneTakes all → (x : List ℕ) (n : ℕ) (e : Tree) → takes x e ≡ false → takes x (get_or (listed all) n e) ≡ false
  one_of NoTrees h x n e i = i
  one_of (More a rest) h x zero e i = h.0 x
  one_of (More a rest) h x (suc n) e i = one_of rest h.1 x n e i

  none_stated : (all : Trees) → NoneTakes all → NoneTakes (all_stated all)
  none_stated NoTrees h = tt
  none_stated (More a rest) h = (λ x. stated_takes x a ∙ h.0 x, none_stated rest h.1)

  operands_take : (ks : List ParamKind) (all : Trees) → NoneTakes all → NoneTakes (operands ks all)
  operands_take [] all h = tt
  operands_take (kind.Immediate ∷ ks) NoTrees h = tt
  operands_take (kind.Immediate ∷ ks) (More a rest) h = operands_take ks rest h.1
  operands_take (k ∷ ks) NoTrees h = tt
  operands_take (k ∷ ks) (More a rest) h = (h.0, operands_take ks rest h.1)

  cast_takes : (p : Place) (t s : CType) (a : Tree) (z : Bool) (x : List ℕ) → takes x a ≡ false → takes x (moved.cast p t s a z) ≡ false
  cast_takes p t s a true x h = h
  cast_takes p t s a false x h = at (same_type s t)
    where
      at : (v : Bool) → takes x (if v then a else Node (node_place a) t (Cast t a false)) ≡ false
      at true = h
      at false = h

  size_takes : (p : Place) (o : Option ℕ) (x : List ℕ) → takes x (moved.size p o) ≡ false
  size_takes p None x = refl
  size_takes p (Some n) x = refl

  row_takes : (p : Place) (t : CType) (name : List ℕ) (o : Option Sequence) (flags : List Bool) (args : Trees) (x : List ℕ) → NoneTakes args → takes x (row_written p t name o flags args) ≡ false
  row_takes p t name None flags args x h = any_of x args h
  row_takes p t name (Some q) flags args x h = at (stands_in_place flags q)
    where
      at : (v : Bool) → takes x (if v then in_place p (listed (all_stated args)) q.result else Node p t (Call name args)) ≡ false
      at true = law p (listed (all_stated args)) q (one_of (all_stated args) (none_stated args h)) x
      at false = any_of x args h

  called_takes : (sees : Sees) (p : Place) (t : CType) (f : List ℕ) (o : Option IntelOp) (all args : Trees) (x : List ℕ) → NoneTakes args
      → takes x (called w.plans sees p t f o all args) ≡ false
  called_takes sees p t f None all args x h = any_of x args h
  called_takes sees p t f (Some op) all args x h =
      row_takes p t (helper_name f (range_of op) (immediate_among (params_of (signature_of op)) all)) (w.plans f (immediate_among (params_of (signature_of op)) all))
      (simple sees (operands (params_of (signature_of op)) all)) (operands (params_of (signature_of op)) args) x (operands_take (params_of (signature_of op)) args h)

  mutual
    pub written : (sees : Sees) (x : List ℕ) (e : Tree) → Ready w sees e → takes x (moved.moved w.plans sees e) ≡ false
    written sees x (Node p t k) h = kind_written sees x p t k h

    kind_written : (sees : Sees) (x : List ℕ) (p : Place) (t : CType) (k : Kind) → ReadyKind w sees t k → takes x (moved_kind w.plans sees p (written_type t) k) ≡ false
    kind_written sees x p t (Const m) h = refl
    kind_written sees x p t (Name y) h = refl
    kind_written sees x p t (Unary o a) h = written sees x a h.1
    kind_written sees x p t (Step (Node q u (Name y)) up before) h = refl
    kind_written sees x p t (Step (Node q u _) up before) h = absurd h.1
    kind_written sees x p t (Binary o a b) h = or_false (written sees x a h.1) (written sees x b h.2)
    kind_written sees x p t (AndThen a b) h = or_false (written sees x a h.3) (written sees x b h.4)
    kind_written sees x p t (OrElse a b) h = or_false (written sees x a h.3) (written sees x b h.4)
    kind_written sees x p t (Choice c a b) h = or_false (written sees x c h.4) (or_false (written sees x a h.5) (written sees x b h.6))
    kind_written sees x p t (Assign o (Node q u (Name y)) b) h = written sees x b h.2
    kind_written sees x p t (Assign o (Node q u _) b) h = absurd h.0
    kind_written sees x p t (Comma all) h = any_of x (moved_all w.plans sees all) (all_written sees all h.1)
    kind_written sees x p t (Cast CType.Void a true) h = written sees x a h.1
    kind_written sees x p t (Cast (CType.Int s) a z) h = cast_takes p (written_type (CType.Int s)) (written_type (type_of a)) (moved.moved w.plans sees a) z x (written sees x a h.2)
    kind_written sees x p t (Call f all) h = called_takes sees p (written_type t) f (find_of f) all (moved_all w.plans sees all) x (all_written sees all h.1)
    kind_written sees x p t (SizeOfType u) h = size_takes p (size_of u) x
    kind_written sees x p t (SizeOfName y) h = size_takes p (size_of_local (sees y)) x
    kind_written sees x p t _ h = absurd h

    all_written : (sees : Sees) (all : Trees) → AreReady w sees all → NoneTakes (moved_all w.plans sees all)
    all_written sees NoTrees h = tt
    all_written sees (More a rest) h = ((λ x. written sees x a h.0), all_written sees rest h.1)

  -- ---- statements

  pub first_taken : (sees : Sees) (t : CType) (x : List ℕ) (o : Option Tree) → ReadyFirst w sees t o → takes_optional x o ≡ false
  first_taken sees t x None h = refl
  first_taken sees t x (Some e) h = taken sees x e h.1

  pub declared_taken : (sees : Sees) (x : List ℕ) (all : List Object) → ReadyObjects w sees all → takes_declared x all ≡ false
  declared_taken sees x [] h = refl
  declared_taken sees x (d ∷ rest) h =
      and_false (not (bytes_eq x d.name)) (or_false (first_taken (beginning d sees) d.ty x d.init h.0.init) (declared_taken (declared d sees) x rest h.1))

  pub start_taken : (sees : Sees) (x : List ℕ) (i : Optional) → ReadyStart w sees i → takes_maybe x i ≡ false
  start_taken sees x Absent h = refl
  start_taken sees x (Present (Declare all)) h = declared_taken sees x all h
  start_taken sees x (Present (Run e)) h = taken sees x e h
  start_taken sees x (Present _) h = absurd h

  pub condition_taken : (sees : Sees) (x : List ℕ) (o : Option Tree) → ReadyCondition w sees o → takes_optional x o ≡ false
  condition_taken sees x None h = refl
  condition_taken sees x (Some e) h = taken sees x e h.1

  pub step_taken : (sees : Sees) (x : List ℕ) (o : Option Tree) → ReadyStep w sees o → takes_optional x o ≡ false
  step_taken sees x None h = refl
  step_taken sees x (Some e) h = taken sees x e h

  result_taken : (r : CType) (sees : Sees) (x : List ℕ) (o : Option Tree) → ReadyResult w sees r o → takes_optional x o ≡ false
  result_taken r sees x None h = refl
  result_taken r sees x (Some e) h = taken sees x e h.1

  mutual
    pub statement_taken : (r : CType) (sees : Sees) (x : List ℕ) (s : Statement) → ReadyStatement w r sees s → takes_statement x s ≡ false
    statement_taken r sees x (Declare all) h = declared_taken sees x all h
    statement_taken r sees x (Run e) h = taken sees x e h
    statement_taken r sees x (Block all) h = statements_taken r sees x all h
    statement_taken r sees x (If e s o) h = or_false (taken sees x e h.1) (or_false (statement_taken r sees x s h.2) (other_taken r sees x o h.3))
    statement_taken r sees x (While e s) h = or_false (taken sees x e h.1) (statement_taken r sees x s h.2)
    statement_taken r sees x (DoWhile s e) h = or_false (statement_taken r sees x s h.2) (taken sees x e h.1)
    statement_taken r sees x (For i e n s) h =
        or_false (start_taken sees x i h.0) (and_false (not (declares_first x i))
        (or_false (condition_taken (sees_optional i sees) x e h.1) (or_false (step_taken (sees_optional i sees) x n h.2) (statement_taken r (sees_optional i sees) x s h.3))))
    statement_taken r sees x (Break p) h = refl
    statement_taken r sees x (Continue p) h = refl
    statement_taken r sees x (Return p e) h = result_taken r sees x e h
    statement_taken r sees x Empty h = refl

    other_taken : (r : CType) (sees : Sees) (x : List ℕ) (o : Optional) → ReadyOptional w r sees o → takes_maybe x o ≡ false
    other_taken r sees x Absent h = refl
    other_taken r sees x (Present s) h = statement_taken r sees x s h

    pub statements_taken : (r : CType) (sees : Sees) (x : List ℕ) (all : Statements) → ReadyStatements w r sees all → takes_statements x all ≡ false
    statements_taken r sees x NoStatements h = refl
    statements_taken r sees x (Then s rest) h =
        or_false (statement_taken r sees x s h.0) (and_false (not (declares x s)) (statements_taken r (sees_behind s sees) x rest h.1))

  -- ---- what is written for them

  pub braced_takes : (x : List ℕ) (s : Statement) → takes_statement x s ≡ false → takes_statement x (braced s) ≡ false
  braced_takes x (Block all) h = h
  braced_takes x s h = or_false h (and_false (not (declares x s)) refl)

  other_takes : (x : List ℕ) (s : Statement) → takes_statement x s ≡ false → takes_statement x (braced_else s) ≡ false
  other_takes x (If e s o) h = h
  other_takes x s h = braced_takes x s h

  pub first_written : (sees : Sees) (t : CType) (x : List ℕ) (o : Option Tree) → ReadyFirst w sees t o → takes_optional x (option_map (moved.moved w.plans sees) o) ≡ false
  first_written sees t x None h = refl
  first_written sees t x (Some e) h = written sees x e h.1

  pub declared_written : (sees : Sees) (x : List ℕ) (all : List Object) → ReadyObjects w sees all → takes_declared x (moved_objects w.plans sees all) ≡ false
  declared_written sees x [] h = refl
  declared_written sees x (d ∷ rest) h =
      and_false (not (bytes_eq x d.name)) (or_false (first_written (beginning d sees) d.ty x d.init h.0.init) (declared_written (declared d sees) x rest h.1))

  pub start_written : (sees : Sees) (x : List ℕ) (i : Optional) → ReadyStart w sees i → takes_maybe x (moved_optional w.plans sees i) ≡ false
  start_written sees x Absent h = refl
  start_written sees x (Present (Declare all)) h = declared_written sees x all h
  start_written sees x (Present (Run e)) h = written sees x e h
  start_written sees x (Present _) h = absurd h

  pub condition_written : (sees : Sees) (x : List ℕ) (o : Option Tree) → ReadyCondition w sees o → takes_optional x (option_map (moved.moved w.plans sees) o) ≡ false
  condition_written sees x None h = refl
  condition_written sees x (Some e) h = written sees x e h.1

  pub step_written : (sees : Sees) (x : List ℕ) (o : Option Tree) → ReadyStep w sees o → takes_optional x (option_map (moved.moved w.plans sees) o) ≡ false
  step_written sees x None h = refl
  step_written sees x (Some e) h = written sees x e h

  result_written : (r : CType) (sees : Sees) (x : List ℕ) (o : Option Tree) → ReadyResult w sees r o → takes_optional x (option_map (moved.moved w.plans sees) o) ≡ false
  result_written r sees x None h = refl
  result_written r sees x (Some e) h = written sees x e h.1

  mutual
    pub statement_written : (r : CType) (sees : Sees) (x : List ℕ) (s : Statement) → ReadyStatement w r sees s → takes_statement x (moved_statement w.plans sees s) ≡ false
    statement_written r sees x (Declare all) h = declared_written sees x all h
    statement_written r sees x (Run e) h = written sees x e h
    statement_written r sees x (Block all) h = statements_written r sees x all h
    statement_written r sees x (If e s o) h =
        or_false (written sees x e h.1) (or_false (braced_takes x (moved_statement w.plans sees s) (statement_written r sees x s h.2)) (other_written r sees x o h.3))
    statement_written r sees x (While e s) h = or_false (written sees x e h.1) (braced_takes x (moved_statement w.plans sees s) (statement_written r sees x s h.2))
    statement_written r sees x (DoWhile s e) h = or_false (braced_takes x (moved_statement w.plans sees s) (statement_written r sees x s h.2)) (written sees x e h.1)
    statement_written r sees x (For i e n s) h =
        or_false (start_written sees x i h.0) (and_false (not (declares_first x (moved_optional w.plans sees i)))
        (or_false (condition_written (sees_optional i sees) x e h.1) (or_false (step_written (sees_optional i sees) x n h.2)
        (braced_takes x (moved_statement w.plans (sees_optional i sees) s) (statement_written r (sees_optional i sees) x s h.3)))))
    statement_written r sees x (Break p) h = refl
    statement_written r sees x (Continue p) h = refl
    statement_written r sees x (Return p e) h = result_written r sees x e h
    statement_written r sees x Empty h = refl

    other_written : (r : CType) (sees : Sees) (x : List ℕ) (o : Optional) → ReadyOptional w r sees o → takes_maybe x (moved_else w.plans sees o) ≡ false
    other_written r sees x Absent h = refl
    other_written r sees x (Present s) h = other_takes x (moved_statement w.plans sees s) (statement_written r sees x s h)

    pub statements_written : (r : CType) (sees : Sees) (x : List ℕ) (all : Statements) → ReadyStatements w r sees all → takes_statements x (moved_statements w.plans sees all) ≡ false
    statements_written r sees x NoStatements h = refl
    statements_written r sees x (Then s rest) h =
        or_false (statement_written r sees x s h.0) (and_false (not (declares x (moved_statement w.plans sees s))) (statements_written r (sees_behind s sees) x rest h.1))
