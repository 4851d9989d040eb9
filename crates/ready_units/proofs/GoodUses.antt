-- The functions of rows that a ready unit calls: each is for a row that is found, under the name that it has.
use Rattle.std.proofs.Common.{◌≡◌, refl, sym, subst, arith, ℕ, ◌<◌, ◌^◌, Bool, true, false, List, [], ◌∷◌, ◌++◌, Option, Some, None, pos, if◌then◌else◌}
use Rattle.std.proofs.lemmas.Int.{ints}
use Rattle.lane_core.specs.declared.number.IntType.{IntType}
use Rattle.lane_core.specs.declared.number.IntType.TheVariants as int
use Rattle.lane_core.specs.declared.number.Num.{Num}
use Rattle.lane_core.specs.declared.table.ImmRange.TheVariants.{NoImmediate}
use Rattle.lane_core.specs.declared.table.ParamKind.{ParamKind}
use Rattle.lane_core.specs.declared.table.ParamKind.TheVariants as kind
use Rattle.lane_core.specs.IntRange.{InRange}
use Rattle.lane_core.specs.Table.{params_of}
use Rattle.const_imm.specs.Constant.{value_of}
use Rattle.c_tree.specs.declared.types.CType.{CType}
use Rattle.c_tree.specs.Tree.{Tree, Kind, Trees, Node, Const, Name, Unary, Step, Binary, AndThen, OrElse, Choice, Assign, Comma, Cast, Call, SizeOfType, SizeOfName, NoTrees, More}
use Rattle.c_tree.specs.Tree.{Object, Statement, Statements, Optional, Declare, Run, Block, If, While, DoWhile, For, Break, Continue, Return, Empty, Absent, Present, NoStatements, Then, External, Function, Table}
use Rattle.intel_table.specs.declared.IntelOp.{IntelOp}
use Rattle.intel_table.specs.Rows.{find_of, form_of, signature_of, range_of}
use Rattle.intel_forms.specs.declared.forms.Form.{Form}
use Rattle.intel_forms.specs.declared.forms.Form.TheVariants as form
use Rattle.intel_forms.specs.declared.across.Across.TheVariants as across
use Rattle.intel_forms.specs.declared.scalars.Scalar.TheVariants as scalar
use Rattle.intel_forms.specs.declared.memory.Memory.TheVariants as memory
use Rattle.intel_forms.specs.Forms as forms
use Rattle.intel_lanes.specs.declared.lanes.Width.TheVariants as width
use Rattle.intel_forms.specs.declared.sizes.Size.TheVariants.{Xmm, Ymm}
use Rattle.seq_core.specs.Claims.{IsCallable}
use Rattle.seq_core.specs.InPlace.{stands_in_place}
use Rattle.written_forms.specs.Seen.{Sees, sees_nothing, beginning, declared}
use Rattle.written_forms.specs.Moved.{Plans, operands, immediate_among, simple, helper_name}
use Rattle.written_forms.specs.Statements.{sees_behind, sees_optional, sees_parameters}
use Rattle.written_forms.specs.Helpers.{Use, use_of, row_uses, called_uses, uses, kind_uses, all_uses, maybe_uses, object_uses, statement_uses, optional_uses, statements_uses, unit_uses}
use Rattle.written_forms.specs.Planned.{FitsRow}
use Rattle.written_forms.specs.Ready.{AreCarried, operand_types, IsConstant, HasImmediate, CallsRow, IsCall, IsVariable, Ready, ReadyKind, AreReady}
use Rattle.written_forms.specs.ReadyStatements.{ReadyFirst, ReadyObjects, ReadyCondition, ReadyStep, ReadyResult, ReadyStart, ReadyStatement, ReadyOptional, ReadyStatements}
use Rattle.written_forms.specs.ReadyUnits.{Heads, with_head, setting, ReadyItems}
use Rattle.written_forms.specs.Vectors.{has_immediate}

-- the function is for a row that is found, under its name, with a sequence that can be called
pub record Good (plans : Plans) (u : Use) : Type 0 where
  pub op : IntelOp
  pub is : find_of u.row ≡ Some op
  pub name : u.name ≡ helper_name u.row (range_of op) u.imm
  pub plan : plans u.row u.imm ≡ Some u.plan
  pub callable : IsCallable u.plan
  pub carried : AreCarried (operand_types (params_of (signature_of op)))
  pub fits : FitsRow op u.imm u.plan
  pub none : range_of op ≡ NoImmediate → u.imm ≡ 0
  pub small : u.imm < 2 ^ 64

abbrev pub AllGood : Plans → List Use → Type 0
AllGood plans [] = Unit {0}
AllGood plans (u ∷ us) = Good plans u × AllGood plans us

both_good : (plans : Plans) (us vs : List Use) → AllGood plans us → AllGood plans vs → AllGood plans (us ++ vs)
both_good plans [] vs h g = g
both_good plans (u ∷ us) vs h g = (h.0, both_good plans us vs h.1 g)

-- ---- immediates

-- a row without a range has no immediate
no_range : (f : Form) → forms.range_of f ≡ NoImmediate → has_immediate (params_of (forms.signature_of f)) ≡ false
no_range (form.OneImm size op) h = absurd (cc)
no_range (form.TwoImm size op) h = absurd (cc)
no_range (form.Across across.PermuteQwords) h = absurd (cc)
no_range (form.Across across.PermuteHalves) h = absurd (cc)
no_range (form.Across across.ExtractHalf) h = absurd (cc)
no_range (form.Across across.InsertHalf) h = absurd (cc)
no_range (form.Across row) h = refl
no_range (form.Scalar (scalar.Extract size w)) h = absurd (cc)
no_range (form.Scalar (scalar.Insert size w)) h = absurd (cc)
no_range (form.Scalar (scalar.Set Xmm width.Byte)) h = refl
no_range (form.Scalar (scalar.Set Xmm width.Word)) h = refl
no_range (form.Scalar (scalar.Set Xmm width.Dword)) h = refl
no_range (form.Scalar (scalar.Set Xmm width.Qword)) h = refl
no_range (form.Scalar (scalar.Set Ymm width.Byte)) h = refl
no_range (form.Scalar (scalar.Set Ymm width.Word)) h = refl
no_range (form.Scalar (scalar.Set Ymm width.Dword)) h = refl
no_range (form.Scalar (scalar.Set Ymm width.Qword)) h = refl
no_range (form.Scalar (scalar.SetReversed Xmm width.Byte)) h = refl
no_range (form.Scalar (scalar.SetReversed Xmm width.Word)) h = refl
no_range (form.Scalar (scalar.SetReversed Xmm width.Dword)) h = refl
no_range (form.Scalar (scalar.SetReversed Xmm width.Qword)) h = refl
no_range (form.Scalar (scalar.SetReversed Ymm width.Byte)) h = refl
no_range (form.Scalar (scalar.SetReversed Ymm width.Word)) h = refl
no_range (form.Scalar (scalar.SetReversed Ymm width.Dword)) h = refl
no_range (form.Scalar (scalar.SetReversed Ymm width.Qword)) h = refl
no_range (form.Scalar row) h = refl
no_range (form.Memory (memory.Gather size indexing)) h = absurd (cc)
no_range (form.Memory (memory.MaskGather size indexing)) h = absurd (cc)
no_range (form.Memory row) h = refl
no_range f h = refl

none_among : (ks : List ParamKind) (all : Trees) → has_immediate ks ≡ false → immediate_among ks all ≡ 0
none_among [] all h = refl
none_among (kind.Immediate ∷ ks) all h = absurd (cc)
none_among (k ∷ ks) NoTrees h = refl
none_among (k ∷ ks) (More a rest) h = none_among ks rest h

below : (t : IntType) (m : ℕ) → InRange t (pos m) → m < 2 ^ 64
below int.Boolean m h = omega (arith, ints, h)
below int.Char m h = omega (arith, ints, h)
below int.SChar m h = omega (arith, ints, h)
below int.UChar m h = omega (arith, ints, h)
below int.Short m h = omega (arith, ints, h)
below int.UShort m h = omega (arith, ints, h)
below int.Int m h = omega (arith, ints, h)
below int.UInt m h = omega (arith, ints, h)
below int.Long m h = omega (arith, ints, h)
below int.ULong m h = omega (arith, ints, h)
below int.LLong m h = omega (arith, ints, h)
below int.ULLong m h = omega (arith, ints, h)

constant_small : (o : Option Num) (imm : ℕ) → IsConstant o imm → imm < 2 ^ 64
constant_small None imm h = absurd h
constant_small (Some n) imm h = below n.ty imm (subst (InRange n.ty) h n.in_range)

-- an immediate is that of the first place for one
immediate_small : (ks : List ParamKind) (all : Trees) (imm : ℕ) → HasImmediate ks all imm → imm ≡ immediate_among ks all → imm < 2 ^ 64
immediate_small [] NoTrees imm h e = let z : imm ≡ 0 = e in omega (arith, z)
immediate_small [] (More a rest) imm h e = absurd h
immediate_small (kind.Immediate ∷ ks) NoTrees imm h e = absurd h
immediate_small (kind.Immediate ∷ ks) (More a rest) imm h e = constant_small (value_of a) imm h.0
immediate_small (k ∷ ks) NoTrees imm h e = absurd h
immediate_small (k ∷ ks) (More a rest) imm h e = immediate_small ks rest imm h e

-- ---- expressions

module _ (plans : Plans) (helps : List ℕ → ℕ → Bool) where
  row_good : (heads : Heads) (sees : Sees) (t : CType) (f : List ℕ) (op : IntelOp) (all : Trees) → find_of f ≡ Some op → CallsRow (setting plans helps heads) sees t f op all → AllGood plans (called_uses plans sees f (Some op) all)
  row_good heads sees t f op all e c = subst (λ o. AllGood plans (row_uses f imm name o flags)) (sym c.is) (at (stands_in_place flags c.plan))
    where
      imm : ℕ
      imm = immediate_among (params_of (signature_of op)) all

      name : List ℕ
      name = helper_name f (range_of op) imm

      flags : List Bool
      flags = simple sees (operands (params_of (signature_of op)) all)

      at : (b : Bool) → AllGood plans (if b then [] else use_of f imm name c.plan ∷ [])
      at true = tt
      at false = (
        record {
          op = op;
          is = e;
          name = refl;
          plan = c.is;
          callable = c.stands.callable;
          carried = subst AreCarried c.types c.carried;
          fits = record { stands = c.stands; result = c.gives };
          none = λ r. none_among (params_of (signature_of op)) all (no_range (form_of op) r);
          small = immediate_small (params_of (signature_of op)) all imm c.immediate refl;
        },
        tt,
      )

  call_good : (heads : Heads) (sees : Sees) (t : CType) (f : List ℕ) (o : Option IntelOp) (all : Trees) → find_of f ≡ o → IsCall (setting plans helps heads) sees t f o all → AllGood plans (called_uses plans sees f o all)
  call_good heads sees t f None all e c = tt
  call_good heads sees t f (Some op) all e c = row_good heads sees t f op all e c

  variable_good : (sees : Sees) (t : CType) (a : Tree) → IsVariable sees t a → AllGood plans (uses plans sees a)
  variable_good sees t (Node p u (Name x)) h = tt
  variable_good sees t (Node p u k) h = absurd h

  mutual
    good : (heads : Heads) (sees : Sees) (e : Tree) → Ready (setting plans helps heads) sees e → AllGood plans (uses plans sees e)
    good heads sees (Node p t k) r = kind_good heads sees t k r

    kind_good : (heads : Heads) (sees : Sees) (t : CType) (k : Kind) → ReadyKind (setting plans helps heads) sees t k → AllGood plans (kind_uses plans sees k)
    kind_good heads sees t (Const n) r = tt
    kind_good heads sees t (Name x) r = tt
    kind_good heads sees t (Unary o a) r = good heads sees a r.1
    kind_good heads sees t (Step a up before) r = variable_good sees t a r.1
    kind_good heads sees t (Binary o a b) r = both_good plans (uses plans sees a) (uses plans sees b) (good heads sees a r.1) (good heads sees b r.2)
    kind_good heads sees t (AndThen a b) r = both_good plans (uses plans sees a) (uses plans sees b) (good heads sees a r.3) (good heads sees b r.4)
    kind_good heads sees t (OrElse a b) r = both_good plans (uses plans sees a) (uses plans sees b) (good heads sees a r.3) (good heads sees b r.4)
    kind_good heads sees t (Choice c a b) r =
        both_good plans (uses plans sees c) (uses plans sees a ++ uses plans sees b) (good heads sees c r.4) (both_good plans (uses plans sees a) (uses plans sees b) (good heads sees a r.5) (good heads sees b r.6))
    kind_good heads sees t (Assign o a b) r = both_good plans (uses plans sees a) (uses plans sees b) (variable_good sees t a r.0) (good heads sees b r.2)
    kind_good heads sees t (Comma all) r = all_good heads sees all r.1
    kind_good heads sees t (Cast CType.Void a true) r = good heads sees a r.1
    kind_good heads sees t (Cast (CType.Int s) a written) r = good heads sees a r.2
    kind_good heads sees t (Call f all) r = both_good plans (called_uses plans sees f (find_of f) all) (all_uses plans sees all) (call_good heads sees t f (find_of f) all refl r.0) (all_good heads sees all r.1)
    kind_good heads sees t (SizeOfType u) r = tt
    kind_good heads sees t (SizeOfName x) r = tt
    kind_good heads sees t k r = absurd r

    all_good : (heads : Heads) (sees : Sees) (all : Trees) → AreReady (setting plans helps heads) sees all → AllGood plans (all_uses plans sees all)
    all_good heads sees NoTrees r = tt
    all_good heads sees (More a rest) r = both_good plans (uses plans sees a) (all_uses plans sees rest) (good heads sees a r.0) (all_good heads sees rest r.1)

  -- ---- statements

  first_good : (heads : Heads) (sees : Sees) (t : CType) (e : Option Tree) → ReadyFirst (setting plans helps heads) sees t e → AllGood plans (maybe_uses plans sees e)
  first_good heads sees t None r = tt
  first_good heads sees t (Some e) r = good heads sees e r.1

  condition_good : (heads : Heads) (sees : Sees) (e : Option Tree) → ReadyCondition (setting plans helps heads) sees e → AllGood plans (maybe_uses plans sees e)
  condition_good heads sees None r = tt
  condition_good heads sees (Some e) r = good heads sees e r.1

  step_good : (heads : Heads) (sees : Sees) (e : Option Tree) → ReadyStep (setting plans helps heads) sees e → AllGood plans (maybe_uses plans sees e)
  step_good heads sees None r = tt
  step_good heads sees (Some e) r = good heads sees e r

  result_good : (heads : Heads) (sees : Sees) (t : CType) (e : Option Tree) → ReadyResult (setting plans helps heads) sees t e → AllGood plans (maybe_uses plans sees e)
  result_good heads sees t None r = tt
  result_good heads sees t (Some e) r = good heads sees e r.1

  objects_good : (heads : Heads) (sees : Sees) (all : List Object) → ReadyObjects (setting plans helps heads) sees all → AllGood plans (object_uses plans sees all)
  objects_good heads sees [] r = tt
  objects_good heads sees (d ∷ rest) r =
      both_good plans (maybe_uses plans (beginning d sees) d.init) (object_uses plans (declared d sees) rest) (first_good heads (beginning d sees) d.ty d.init r.0.init) (objects_good heads (declared d sees) rest r.1)

  start_good : (heads : Heads) (sees : Sees) (i : Optional) → ReadyStart (setting plans helps heads) sees i → AllGood plans (optional_uses plans sees i)
  start_good heads sees Absent r = tt
  start_good heads sees (Present (Declare all)) r = objects_good heads sees all r
  start_good heads sees (Present (Run e)) r = good heads sees e r
  start_good heads sees (Present s) r = absurd r

  mutual
    statement_good : (heads : Heads) (t : CType) (sees : Sees) (s : Statement) → ReadyStatement (setting plans helps heads) t sees s → AllGood plans (statement_uses plans sees s)
    statement_good heads t sees (Declare all) r = objects_good heads sees all r
    statement_good heads t sees (Run e) r = good heads sees e r
    statement_good heads t sees (Block all) r = statements_good heads t sees all r
    statement_good heads t sees (If e s o) r =
        both_good plans (uses plans sees e) (statement_uses plans sees s ++ optional_uses plans sees o) (good heads sees e r.1)
        (both_good plans (statement_uses plans sees s) (optional_uses plans sees o) (statement_good heads t sees s r.2) (optional_good heads t sees o r.3))
    statement_good heads t sees (While e s) r = both_good plans (uses plans sees e) (statement_uses plans sees s) (good heads sees e r.1) (statement_good heads t sees s r.2)
    statement_good heads t sees (DoWhile s e) r = both_good plans (statement_uses plans sees s) (uses plans sees e) (statement_good heads t sees s r.2) (good heads sees e r.1)
    statement_good heads t sees (For i e n s) r =
        let scope = sees_optional i sees in
        both_good plans (optional_uses plans sees i) (maybe_uses plans scope e ++ (maybe_uses plans scope n ++ statement_uses plans scope s)) (start_good heads sees i r.0)
        (both_good plans (maybe_uses plans scope e) (maybe_uses plans scope n ++ statement_uses plans scope s) (condition_good heads scope e r.1)
        (both_good plans (maybe_uses plans scope n) (statement_uses plans scope s) (step_good heads scope n r.2) (statement_good heads t scope s r.3)))
    statement_good heads t sees (Return p e) r = result_good heads sees t e r
    statement_good heads t sees (Break p) r = tt
    statement_good heads t sees (Continue p) r = tt
    statement_good heads t sees Empty r = tt

    optional_good : (heads : Heads) (t : CType) (sees : Sees) (o : Optional) → ReadyOptional (setting plans helps heads) t sees o → AllGood plans (optional_uses plans sees o)
    optional_good heads t sees Absent r = tt
    optional_good heads t sees (Present s) r = statement_good heads t sees s r

    statements_good : (heads : Heads) (t : CType) (sees : Sees) (all : Statements) → ReadyStatements (setting plans helps heads) t sees all → AllGood plans (statements_uses plans sees all)
    statements_good heads t sees NoStatements r = tt
    statements_good heads t sees (Then s rest) r =
        both_good plans (statement_uses plans sees s) (statements_uses plans (sees_behind s sees) rest) (statement_good heads t sees s r.0) (statements_good heads t (sees_behind s sees) rest r.1)

  pub items_good : (heads : Heads) (unit : List External) → ReadyItems plans helps heads unit → AllGood plans (unit_uses plans unit)
  items_good heads [] r = tt
  items_good heads (Function f ∷ rest) r =
      both_good plans (statements_uses plans (sees_parameters f.params sees_nothing) f.body) (unit_uses plans rest)
      (statements_good heads f.result (sees_parameters f.params sees_nothing) f.body r.0.body) (items_good (with_head f heads) rest r.2)
  items_good heads (Table d is_static ∷ rest) r = absurd r
