-- The arguments of calls (C11 6.5.2.2): those of a function are written in their order, and those of a row without its immediate.
use Rattle.std.proofs.Common.{◌≡◌, refl, sym, ap, ◌∙◌, subst, List, [], ◌∷◌, map, Bool, true, Option, Some, None}
use Rattle.c_text.specs.declared.tokens.Place.{Place}
use Rattle.lane_core.specs.declared.table.ParamKind.{ParamKind}
use Rattle.lane_core.specs.declared.table.ParamKind.TheVariants as kind
use Rattle.c_tree.specs.declared.types.CType.{CType}
use Rattle.c_tree.specs.Nodes.{node_type}
use Rattle.c_tree.specs.Tree.{Tree, Trees, NoTrees, More}
use Rattle.c_memory.specs.Matching.{written_type}
use Rattle.scopes.specs.Scopes.{Env}
use Rattle.type_rules.specs.declared.passing.Parameter.{Parameter}
use Rattle.type_rules.specs.declared.passing.Parameter.TheVariants as passing
use Rattle.type_rules.specs.Passing.{parameter, kind_type, immediate_of}
use Rattle.type_rules.specs.Rules.{Assigned, Passed, Given as GivenTo, one_more, no_more, by_value, by_constant}
use Rattle.expression_types.specs.Typed as typed
use Rattle.expression_types.specs.Typed.{Typed, TypedAll}
use Rattle.seq_core.specs.Terms.{Sequence}
use Rattle.seq_core.specs.Formed.{WellFormed, sequence_type}
use Rattle.seq_core.specs.InPlace.{stands_in_place, in_place}
use Rattle.seq_core.specs.Listed.{listed}
use Rattle.sequence_types.specs.Claims.{SeesRows, HasType}
use Rattle.written_forms.specs.Seen.{Sees}
use Rattle.written_forms.specs.Moved.{Plans, operands, moved, moved_all}
use Rattle.written_forms.specs.Ready.{Setting, operand_types}
use Rattle.written_types.proofs.Fine.{Fine, AllFine}
use Rattle.written_types.proofs.Conversions.{Own, AllOwn, Given, given_fine, given_own}

-- ---- operands as they are given

-- the expression is one of its own typed form, given to an object of this type: it may be converted without a cast
pub record IsGiven (there : Env) (t : CType) (e : Tree) : Type 0 where
  pub from : Tree
  pub own : Typed there from from
  pub typed : Typed there e from
  pub given : Assigned from t e
  pub ty : node_type e ≡ t

abbrev pub AreGiven : Env → List CType → List Tree → Type 0
AreGiven there [] [] = Unit {0}
AreGiven there (t ∷ ts) (e ∷ es) = IsGiven there t e × AreGiven there ts es
AreGiven there _ _ = ⊥

-- a sequence that stands in place over operands as they are given has the type of its value, and no conversion is wanted in it
abbrev pub TakesGiven : Sequence → Type 0
TakesGiven q =
    (there : Env) → SeesRows there → (place : Place) (params : List Tree) (simple : List Bool) → WellFormed q → AreGiven there q.params params → stands_in_place simple q ≡ true
    → HasType there (sequence_type q) (in_place place params q.result)

-- an immediate stays as it is, and an operand is given to an object of its parameter's type
as_it_is : (a b : Tree) (o : Parameter) → o ≡ passing.Immediate → GivenTo a o b → b ≡ a
as_it_is a b o e (by_value t c h) = absurd (cc)
as_it_is a b o e (by_constant t h) = refl

by_its_value : (a b : Tree) (o : Parameter) (t : CType) → o ≡ passing.Object t → GivenTo a o b → Assigned a t b
by_its_value a b o t e (by_value u c h) = let same : u ≡ t = cc in subst (λ v. Assigned a v b) same h
by_its_value a b o t e (by_constant u h) = absurd (cc)

-- only a row has an immediate
pub no_immediate_of : (ts : List CType) (all : Trees) → immediate_of (map passing.Object ts) all ≡ None
no_immediate_of [] all = refl
no_immediate_of (t ∷ ts) NoTrees = refl
no_immediate_of (t ∷ ts) (More a rest) = no_immediate_of ts rest

module _ (plans : Plans) (sees : Sees) (w : Setting) (there : Env) where
  -- ---- functions

  pub passed_fine : (ts : List CType) (all args : Trees) → Passed (map passing.Object ts) all args → AllFine w sees args → AllFine w sees all
  passed_fine [] all args no_more k = tt
  passed_fine (t ∷ ts) all args (one_more u us a b more rest (by_value v c h) p) k = (given_fine plans sees w a b t h k.0, passed_fine ts more rest p k.1)

  pub record PassedOwn (ts : List CType) (all args : Trees) : Type 0 where
    pub typed : TypedAll there (moved_all plans sees args) (moved_all plans sees all)
    pub passed : Passed (map passing.Object (map written_type ts)) (moved_all plans sees all) (moved_all plans sees args)

  pub passed_own : (ts : List CType) (all args : Trees) → Passed (map passing.Object ts) all args → AllFine w sees args → AllOwn plans sees there all → PassedOwn ts all args
  passed_own [] all args no_more k o = record { typed = typed.none; passed = no_more }
  passed_own (t ∷ ts) all args (one_more u us a b more rest (by_value v c h) p) k o =
      let g = given_own plans sees w there a b t h k.0 o.0 in
      let next = passed_own ts more rest p k.1 o.1 in
      record {
        typed = typed.more (moved plans sees b) (moved plans sees a) (moved_all plans sees rest) (moved_all plans sees more) g.typed next.typed;
        passed = one_more (passing.Object (written_type t)) (map passing.Object (map written_type ts)) (moved plans sees a) (moved plans sees b) (moved_all plans sees more) (moved_all plans sees rest)
            (by_value (written_type t) (moved plans sees b) g.given) next.passed;
      }

  -- ---- rows

  pub row_fine : (ks : List ParamKind) (all args : Trees) → Passed (map parameter ks) all args → AllFine w sees args → AllFine w sees all
  row_fine [] all args no_more k = tt
  row_fine (kind.Immediate ∷ ks) all args (one_more u us a b more rest g p) k = (subst (Fine w sees) (as_it_is a b passing.Immediate refl g) k.0, row_fine ks more rest p k.1)
  row_fine (o ∷ ks) all args (one_more u us a b more rest g p) k =
      (given_fine plans sees w a b (kind_type o) (by_its_value a b (passing.Object (kind_type o)) (kind_type o) refl g) k.0, row_fine ks more rest p k.1)

  pub record OperandsOwn (ks : List ParamKind) (all args : Trees) : Type 0 where
    pub typed : TypedAll there (operands ks (moved_all plans sees args)) (operands ks (moved_all plans sees all))
    pub passed : Passed (map passing.Object (map written_type (operand_types ks))) (operands ks (moved_all plans sees all)) (operands ks (moved_all plans sees args))
    pub given : AreGiven there (map written_type (operand_types ks)) (listed (operands ks (moved_all plans sees args)))

  operand : (a b : Tree) (t : CType) (ts : List CType) (all args : Trees) → Given plans sees there a b t → Own plans sees there a → TypedAll there args all
      → Passed (map passing.Object (map written_type ts)) all args → AreGiven there (map written_type ts) (listed args)
      → TypedAll there (More (moved plans sees b) args) (More (moved plans sees a) all)
      × Passed (map passing.Object (map written_type (t ∷ ts))) (More (moved plans sees a) all) (More (moved plans sees b) args)
      × AreGiven there (map written_type (t ∷ ts)) (listed (More (moved plans sees b) args))
  operand a b t ts all args g o types p given = (
    typed.more (moved plans sees b) (moved plans sees a) args all g.typed types,
    one_more (passing.Object (written_type t)) (map passing.Object (map written_type ts)) (moved plans sees a) (moved plans sees b) all args (by_value (written_type t) (moved plans sees b) g.given) p,
    (record { from = moved plans sees a; own = o.typed; typed = g.typed; given = g.given; ty = g.ty }, given),
  )

  pub operands_own : (ks : List ParamKind) (all args : Trees) → Passed (map parameter ks) all args → AllFine w sees args → AllOwn plans sees there all → OperandsOwn ks all args
  operands_own [] all args no_more k o = record { typed = typed.none; passed = no_more; given = tt }
  operands_own (kind.Immediate ∷ ks) all args (one_more u us a b more rest g p) k o =
      let next = operands_own ks more rest p k.1 o.1 in
      record { typed = next.typed; passed = next.passed; given = next.given }
  operands_own (x ∷ ks) all args (one_more u us a b more rest g p) k o =
      let next = operands_own ks more rest p k.1 o.1 in
      let h = given_own plans sees w there a b (kind_type x) (by_its_value a b (passing.Object (kind_type x)) (kind_type x) refl g) k.0 o.0 in
      let r = operand a b (kind_type x) (operand_types ks) (operands ks (moved_all plans sees more)) (operands ks (moved_all plans sees rest)) h o.0 next.typed next.passed next.given in
      record { typed = r.0; passed = r.1; given = r.2 }
