-- What is written for an expression is printed and read as it is.
use Rattle.std.proofs.Common.{◌≡◌, refl, sym, ap, ◌∙◌, subst, ℕ, zero, suc, ◌<◌, ◌^◌, Bool, true, false, ◌&&◌, List, [], ◌∷◌, map, Option, Some, None, if◌then◌else◌, nat_le, length, replicate}
use Rattle.std.specs.Prelude.{bytes_eq, get_or}
use Rattle.lane_core.specs.Register.{lane}
use Rattle.lane_core.specs.declared.number.IntType.{IntType}
use Rattle.lane_core.specs.declared.number.IntType.TheVariants as int
use Rattle.lane_core.specs.declared.number.Num.{Num}
use Rattle.lane_core.specs.declared.table.ParamKind.{ParamKind}
use Rattle.lane_core.specs.declared.table.ParamKind.TheVariants as kind
use Rattle.lane_core.specs.Table.{params_of}
use Rattle.scalar_core.specs.Numbers.{num_of}
use Rattle.scalar_core.specs.TwosComplement.{wrapped}
use Rattle.scalar_core.specs.Wrapping.{wrapped_same}
use Rattle.const_imm.specs.Sizes.{size_of}
use Rattle.c_text.specs.declared.tokens.Place.{Place}
use Rattle.c_tree.specs.declared.types.CType.{CType}
use Rattle.c_tree.specs.Nodes.{node_place}
use Rattle.c_tree.specs.Tree.{Tree, Kind, Trees, Node, Const, Name, Unary, Step, Binary, AndThen, OrElse, Choice, Assign, Comma, Cast, Call, SizeOfType, SizeOfName, NoTrees, More}
use Rattle.c_print.specs.Constants.{sign_text}
use Rattle.c_memory.specs.Matching.{written_integer, written_type}
use Rattle.c_memory.specs.Meaning.{type_of}
use Rattle.type_rules.specs.Types.{same_type, same_integer}
use Rattle.intel_table.specs.declared.IntelOp.{IntelOp}
use Rattle.intel_table.specs.Rows.{find_of, signature_of, range_of}
use Rattle.round_trip.specs.Good.{GoodName, GoodConstant, IsConstantType, GoodInteger, GoodType, Several}
use Rattle.seq_core.specs.Terms as term
use Rattle.seq_core.specs.Terms.{Term, Sequence}
use Rattle.seq_core.specs.Formed as formed
use Rattle.seq_core.specs.Formed.{sequence_type, given_type, type_behind, FormedFrom, WellFormed}
use Rattle.seq_core.specs.InPlace.{stands_alone, stands_in_place, in_place}
use Rattle.seq_core.specs.Listed.{listed}
use Rattle.seq_core.specs.Called.{rows_called}
use Rattle.seq_core.specs.Written.{pen, nothing, zeros, eight, call, constant, written}
use Rattle.seq_core.specs.Rows.{combine}
use Rattle.written_forms.specs.Seen.{Local, Sees}
use Rattle.written_forms.specs.Moved as form
use Rattle.written_forms.specs.Moved.{Plans, number, size, size_of_local, operands, immediate_among, simple, helper_name, row_written, called, stated, all_stated, moved, moved_kind, moved_all}
use Rattle.written_forms.specs.Ready.{Heading, IsInt, IsVariable, CallsRow, IsCall, types_of, Ready, ReadyKind, AreReady}
use Rattle.written_forms.specs.ReadyUnits.{Heads, setting}
use Rattle.read_units.specs.Read.{Read, ReadKind, ReadAll}
use Rattle.written_text.proofs.RowWords.{intel_named}
use Rattle.written_text.proofs.Words.{helper_named}
use Rattle.written_text.proofs.Fine.{Fine, AllFine, none_fine, more_fine, size_constant}
use Rattle.written_text.proofs.Terms.{Stand, typed, fine}

-- ---- types and constants

pub integer_good : (t : IntType) → GoodInteger (written_integer t)
integer_good int.Boolean = tt
integer_good int.Char = tt
integer_good int.SChar = tt
integer_good int.UChar = tt
integer_good int.Short = tt
integer_good int.UShort = tt
integer_good int.Int = tt
integer_good int.UInt = tt
integer_good int.Long = tt
integer_good int.ULong = tt
integer_good int.LLong = tt
integer_good int.ULLong = tt

constant_written : (t : IntType) → IsConstantType t → written_integer t ≡ t
constant_written int.Int h = refl
constant_written int.UInt h = refl
constant_written int.Long h = refl
constant_written int.ULong h = refl
constant_written int.LLong h = refl
constant_written int.ULLong h = refl
constant_written t h = absurd h

same_number : (t : IntType) (n : Num) → t ≡ n.ty → GoodConstant n → GoodConstant (num_of t n.value)
unfolding num_of
same_number t n e h = (ap sign_text (ap (λ s. wrapped s n.value) e ∙ wrapped_same n.ty n.value n.in_range) ∙ h.0, subst IsConstantType (sym e) h.1)

pub number_good : (n : Num) → GoodConstant n → GoodConstant (number n)
number_good n h = same_number (written_integer n.ty) n (constant_written n.ty h.1) h

same_written : (s t : IntType) → same_integer s t ≡ true → s ≡ t
same_written int.Boolean int.Boolean h = refl
same_written int.Char int.Char h = refl
same_written int.SChar int.SChar h = refl
same_written int.UChar int.UChar h = refl
same_written int.Short int.Short h = refl
same_written int.UShort int.UShort h = refl
same_written int.Int int.Int h = refl
same_written int.UInt int.UInt h = refl
same_written int.Long int.Long h = refl
same_written int.ULong int.ULong h = refl
same_written int.LLong int.LLong h = refl
same_written int.ULLong int.ULLong h = refl
same_written s t h = absurd (cc)

-- ---- what is known where an expression stands

pub record Kept (helps : List ℕ → ℕ → Bool) (heads : Heads) (sees : Sees) : Type 0 where
  pub small : (f : List ℕ) (imm : ℕ) → helps f imm ≡ true → imm < 2 ^ 64
  pub functions : (f : List ℕ) (h : Heading) → heads f ≡ Some h → GoodName f
  pub names : (x : List ℕ) (l : Local) → sees x ≡ Some l → GoodName x

-- a conversion that isn't written is to a type that can be
abbrev pub IsShown : Tree → Type 0
IsShown (Node p t (Cast u a false)) = GoodType u
IsShown e = Unit {0}

stated_fine : (e : Tree) → Fine e → IsShown e → Fine (stated e)
stated_fine (Node p t (Cast u a false)) f s = record { good = (s, f.good); plain = f.plain }
stated_fine (Node p t (Cast u a true)) f s = f
stated_fine (Node p t _) f s = f

stated_shown : (e : Tree) → IsShown (stated e)
stated_shown (Node p t (Cast u a false)) = tt
stated_shown (Node p t (Cast u a true)) = tt
stated_shown (Node p t _) = tt

stated_type : (e : Tree) → type_of (stated e) ≡ type_of e
stated_type (Node p t (Cast u a false)) = refl
stated_type (Node p t (Cast u a true)) = refl
stated_type (Node p t _) = refl

all_shown : (p : Place) (all : Trees) (n : ℕ) → IsShown (get_or (listed (all_stated all)) n (nothing p))
all_shown p NoTrees n = tt
all_shown p (More a rest) zero = stated_shown a
all_shown p (More a rest) (suc n) = all_shown p rest n

pub record Moved (plans : Plans) (sees : Sees) (e : Tree) : Type 0 where
  pub fine : Fine (moved plans sees e)
  pub ty : type_of (moved plans sees e) ≡ written_type (type_of e)
  pub shown : IsShown (moved plans sees e)

abbrev pub AllMoved : Plans → Sees → Trees → Type 0
AllMoved plans sees NoTrees = Unit {0}
AllMoved plans sees (More a rest) = Moved plans sees a × AllMoved plans sees rest

pub all_fine : (plans : Plans) (sees : Sees) (all : Trees) → AllMoved plans sees all → AllFine (moved_all plans sees all)
all_fine plans sees NoTrees h = none_fine
all_fine plans sees (More a rest) h = more_fine (moved plans sees a) (moved_all plans sees rest) h.0.fine (all_fine plans sees rest h.1)

several_moved : (plans : Plans) (sees : Sees) (all : Trees) → Several all → Several (moved_all plans sees all)
several_moved plans sees NoTrees h = absurd h
several_moved plans sees (More a NoTrees) h = absurd h
several_moved plans sees (More a (More b rest)) h = tt

-- ---- sequences in place

record Alone (q : Sequence) : Type 0 where
  pub t : Term
  pub steps : q.steps ≡ []
  pub result : q.result ≡ Some t

and_first : (a b : Bool) → (a && b) ≡ true → a ≡ true
and_first true b h = refl
and_first false b h = absurd (cc)

alone : (flags : List Bool) (q : Sequence) → stands_in_place flags q ≡ true → Alone q
alone flags q h = at q.steps q.result refl refl (and_first (stands_alone flags q.steps q.result) (nat_le (length (rows_called q)) 3) h)
  where
    at : (steps : List Term) (o : Option Term) → q.steps ≡ steps → q.result ≡ o → stands_alone flags steps o ≡ true → Alone q
    at [] (Some t) e g k = record { t = t; steps = e; result = g }
    at [] None e g k = absurd (cc)
    at (s ∷ rest) (Some t) e g k = absurd (cc)
    at (s ∷ rest) None e g k = absurd (cc)

pub record Placed (e : Tree) (t : CType) : Type 0 where
  pub fine : Fine e
  pub ty : type_of e ≡ t
  pub shown : IsShown e

constant_shown : (p : Place) (r : List ℕ) → IsShown (constant p r)
constant_shown p r = at (bytes_eq r (replicate 16 0))
  where
    at : (b : Bool) → IsShown (if b then zeros p else call p combine (More (eight p (lane 8 r 0)) (More (eight p (lane 8 r 1)) NoTrees)))
    at true = tt
    at false = tt

term_shown : (p : Place) (params : List Tree) → ((n : ℕ) → IsShown (get_or params n (nothing p))) → (t : Term) → IsShown (written (pen p params []) t)
term_shown p params h (term.Param n) = h n
term_shown p params h (term.Const r) = constant_shown p r
term_shown p params h _ = tt

pub placed : (p : Place) (q : Sequence) (flags : List Bool) (params : List Tree) → ((n : ℕ) → IsShown (get_or params n (nothing p))) → WellFormed q → stands_in_place flags q ≡ true → Stand q.params params → Placed (in_place p params q.result) (sequence_type q)
placed p q flags params each w s h =
    let a = alone flags q s in
    let f : FormedFrom q.params [] [] (Some a.t) = subst (λ o. FormedFrom q.params [] [] o) a.result (subst (λ ss. FormedFrom q.params [] ss q.result) a.steps w.1) in
    let here : in_place p params q.result ≡ written (pen p params []) a.t = ap (in_place p params) a.result in
    let gives : sequence_type q ≡ formed.type_of q.params [] a.t = ap (λ ss. type_behind q.params [] ss q.result) a.steps ∙ ap (given_type q.params []) a.result in
    record {
      fine = subst Fine (sym here) (fine p params [] q.params [] h tt a.t f.1);
      ty = ap type_of here ∙ typed p params [] q.params [] h tt a.t ∙ sym gives;
      shown = subst IsShown (sym here) (term_shown p params each a.t);
    }

operands_stand : (plans : Plans) (sees : Sees) (ks : List ParamKind) (all : Trees) → AllMoved plans sees all → Stand (map written_type (types_of (operands ks all))) (listed (all_stated (operands ks (moved_all plans sees all))))
operands_stand plans sees [] all h = tt
operands_stand plans sees (kind.Immediate ∷ ks) NoTrees h = tt
operands_stand plans sees (kind.Immediate ∷ ks) (More a rest) h = operands_stand plans sees ks rest h.1
operands_stand plans sees (k ∷ ks) NoTrees h = tt
operands_stand plans sees (k ∷ ks) (More a rest) h =
    (stated_fine (moved plans sees a) h.0.fine h.0.shown, stated_type (moved plans sees a) ∙ h.0.ty, operands_stand plans sees ks rest h.1)

operands_fine : (ks : List ParamKind) (all : Trees) → AllFine all → AllFine (operands ks all)
operands_fine [] all h = none_fine
operands_fine (kind.Immediate ∷ ks) NoTrees h = none_fine
operands_fine (kind.Immediate ∷ ks) (More a rest) h = operands_fine ks rest (record { good = h.good.1; plain = h.plain.1 })
operands_fine (k ∷ ks) NoTrees h = none_fine
operands_fine (k ∷ ks) (More a rest) h = more_fine a (operands ks rest) (record { good = h.good.0; plain = h.plain.0 }) (operands_fine ks rest (record { good = h.good.1; plain = h.plain.1 }))

-- ---- calls

module _ (plans : Plans) (helps : List ℕ → ℕ → Bool) (heads : Heads) (sees : Sees) (kept : Kept helps heads sees) where
  row_placed : (p : Place) (t : CType) (f : List ℕ) (op : IntelOp) (all : Trees) → find_of f ≡ Some op → CallsRow (setting plans helps heads) sees t f op all → AllMoved plans sees all
      → Placed (called plans sees p (written_type t) f (Some op) all (moved_all plans sees all)) (written_type t)
  row_placed p t f op all e c h = subst (λ o. Placed (row_written p (written_type t) name o flags args) (written_type t)) (sym c.is) (at (stands_in_place flags c.plan) refl)
    where
      ks : List ParamKind
      ks = params_of (signature_of op)

      name : List ℕ
      name = helper_name f (range_of op) (immediate_among ks all)

      flags : List Bool
      flags = simple sees (operands ks all)

      args : Trees
      args = operands ks (moved_all plans sees all)

      result : sequence_type c.plan ≡ written_type t
      result = c.gives ∙ ap written_type (sym c.result)

      stand : Stand c.plan.params (listed (all_stated args))
      stand = subst (λ ts. Stand ts (listed (all_stated args))) (sym (c.stands.params ∙ ap (map written_type) (sym c.types))) (operands_stand plans sees ks all h)

      at : (b : Bool) → stands_in_place flags c.plan ≡ b → Placed (if b then in_place p (listed (all_stated args)) c.plan.result else Node p (written_type t) (Call name args)) (written_type t)
      at true s = let q = placed p c.plan flags (listed (all_stated args)) (all_shown p args) c.stands.callable.0 s stand in record { fine = q.fine; ty = q.ty ∙ result; shown = q.shown }
      at false s =
          let all_args = operands_fine ks (moved_all plans sees all) (all_fine plans sees all h) in
          let good = helper_named f (range_of op) (immediate_among ks all) (intel_named f op e) (kept.small f (immediate_among ks all) (c.helped s)) in
          record { fine = record { good = (good, all_args.good); plain = all_args.plain }; ty = refl; shown = tt }

  call_placed : (p : Place) (t : CType) (f : List ℕ) (o : Option IntelOp) (all : Trees) → find_of f ≡ o → IsCall (setting plans helps heads) sees t f o all → AllMoved plans sees all
      → Placed (called plans sees p (written_type t) f o all (moved_all plans sees all)) (written_type t)
  call_placed p t f None all e c h =
      let args = all_fine plans sees all h in
      record { fine = record { good = (kept.functions f c.head c.is, args.good); plain = args.plain }; ty = refl; shown = tt }
  call_placed p t f (Some op) all e c h = row_placed p t f op all e c h

  -- ---- expressions

  variable_moved : (t : CType) (a : Tree) → IsVariable sees t a → Fine (moved plans sees a)
  variable_moved t (Node p u (Name x)) h = record { good = kept.names x h.0.0 h.0.1; plain = tt }
  variable_moved t (Node p u k) h = absurd h

  size_moved : (p : Place) (t : CType) (o : Option ℕ) → t ≡ CType.Int int.ULong → Placed (size p o) (written_type t)
  size_moved p t None e = record { fine = record { good = size_constant 0; plain = tt }; ty = ap written_type (sym e); shown = tt }
  size_moved p t (Some n) e = record { fine = record { good = size_constant n; plain = tt }; ty = ap written_type (sym e); shown = tt }

  -- an integer that is converted to another type
  cast_moved : (p : Place) (t : CType) (s : IntType) (a : Tree) (z : Bool) → t ≡ CType.Int s → IsInt (type_of a) → Moved plans sees a
      → Placed (form.cast p (CType.Int (written_integer s)) (written_type (type_of a)) (moved plans sees a) z) (written_type t)
  cast_moved p t s a true e i h = record { fine = record { good = (integer_good s, h.fine.good); plain = h.fine.plain }; ty = ap written_type (sym e); shown = tt }
  cast_moved p t s a false e i h = at (same_type (written_type (type_of a)) (CType.Int (written_integer s))) refl
    where
      same : (u : CType) → IsInt u → same_type (written_type u) (CType.Int (written_integer s)) ≡ true → written_type u ≡ CType.Int (written_integer s)
      same (CType.Int r) i g = ap CType.Int (same_written (written_integer r) (written_integer s) g)
      same u i g = absurd i

      at : (b : Bool) → same_type (written_type (type_of a)) (CType.Int (written_integer s)) ≡ b
          → Placed (if b then moved plans sees a else Node (node_place (moved plans sees a)) (CType.Int (written_integer s)) (Cast (CType.Int (written_integer s)) (moved plans sees a) false)) (written_type t)
      at true g = record { fine = h.fine; ty = h.ty ∙ same (type_of a) i g ∙ ap written_type (sym e); shown = h.shown }
      at false g = record { fine = record { good = h.fine.good; plain = h.fine.plain }; ty = ap written_type (sym e); shown = integer_good s }

  mutual
    pub expression : (e : Tree) → Ready (setting plans helps heads) sees e → Read e → Moved plans sees e
    expression (Node p t k) r g = let m = kind_moved p t k r g in record { fine = m.fine; ty = m.ty; shown = m.shown }

    kind_moved : (p : Place) (t : CType) (k : Kind) → ReadyKind (setting plans helps heads) sees t k → ReadKind k → Placed (moved_kind plans sees p (written_type t) k) (written_type t)
    kind_moved p t (Const n) r g = record { fine = record { good = number_good n g; plain = tt }; ty = refl; shown = tt }
    kind_moved p t (Name x) r g = record { fine = record { good = kept.names x r.0.0 r.0.1; plain = tt }; ty = refl; shown = tt }
    kind_moved p t (Unary o a) r g = let m = expression a r.1 g in record { fine = record { good = m.fine.good; plain = m.fine.plain }; ty = refl; shown = tt }
    kind_moved p t (Step a up before) r g = let m = variable_moved t a r.1 in record { fine = record { good = m.good; plain = m.plain }; ty = refl; shown = tt }
    kind_moved p t (Binary o a b) r g = let m = expression a r.1 g.0 in let n = expression b r.2 g.1 in record { fine = record { good = (m.fine.good, n.fine.good); plain = (m.fine.plain, n.fine.plain) }; ty = refl; shown = tt }
    kind_moved p t (AndThen a b) r g = let m = expression a r.3 g.0 in let n = expression b r.4 g.1 in record { fine = record { good = (m.fine.good, n.fine.good); plain = (m.fine.plain, n.fine.plain) }; ty = refl; shown = tt }
    kind_moved p t (OrElse a b) r g = let m = expression a r.3 g.0 in let n = expression b r.4 g.1 in record { fine = record { good = (m.fine.good, n.fine.good); plain = (m.fine.plain, n.fine.plain) }; ty = refl; shown = tt }
    kind_moved p t (Choice c a b) r g =
        let l = expression c r.4 g.0 in
        let m = expression a r.5 g.1 in
        let n = expression b r.6 g.2 in
        record { fine = record { good = (l.fine.good, m.fine.good, n.fine.good); plain = (l.fine.plain, (m.fine.plain, n.fine.plain)) }; ty = refl; shown = tt }
    kind_moved p t (Assign o a b) r g =
        let m = variable_moved t a r.0 in
        let n = expression b r.2 g.2 in
        record { fine = record { good = (g.0, m.good, n.fine.good); plain = (m.plain, n.fine.plain) }; ty = refl; shown = tt }
    kind_moved p t (Comma all) r g = let m = all_fine plans sees all (expressions all r.1 g.1) in record { fine = record { good = (several_moved plans sees all g.0, m.good); plain = m.plain }; ty = refl; shown = tt }
    kind_moved p t (Cast CType.Void a true) r g = let m = expression a r.1 g in record { fine = record { good = (tt, m.fine.good); plain = m.fine.plain }; ty = ap written_type (sym r.0); shown = tt }
    kind_moved p t (Cast (CType.Int s) a z) r g = cast_moved p t s a z r.0 r.1 (expression a r.2 g)
    kind_moved p t (Call f all) r g = call_placed p t f (find_of f) all refl r.0 (expressions all r.1 g.1)
    kind_moved p t (SizeOfType u) r g = size_moved p t (size_of u) r
    kind_moved p t (SizeOfName x) r g = size_moved p t (size_of_local (sees x)) r.0
    kind_moved p t k r g = absurd r

    pub expressions : (all : Trees) → AreReady (setting plans helps heads) sees all → ReadAll all → AllMoved plans sees all
    expressions NoTrees r g = tt
    expressions (More a rest) r g = (expression a r.0 g.0, expressions rest r.1 g.1)
