-- The function that is written for a sequence is printed and read as it is.
use Rattle.std.proofs.Common.{◌≡◌, refl, sym, subst, arith, ℕ, zero, suc, ◌+◌, ◌<◌, ◌^◌, Bool, true, false, List, [], ◌∷◌, ◌++◌, map, length, Option, Some, None, slice_get, if◌then◌else◌}
use Rattle.std.proofs.lemmas.List.{map-append, length-append}
use Rattle.std.specs.Option.{unwrap_or}
use Rattle.lane_core.specs.declared.number.IntType.{IntType}
use Rattle.lane_core.specs.declared.number.IntType.TheVariants as int
use Rattle.lane_core.specs.declared.number.BinOp.{BinOp}
use Rattle.lane_core.specs.declared.vector.NeonLane.{NeonLane}
use Rattle.lane_core.specs.declared.vector.NeonLane.TheVariants as lane
use Rattle.scalar_core.specs.Operators.{is_comparison}
use Rattle.c_text.specs.declared.tokens.Place.{Place}
use Rattle.c_tree.specs.declared.types.CType.{CType}
use Rattle.c_tree.specs.Types.{is_array}
use Rattle.c_tree.specs.View.{and_then}
use Rattle.c_tree.specs.Tree.{Tree, Statement, NoStatements, Definition}
use Rattle.c_memory.specs.Meaning.{type_of}
use Rattle.neon_forms.specs.declared.forms.Form.{Form}
use Rattle.neon_forms.specs.declared.forms.Form.TheVariants as form
use Rattle.neon_forms.specs.declared.forms.Transfer.TheVariants as transfer
use Rattle.neon_forms.specs.Forms as forms
use Rattle.neon_table.specs.Rows.{form_of}
use Rattle.round_trip.specs.Good.{GoodName, GoodInteger}
use Rattle.round_trip.specs.GoodUnits.{GoodObject, GoodParameters, GoodStatement, GoodStatements, GoodFunction, GoodObjectType, IsNoArray}
use Rattle.reading_again.specs.Plain.{PlainStatement, PlainStatements, PlainParameters, PlainFunction}
use Rattle.seq_core.specs.Terms as term
use Rattle.seq_core.specs.Terms.{Term, Sequence}
use Rattle.seq_core.specs.Actions.{is_void}
use Rattle.seq_core.specs.Rows.{is_nothing}
use Rattle.seq_core.specs.Formed as formed
use Rattle.seq_core.specs.Formed.{IsFormed, IsCarrier, IsPromoted, IsChoosable, IsConverted, IsResult, FormedFrom, type_of_kind, operator_type}
use Rattle.seq_core.specs.Written.{written}
use Rattle.seq_core.specs.Functions.{Variable, variable, param_name, step_name, params_from, named, pen_over, object_of, step_variable, statement_over, steps_written, steps_after, returned, result_type, start, function_of}
use Rattle.seq_core.specs.Claims.{IsCallable}
use Rattle.written_text.proofs.Words.{param_named, step_named}
use Rattle.written_text.proofs.Fine.{Fine, IsWritten, written_object, written_shape, written_no_array, written_plain, named_good, promoted_good}
use Rattle.written_text.proofs.Terms.{Stand, typed, fine}

-- ---- types of terms

-- a type that is written, or none
abbrev IsWrittenOrVoid : CType → Type 0
IsWrittenOrVoid CType.Void = Unit {0}
IsWrittenOrVoid t = IsWritten t

or_void : (t : CType) → IsWritten t → IsWrittenOrVoid t
or_void (CType.Int s) h = h
or_void (CType.Neon l wide) h = h
or_void CType.Pair h = h
or_void (CType.Pointer e constant) h = h
or_void t h = absurd h

carried : (t : CType) → IsCarrier t → IsWrittenOrVoid t → IsWritten t
carried (CType.Int s) c h = h
carried (CType.Neon l wide) c h = h
carried CType.Pair c h = h
carried (CType.Pointer e constant) c h = h
carried t c h = absurd c

promoted_written : (t : CType) → IsPromoted t → IsWritten t
promoted_written (CType.Int s) h = promoted_good s h
promoted_written t h = absurd h

chosen_written : (t : CType) → IsChoosable t → IsWrittenOrVoid t → IsWritten t
chosen_written (CType.Int s) c h = h
chosen_written (CType.Neon l wide) c h = h
chosen_written CType.Pair c h = h
chosen_written (CType.Pointer e constant) c h = h
chosen_written t c h = absurd c

abbrev pub AllWritten : List CType → Type 0
AllWritten [] = Unit {0}
AllWritten (t ∷ ts) = IsWritten t × AllWritten ts

abbrev AllWrittenOrVoid : List CType → Type 0
AllWrittenOrVoid [] = Unit {0}
AllWrittenOrVoid (t ∷ ts) = IsWrittenOrVoid t × AllWrittenOrVoid ts

one_written : (ts : List CType) (n : ℕ) → AllWritten ts → IsCarrier (unwrap_or (slice_get ts n) CType.Void) → IsWritten (unwrap_or (slice_get ts n) CType.Void)
one_written [] n h c = absurd c
one_written (t ∷ ts) zero h c = h.0
one_written (t ∷ ts) (suc n) h c = one_written ts n h.1 c

one_or_void : (ts : List CType) (n : ℕ) → AllWrittenOrVoid ts → IsCarrier (unwrap_or (slice_get ts n) CType.Void) → IsWritten (unwrap_or (slice_get ts n) CType.Void)
one_or_void [] n h c = absurd c
one_or_void (t ∷ ts) zero h c = carried t c h.0
one_or_void (t ∷ ts) (suc n) h c = one_or_void ts n h.1 c

last_or_void : (ts : List CType) (t : CType) → AllWrittenOrVoid ts → IsWrittenOrVoid t → AllWrittenOrVoid (ts ++ t ∷ [])
last_or_void [] t h g = (g, tt)
last_or_void (u ∷ ts) t h g = (h.0, last_or_void ts t h.1 g)

element_good : (t : NeonLane) → GoodInteger (forms.element_type t)
element_good lane.U8 = tt
element_good lane.U16 = tt
element_good lane.U32 = tt
element_good lane.U64 = tt
element_good lane.S8 = tt
element_good lane.S16 = tt
element_good lane.S32 = tt
element_good lane.S64 = tt

-- what a row that doesn't store gives
row_written : (f : Form) → is_nothing (forms.signature_of f).result ≡ false → IsWritten (type_of_kind (forms.signature_of f).result)
row_written (form.Reduce op t) h = element_good (forms.lane_of t)
row_written (form.ReduceHalf op t) h = element_good (forms.lane_of t)
row_written (form.GetLane t) h = element_good t
row_written (form.Load transfer.D) h = tt
row_written (form.Load transfer.Q) h = tt
row_written (form.Load transfer.Pair) h = tt
row_written (form.Store what) h = absurd (cc)
row_written f h = tt

row_or_void : (f : Form) → IsWrittenOrVoid (type_of_kind (forms.signature_of f).result)
row_or_void (form.Reduce op t) = element_good (forms.lane_of t)
row_or_void (form.ReduceHalf op t) = element_good (forms.lane_of t)
row_or_void (form.GetLane t) = element_good t
row_or_void (form.Load transfer.D) = tt
row_or_void (form.Load transfer.Q) = tt
row_or_void (form.Load transfer.Pair) = tt
row_or_void (form.Store what) = tt
row_or_void f = tt

operator_written : (o : BinOp) (t : CType) → IsPromoted t → IsWritten (operator_type o t)
operator_written o t h = at (is_comparison o)
  where
    at : (b : Bool) → IsWritten (if b then CType.Int int.Int else t)
    at true = tt
    at false = promoted_written t h

converted_written : (t : IntType) (u : CType) → IsConverted t u → GoodInteger t
converted_written t (CType.Int s) h = named_good t h
converted_written t u h = absurd h

term_type : (ps ss : List CType) → AllWritten ps → AllWrittenOrVoid ss → (t : Term) → IsFormed ps ss t → IsWrittenOrVoid (formed.type_of ps ss t)
term_type ps ss p s (term.Param n) h = or_void (formed.type_of ps ss (term.Param n)) (one_written ps n p h)
term_type ps ss p s (term.Step n) h = or_void (formed.type_of ps ss (term.Step n)) (one_or_void ss n s h)
term_type ps ss p s (term.Const r) h = tt
term_type ps ss p s (term.Int n) h = promoted_good n.ty h.0
term_type ps ss p s (term.Call op all imm) h = row_or_void (form_of op)
term_type ps ss p s (term.PairOf a b) h = tt
term_type ps ss p s (term.Half a k) h = tt
term_type ps ss p s (term.Scalar o a b) h = or_void (operator_type o (formed.type_of ps ss a)) (operator_written o (formed.type_of ps ss a) h.0)
term_type ps ss p s (term.Convert t a) h = converted_written t (formed.type_of ps ss a) h.0
term_type ps ss p s (term.Choice c a b) h = term_type ps ss p s a h.4
term_type ps ss p s (term.Shifted a b) h = tt
term_type ps ss p s (term.ByteAt a) h = tt
term_type ps ss p s (term.SetByte a b) h = tt

-- a step with a value
step_type : (ps ss : List CType) → AllWritten ps → AllWrittenOrVoid ss → (t : Term) → IsFormed ps ss t → is_void t ≡ false → IsWritten (formed.type_of ps ss t)
step_type ps ss p s (term.Param n) h v = one_written ps n p h
step_type ps ss p s (term.Step n) h v = one_or_void ss n s h
step_type ps ss p s (term.Const r) h v = tt
step_type ps ss p s (term.Int n) h v = promoted_good n.ty h.0
step_type ps ss p s (term.Call op all imm) h v = row_written (form_of op) v
step_type ps ss p s (term.PairOf a b) h v = tt
step_type ps ss p s (term.Half a k) h v = tt
step_type ps ss p s (term.Scalar o a b) h v = operator_written o (formed.type_of ps ss a) h.0
step_type ps ss p s (term.Convert t a) h v = converted_written t (formed.type_of ps ss a) h.0
step_type ps ss p s (term.Choice c a b) h v = chosen_written (formed.type_of ps ss a) h.1 (term_type ps ss p s a h.4)
step_type ps ss p s (term.Shifted a b) h v = tt
step_type ps ss p s (term.ByteAt a) h v = tt
step_type ps ss p s (term.SetByte a b) h v = tt

-- ---- statements

pub record FineStatement (s : Statement) : Type 0 where
  pub good : GoodStatement s
  pub plain : PlainStatement s

abbrev AllFineStatements : List Statement → Type 0
AllFineStatements [] = Unit {0}
AllFineStatements (s ∷ rest) = FineStatement s × AllFineStatements rest

both_statements : (xs ys : List Statement) → AllFineStatements xs → AllFineStatements ys → AllFineStatements (xs ++ ys)
both_statements [] ys h g = g
both_statements (x ∷ xs) ys h g = (h.0, both_statements xs ys h.1 g)

all_good : (xs : List Statement) → AllFineStatements xs → GoodStatements (and_then xs NoStatements)
all_good [] h = tt
all_good (x ∷ xs) h = (h.0.good, all_good xs h.1)

all_plain : (xs : List Statement) → AllFineStatements xs → PlainStatements (and_then xs NoStatements)
all_plain [] h = tt
all_plain (x ∷ xs) h = (h.0.plain, all_plain xs h.1)

object_good : (place : Place) (name : List ℕ) (t : CType) (e : Tree) → GoodName name → IsWritten t → Fine e → GoodObject (object_of place (variable name t) (Some e))
object_good place name t e n w f = record { named = n; typed = written_object t false w; shaped = written_shape t (Some e) w; length = tt; align = tt; init = f.good; list = tt }

declared_fine : (place : Place) (name : List ℕ) (e : Tree) → GoodName name → IsWritten (type_of e) → Fine e → FineStatement (statement_over place name false e)
declared_fine place name e n w f = record { good = (object_good place name (type_of e) e n w f, tt); plain = ((tt, (tt, (f.plain, tt))), tt) }

statement_fine : (place : Place) (name : List ℕ) (void : Bool) (e : Tree) → GoodName name → Fine e → (void ≡ false → IsWritten (type_of e)) → FineStatement (statement_over place name void e)
statement_fine place name true e n f w = record { good = f.good; plain = f.plain }
statement_fine place name false e n f w = declared_fine place name e n (w refl) f

-- ---- variables

variable_fine : (place : Place) (v : Variable) → GoodName v.name → Fine (named place v)
variable_fine place v n = record { good = n; plain = tt }

stand_last : (ts : List CType) (es : List Tree) (t : CType) (e : Tree) → Stand ts es → Fine e → type_of e ≡ t → Stand (ts ++ t ∷ []) (es ++ e ∷ [])
stand_last [] [] t e h f g = (f, g, tt)
stand_last (u ∷ ts) (x ∷ es) t e h f g = (h.0, h.1, stand_last ts es t e h.2 f g)
stand_last [] (x ∷ es) t e h f g = absurd h
stand_last (u ∷ ts) [] t e h f g = absurd h

params_stand : (place : Place) (k : ℕ) (ts : List CType) → k + length ts < 2 ^ 64 → Stand ts (map (named place) (params_from k ts))
params_stand place k [] l = tt
params_stand place k (t ∷ ts) l = (variable_fine place (variable (param_name k) t) (param_named k (omega (arith, l))), refl, params_stand place (k + 1) ts (omega (arith, l)))

-- ---- the body

record Body (place : Place) (q : List Variable) (vs : List Variable) (rest : List Term) (result : Option Term) : Type 0 where
  pub steps : AllFineStatements (steps_written place q vs rest ++ returned (pen_over place q (steps_after place q vs rest)) result)
  pub ty : GoodObjectType (result_type (pen_over place q (steps_after place q vs rest)) result) true
  pub no_array : IsNoArray (result_type (pen_over place q (steps_after place q vs rest)) result)
  pub plain : is_array (result_type (pen_over place q (steps_after place q vs rest)) result) ≡ false

end_fine : (place : Place) (q vs : List Variable) (ps ss : List CType) → Stand ps (map (named place) q) → Stand ss (map (named place) vs) → AllWritten ps → AllWrittenOrVoid ss → (result : Option Term) → IsResult ps ss result
    → Body place q vs [] result
end_fine place q vs ps ss p s w v None h = record { steps = tt; ty = tt; no_array = tt; plain = refl }
end_fine place q vs ps ss p s w v (Some t) h =
    let f = fine place (map (named place) q) (map (named place) vs) ps ss p s t h.1 in
    let same = typed place (map (named place) q) (map (named place) vs) ps ss p s t in
    let is = carried (formed.type_of ps ss t) h.0 (term_type ps ss w v t h.1) in
    let here : IsWritten (type_of (written (pen_over place q vs) t)) = subst IsWritten (sym same) is in
    record {
      steps = (record { good = f.good; plain = f.plain }, tt);
      ty = written_object (type_of (written (pen_over place q vs) t)) true here;
      no_array = written_no_array (type_of (written (pen_over place q vs) t)) here;
      plain = written_plain (type_of (written (pen_over place q vs) t)) here;
    }

body_fine : (place : Place) (q vs : List Variable) (ps ss : List CType) → Stand ps (map (named place) q) → Stand ss (map (named place) vs) → AllWritten ps → AllWrittenOrVoid ss → (rest : List Term) (result : Option Term)
    → FormedFrom ps ss rest result → length vs + length rest < 2 ^ 64 → Body place q vs rest result
body_fine place q vs ps ss p s w v [] result h l = end_fine place q vs ps ss p s w v result h
body_fine place q vs ps ss p s w v (t ∷ rest) result h l =
    let e = written (pen_over place q vs) t in
    let f = fine place (map (named place) q) (map (named place) vs) ps ss p s t h.0 in
    let same = typed place (map (named place) q) (map (named place) vs) ps ss p s t in
    let x = step_variable place q vs t in
    let name = step_named (length vs) (omega (arith, l)) in
    let statement = statement_fine place (step_name (length vs)) (is_void t) e name f (λ z. subst IsWritten (sym same) (step_type ps ss w v t h.0 z)) in
    let stands = stand_last ss (map (named place) vs) (formed.type_of ps ss t) (named place x) s (variable_fine place x name) same in
    let next = body_fine place q (vs ++ x ∷ []) ps (ss ++ formed.type_of ps ss t ∷ []) p (subst (Stand (ss ++ formed.type_of ps ss t ∷ [])) (sym (map-append (named place) vs (x ∷ []))) stands) w
    (last_or_void ss (formed.type_of ps ss t) v (term_type ps ss w v t h.0)) rest result h.1 (omega (arith, l, length-append vs (x ∷ []))) in
    record { steps = (statement, next.steps); ty = next.ty; no_array = next.no_array; plain = next.plain }

-- ---- functions

params_good : (place : Place) (k : ℕ) (ts : List CType) → k + length ts < 2 ^ 64 → AllWritten ts → GoodParameters (map (λ v. object_of place v None) (params_from k ts))
params_good place k [] l w = tt
params_good place k (t ∷ ts) l w = (
  record {
    good = record { named = param_named k (omega (arith, l)); typed = written_object t false w.0; shaped = written_shape t None w.0; length = tt; align = tt; init = tt; list = tt };
    no_array = written_no_array t w.0;
    no_align = refl;
    no_init = refl;
  },
  params_good place (k + 1) ts (omega (arith, l)) w.1,
)

params_plain : (place : Place) (k : ℕ) (ts : List CType) → AllWritten ts → PlainParameters (map (λ v. object_of place v None) (params_from k ts))
params_plain place k [] w = tt
params_plain place k (t ∷ ts) w = (((tt, (tt, (tt, tt))), written_plain t w.0), params_plain place (k + 1) ts w.1)

pub record FineFunction (f : Definition) : Type 0 where
  pub good : GoodFunction f
  pub plain : PlainFunction f

pub function_fine : (name : List ℕ) (q : Sequence) → GoodName name → IsCallable q → AllWritten q.params → FineFunction (function_of start name q)
function_fine name q n c w =
    let ps = params_from 0 q.params in
    let body = body_fine start ps [] q.params [] (params_stand start 0 q.params (omega (arith, c))) tt w tt q.steps q.result c.0.1 (omega (arith, c)) in
    record {
      good = record {
        named = n;
        result = body.ty;
        no_array = body.no_array;
        params = params_good start 0 q.params (omega (arith, c)) w;
        body = all_good (steps_written start ps [] q.steps ++ returned (pen_over start ps (steps_after start ps [] q.steps)) q.result) body.steps;
      };
      plain = (body.plain, (params_plain start 0 q.params w, all_plain (steps_written start ps [] q.steps ++ returned (pen_over start ps (steps_after start ps [] q.steps)) q.result) body.steps));
    }
