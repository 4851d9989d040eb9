-- A call of the function of a sequence gives its value and its memory, and spends no turn.
use Rattle.std.proofs.Common.{◌≡◌, ℕ, zero, suc, ◌+◌, ◌<◌, ◌^◌, ◌++◌, List, [], ◌∷◌, map, Bool, true, false, Option, Some, None, refl, sym, ap, subst, ◌∙◌, arith, append-nil, append_assoc, get_or, length}
use Rattle.std.specs.Prelude.{◌&&◌, ◌||◌, not, slice_get, if◌then◌else◌}
use Rattle.std.specs.Option.{option_and_then}
use Rattle.std.specs.Str.{bytes_eq}
use Rattle.std.proofs.lemmas.Slice.Eq.{bytes_eq-Decides}
use Rattle.c_text.specs.declared.tokens.Place.{Place}
use Rattle.c_tree.specs.declared.types.CType.{CType}
use Rattle.c_tree.specs.Tree as tree
use Rattle.c_tree.specs.Tree.{Tree, Trees, Node, NoTrees, More, Statement, Statements, NoStatements}
use Rattle.c_tree.specs.View.{and_then}
use Rattle.address_taken.specs.Addressed.{takes, takes_in_all, takes_statements}
use Rattle.lane_core.specs.declared.table.ParamKind.{ParamKind}
use Rattle.lane_core.specs.declared.table.ParamKind.TheVariants as kind
use Rattle.lane_core.specs.Table.{params_of}
use Rattle.scalar_core.specs.Operators.{is_comparison}
use Rattle.c_memory.specs.declared.value.Value.{Value}
use Rattle.c_memory.specs.declared.blocks.Block.{Block}
use Rattle.c_memory.specs.MeaningState.{State, Binding, Location, Apart, Done, found}
use Rattle.c_memory.specs.MeaningObjects.{value_named, half_named}
use Rattle.c_memory.specs.Meaning as meaning
use Rattle.c_tree.specs.Types.{is_array}
use Rattle.c_memory.specs.Meaning.{Calls, Flow, Next, Returned, sequence, act, object_value, begin_parameter, begin_parameters, call_of, result}
use Rattle.c_memory.specs.Memory.{ended_from}
use Rattle.neon_table.specs.Rows.{signature_of}
use Rattle.seq_core.specs.Rows.{AreRows}
use Rattle.seq_core.specs.Terms as term
use Rattle.seq_core.specs.Terms.{Term, Terms, Sequence}
use Rattle.seq_core.specs.Values.{step_value, halved}
use Rattle.seq_core.specs.Actions.{then_acts, just, called_in, value_in, values_in, is_void, storing_in, step_in, steps_in, result_in, sequence_in}
use Rattle.seq_core.specs.Formed.{vector, type_of_kind, type_of, IsFormed, IsCarrier, AreCarriers, IsResult, FormedFrom, WellFormed}
use Rattle.seq_core.specs.Written.{Pen, nothing, written, all_written, with_constant, constant}
use Rattle.seq_core.specs.Functions.{Variable, step_name, params_from, named, pen_over, object_of, step_variable, step_statement, steps_written, steps_after, returned, result_type, function_of}
use Rattle.seq_core.proofs.Gives.{at, LeadsIt}
use Rattle.seq_core.proofs.RowCalls.{first_of, second_of}
use Rattle.seq_core.proofs.Leads.{Read, some_same, acted, just_is, leads, all_lead, row_leads}
use Rattle.seq_core.proofs.Names.{is_new, NamedFrom, named_new, named_push, length_push, steps_differ, steps_are_new, NewParameters, params_are_new}
use Rattle.seq_core.proofs.Sizes.{sequence_keeps}

-- ---- no address is taken in what is written

abbrev pub Plain : List Tree → Type 0
Plain all = (x : List ℕ) (n : ℕ) (d : Tree) → takes x d ≡ false → takes x (get_or all n d) ≡ false

or_false : {a b : Bool} → a ≡ false → b ≡ false → (a || b) ≡ false
or_false h i = rw (h, i) refl

and_false : (a : Bool) {b : Bool} → b ≡ false → (a && b) ≡ false
and_false true h = h
and_false false h = refl

left_false : (a b : Bool) → (a || b) ≡ false → a ≡ false
left_false true b h = h
left_false false b h = refl

right_false : (a b : Bool) → (a || b) ≡ false → b ≡ false
right_false true b h = absurd (grind (arith, h))
right_false false b h = h

takes_placed : (place : Place) (x : List ℕ) (ks : List ParamKind) (all : Trees) (imm : ℕ) → takes_in_all x all ≡ false → takes_in_all x (with_constant place ks all imm) ≡ false
takes_placed place x [] all imm h = h
takes_placed place x (kind.Immediate ∷ ks) all imm h = takes_placed place x ks all imm h
takes_placed place x (k ∷ ks) NoTrees imm h = refl
takes_placed place x (k ∷ ks) (More a rest) imm h = or_false (left_false (takes x a) (takes_in_all x rest) h) (takes_placed place x ks rest imm (right_false (takes x a) (takes_in_all x rest) h))

takes_if : (b : Bool) (x : List ℕ) (e d : Tree) → takes x e ≡ false → takes x d ≡ false → takes x (if b then e else d) ≡ false
takes_if true x e d h i = h
takes_if false x e d h i = i

mutual
  pub takes_written : (p : Pen) (x : List ℕ) → Plain p.params → Plain p.steps → (t : Term) → takes x (written p t) ≡ false
  takes_written p x h i (term.Param n) = h x n (nothing p.place) refl
  takes_written p x h i (term.Step n) = i x n (nothing p.place) refl
  takes_written p x h i (term.Const r) = takes_if (bytes_eq r _) x _ _ refl refl
  takes_written p x h i (term.Int n) = refl
  takes_written p x h i (term.Call op all imm) = takes_placed p.place x (params_of (signature_of op)) (all_written p all) imm (takes_all p x h i all)
  takes_written p x h i (term.PairOf a b) = or_false (takes_written p x h i a) (takes_written p x h i b)
  takes_written p x h i (term.Half a k) = takes_written p x h i a
  takes_written p x h i (term.Scalar o a b) = or_false (takes_written p x h i a) (takes_written p x h i b)
  takes_written p x h i (term.Convert t a) = takes_written p x h i a
  takes_written p x h i (term.Choice c a b) = or_false (takes_written p x h i c) (or_false (takes_written p x h i a) (takes_written p x h i b))
  takes_written p x h i (term.Shifted a b) = or_false (takes_written p x h i a) (takes_written p x h i b)
  takes_written p x h i (term.ByteAt a) = takes_written p x h i a
  takes_written p x h i (term.SetByte a b) = or_false (takes_written p x h i a) (takes_written p x h i b)

  takes_all : (p : Pen) (x : List ℕ) → Plain p.params → Plain p.steps → (all : Terms) → takes_in_all x (all_written p all) ≡ false
  takes_all p x h i term.NoTerms = refl
  takes_all p x h i (term.More t rest) = or_false (takes_written p x h i t) (takes_all p x h i rest)

names_plain : (place : Place) (vs : List Variable) → Plain (map (named place) vs)
names_plain place [] x n d h = h
names_plain place (v ∷ vs) x zero d h = refl
names_plain place (v ∷ vs) x (suc n) d h = names_plain place vs x n d h

takes_over : (place : Place) (ps ss : List Variable) (x : List ℕ) (t : Term) → takes x (written (pen_over place ps ss) t) ≡ false
takes_over place ps ss x t = takes_written (pen_over place ps ss) x (names_plain place ps) (names_plain place ss) t

-- the statements of a sequence's function, behind these steps
abbrev body : Place → List Variable → List Variable → List Term → Option Term → Statements
body place ps ss ts r = and_then (steps_written place ps ss ts ++ returned (pen_over place ps (steps_after place ps ss ts)) r) NoStatements

takes_step : (b : Bool) (x : List ℕ) (e : Tree) (place : Place) (v : Variable) (rest : Statements) → takes x e ≡ false → takes_statements x rest ≡ false
    → takes_statements x (tree.Then (if b then tree.Run e else tree.Declare (object_of place v (Some e) ∷ [])) rest) ≡ false
takes_step true x e place v rest h i = or_false h i
takes_step false x e place v rest h i = or_false (and_false _ (or_false h refl)) (and_false _ i)

takes_body : (place : Place) (ps ss : List Variable) (ts : List Term) (r : Option Term) (x : List ℕ) → takes_statements x (body place ps ss ts r) ≡ false
takes_body place ps ss [] None x = refl
takes_body place ps ss [] (Some t) x = or_false (takes_over place ps ss x t) refl
takes_body place ps ss (t ∷ ts) r x =
    let v = step_variable place ps ss t in
    takes_step (is_void t) x (written (pen_over place ps ss) t) place v (body place ps (ss ++ v ∷ []) ts r) (takes_over place ps ss x t) (takes_body place ps (ss ++ v ∷ []) ts r x)

-- ---- no array is written

abbrev pub NoArrays : List Variable → Type 0
NoArrays [] = Unit {0}
NoArrays (x ∷ xs) = (is_array x.ty ≡ false) × NoArrays xs

no_arrays_push : (xs : List Variable) (x : Variable) → NoArrays xs → is_array x.ty ≡ false → NoArrays (xs ++ x ∷ [])
no_arrays_push [] x h e = (e, tt)
no_arrays_push (y ∷ ys) x h e = (h.0, no_arrays_push ys x h.1 e)

names_no_array : (place : Place) (xs : List Variable) → NoArrays xs → (n : ℕ) (d : Tree) → is_array (meaning.type_of d) ≡ false → is_array (meaning.type_of (get_or (map (named place) xs) n d)) ≡ false
names_no_array place [] h n d e = e
names_no_array place (x ∷ xs) h zero d e = h.0
names_no_array place (x ∷ xs) h (suc n) d e = names_no_array place xs h.1 n d e

kind_no_array : (k : ParamKind) → is_array (type_of_kind k) ≡ false
kind_no_array (kind.Lane t wide) = refl
kind_no_array kind.Pair = refl
kind_no_array (kind.Scalar t) = refl
kind_no_array (kind.PointerTo e constant) = refl
kind_no_array _ = refl

vector_if : (b : Bool) (e d : Tree) → is_array (meaning.type_of e) ≡ false → is_array (meaning.type_of d) ≡ false → is_array (meaning.type_of (if b then e else d)) ≡ false
vector_if true e d h i = h
vector_if false e d h i = i

operator_no_array : (b : Bool) (t u : CType) → is_array t ≡ false → is_array u ≡ false → is_array (if b then t else u) ≡ false
operator_no_array true t u h i = h
operator_no_array false t u h i = i

written_no_array : (place : Place) (ps ss : List Variable) → NoArrays ps → NoArrays ss → (t : Term) → is_array (meaning.type_of (written (pen_over place ps ss) t)) ≡ false
written_no_array place ps ss h i (term.Param n) = names_no_array place ps h n (nothing place) refl
written_no_array place ps ss h i (term.Step n) = names_no_array place ss i n (nothing place) refl
written_no_array place ps ss h i (term.Const r) = vector_if (bytes_eq r _) _ _ refl refl
written_no_array place ps ss h i (term.Int n) = refl
written_no_array place ps ss h i (term.Call op all imm) = kind_no_array (signature_of op).result
written_no_array place ps ss h i (term.PairOf a b) = refl
written_no_array place ps ss h i (term.Half a k) = refl
written_no_array place ps ss h i (term.Scalar o a b) = operator_no_array (is_comparison o) _ _ refl (written_no_array place ps ss h i a)
written_no_array place ps ss h i (term.Convert t a) = refl
written_no_array place ps ss h i (term.Choice c a b) = written_no_array place ps ss h i a
written_no_array place ps ss h i (term.Shifted a b) = refl
written_no_array place ps ss h i (term.ByteAt a) = refl
written_no_array place ps ss h i (term.SetByte a b) = refl

carrier_no_array : (t : CType) → IsCarrier t → is_array t ≡ false
carrier_no_array (CType.Array e n constant) h = absurd h
carrier_no_array _ h = refl

pub params_no_array : (k : ℕ) (ts : List CType) → AreCarriers ts → NoArrays (params_from k ts)
params_no_array k [] h = tt
params_no_array k (t ∷ ts) h = (carrier_no_array t h.0, params_no_array (k + 1) ts h.1)

-- ---- variables in scope

pub bytes_same : (x : List ℕ) → bytes_eq x x ≡ true
bytes_same x = (bytes_eq-Decides x x).1 refl

-- each variable that has a value is in scope with it, apart from memory
abbrev pub Bound : List Binding → List Variable → List (Option Value) → Type 0
Bound objects [] [] = Unit {0}
Bound objects (x ∷ xs) (Some v ∷ vs) = (found x.name objects ≡ Some (record { name = x.name; ty = x.ty; location = Apart (Some v) })) × Bound objects xs vs
Bound objects (x ∷ xs) (None ∷ vs) = Bound objects xs vs
Bound objects _ _ = ⊥

not_true : (b : Bool) → not b ≡ true → b ≡ false
not_true true h = absurd (grind (arith, h))
not_true false h = refl

bound_still : (objects : List Binding) (m : List ℕ) (t : CType) (l : Location) (xs : List Variable) (vs : List (Option Value)) → is_new m xs ≡ true → Bound objects xs vs → Bound (record { name = m; ty = t; location = l } ∷ objects) xs vs
bound_still objects m t l [] [] n h = tt
bound_still objects m t l (x ∷ xs) (Some v ∷ vs) n h =
    let e = not_true (bytes_eq x.name m) (first_of (not (bytes_eq x.name m)) (is_new m xs) n) in
    (rw e h.0, bound_still objects m t l xs vs (second_of (not (bytes_eq x.name m)) (is_new m xs) n) h.1)
bound_still objects m t l (x ∷ xs) (None ∷ vs) n h = bound_still objects m t l xs vs (second_of (not (bytes_eq x.name m)) (is_new m xs) n) h
bound_still objects m t l [] (v ∷ vs) n h = absurd h
bound_still objects m t l (x ∷ xs) [] n h = absurd h

bound_push : (objects : List Binding) (x : Variable) (o : Option Value) (xs : List Variable) (vs : List (Option Value)) → Bound objects xs vs → Bound objects (x ∷ []) (o ∷ []) → Bound objects (xs ++ x ∷ []) (vs ++ o ∷ [])
bound_push objects x o [] [] h i = i
bound_push objects x o (y ∷ ys) (Some w ∷ ws) h i = (h.0, bound_push objects x o ys ws h.1 i)
bound_push objects x o (y ∷ ys) (None ∷ ws) h i = bound_push objects x o ys ws h i
bound_push objects x o [] (w ∷ ws) h i = absurd h
bound_push objects x o (y ∷ ys) [] h i = absurd h

object_is : (t : CType) (b : Binding) (s : State) → is_array t ≡ false → object_value t b s ≡ value_named b s
object_is (CType.Array e n k) b s h = absurd (grind (arith, h))
object_is _ b s h = refl

here : (o : Option Value) (w : Value) → option_and_then (λ (x : Option Value). x) (Some o) ≡ Some w → o ≡ Some w
here o w e = e

read_all : (c : Calls) (s : State) (place : Place) (xs : List Variable) (vs : List (Option Value)) (d : Tree) → NoArrays xs → Bound s.objects xs vs → (n : ℕ) (v : Value) (m : List Block) → step_value vs n ≡ Some v → LeadsIt c s (get_or (map (named place) xs) n d) m v m
read_all c s place [] [] d a h n v m e = absurd (grind (arith, e))
read_all c s place [] (w ∷ ws) d a h n v m e = absurd h
read_all c s place (x ∷ xs) [] d a h n v m e = absurd h
read_all c s place (x ∷ xs) (Some w ∷ ws) d a h zero v m e =
    let q : w ≡ v = some_same e in
    subst (λ u. LeadsIt c s (named place x) m u m) q (rw (h.0, object_is x.ty (record { name = x.name; ty = x.ty; location = Apart (Some w) }) (at s m) a.0) refl)
read_all c s place (x ∷ xs) (None ∷ ws) d a h zero v m e = absurd (grind (arith, e))
read_all c s place (x ∷ xs) (Some w ∷ ws) d a h (suc n) v m e = read_all c s place xs ws d a.1 h.1 n v m e
read_all c s place (x ∷ xs) (None ∷ ws) d a h (suc n) v m e = read_all c s place xs ws d a.1 h n v m e

half_read : (j : ℕ) (v w : Value) (b : Binding) (s : State) → b.location ≡ Apart (Some v) → halved j v ≡ Some w → half_named j b s ≡ Done w s
half_read zero (Value.R32 r) w b s l e = rw l (ap (λ y. Done y s) (some_same e))
half_read (suc j) (Value.R32 r) w b s l e = rw l (ap (λ y. Done y s) (some_same e))
half_read zero _ w b s l e = absurd (grind (arith, e))
half_read (suc j) _ w b s l e = absurd (grind (arith, e))

halves_all : (c : Calls) (s : State) (place : Place) (xs : List Variable) (vs : List (Option Value)) (d : Tree) → Bound s.objects xs vs → (n j : ℕ) (v w : Value) (m : List Block) → step_value vs n ≡ Some v → halved j v ≡ Some w
    → LeadsIt c s (Node place vector (tree.Half (get_or (map (named place) xs) n d) j)) m w m
halves_all c s place [] [] d h n j v w m e f = absurd (grind (arith, e))
halves_all c s place [] (u ∷ us) d h n j v w m e f = absurd h
halves_all c s place (x ∷ xs) [] d h n j v w m e f = absurd h
halves_all c s place (x ∷ xs) (Some u ∷ us) d h zero j v w m e f =
    let q : u ≡ v = some_same e in
    rw (h.0, half_read j u w (record { name = x.name; ty = x.ty; location = Apart (Some u) }) (at s m) refl (subst (λ y. halved j y ≡ Some w) (sym q) f)) refl
halves_all c s place (x ∷ xs) (None ∷ us) d h zero j v w m e f = absurd (grind (arith, e))
halves_all c s place (x ∷ xs) (Some u ∷ us) d h (suc n) j v w m e f = halves_all c s place xs us d h.1 n j v w m e f
halves_all c s place (x ∷ xs) (None ∷ us) d h (suc n) j v w m e f = halves_all c s place xs us d h n j v w m e f

-- the values of parameters, as those of steps that all have one
pub some_there : (vs : List Value) (n : ℕ) (v : Value) → slice_get vs n ≡ Some v → step_value (map Some vs) n ≡ Some v
some_there [] n v e = absurd (grind (arith, e))
some_there (w ∷ ws) zero v e = e
some_there (w ∷ ws) (suc n) v e = some_there ws n v e

abbrev read_of : (c : Calls) (place : Place) → AreRows c → (s : State) (ps ss : List Variable) (vs : List Value) (ws : List (Option Value)) → NoArrays ps → NoArrays ss → Bound s.objects ps (map Some vs) → Bound s.objects ss ws → Read (pen_over place ps ss) c s vs ws
read_of c place rows s ps ss vs ws a b h i = record {
  rows = rows;
  params = λ k v m e. read_all c s place ps (map Some vs) (nothing place) a h k v m (some_there vs k v e);
  steps = read_all c s place ss ws (nothing place) b i;
  param_halves = λ k j v w m e f. halves_all c s place ps (map Some vs) (nothing place) h k j v w m (some_there vs k v e) f;
  step_halves = halves_all c s place ss ws (nothing place) i;
}

-- a variable more in scope
abbrev pushed : State → Variable → Location → State
pushed s x l = record s { objects = record { name = x.name; ty = x.ty; location = l } ∷ s.objects }

declared_step : (c : Calls) (s : State) (place : Place) (x : Variable) (e : Tree) (m n : List Block) (v : Value) (later : List ℕ → Bool) → is_array x.ty ≡ false → takes x.name e ≡ false → later x.name ≡ false
    → LeadsIt c (pushed s x (Apart None)) e m v n → act (tree.Declare (object_of place x (Some e) ∷ [])) later c (at s m) ≡ Done Next (at (pushed s x (Apart (Some v))) n)
declared_step c s place x e m n v later a t l g = rw (a, t, l, g, bytes_same x.name, bytes_same x.name) refl

-- ---- steps and the value

void_leads : (p : Pen) (c : Calls) (s : State) (ps : List Value) (ss : List (Option Value)) → Read p c s ps ss → (ts us : List CType) (t : Term) → IsFormed ts us t → (later : List ℕ → Bool) (m : List Block) (o : Option Value) (n : List Block) → storing_in ps ss t m ≡ Some (o, n)
    → (o ≡ None) × (act (tree.Run (written p t)) later c (at s m) ≡ Done Next (at s n))
void_leads p c s ps ss g ts us (term.Call op all imm) f later m o n h =
    let b = acted (then_acts (values_in ps ss all) (called_in op imm)) (λ u. just (Some None)) m o n h in
    let j = just_is (Some None) b.1 o n b.3 in
    let d = acted (values_in ps ss all) (called_in op imm) m b.0 b.1 b.2 in
    (sym (some_same j.0), rw (row_leads p c s g.rows op all imm d.0 m d.1 b.0 b.1 (all_lead p c s ps ss g ts us all f.2 m d.0 d.1 d.2) d.3) (ap (λ k. Done Next (at s k)) j.1))
void_leads p c s ps ss g ts us _ f later m o n h = absurd (grind (arith, h))

abbrev flow_of : Option Term → Option Value → Flow
flow_of None o = Next
flow_of (Some r) o = Returned o

result_leads : (c : Calls) (place : Place) (s : State) (ps ss : List Variable) (vs : List Value) (ws : List (Option Value)) → Read (pen_over place ps ss) c s vs ws → (ts us : List CType) (r : Option Term) → IsResult ts us r
    → (m : List Block) (o : Option Value) (k : List Block) → result_in vs r ws m ≡ Some (o, k) → sequence (and_then (returned (pen_over place ps ss) r) NoStatements) c (at s m) ≡ Done (flow_of r o) (at s k)
result_leads c place s ps ss vs ws g ts us None f m o k e = let j = just_is (Some None) m o k e in ap (λ x. Done Next (at s x)) j.1
result_leads c place s ps ss vs ws g ts us (Some r) f m o k e =
    let b = acted (value_in vs ws r) (λ v. just (Some (Some v))) m o k e in
    let j = just_is (Some (Some b.0)) b.1 o k b.3 in
    rw (leads (pen_over place ps ss) c s vs ws g ts us r f.1 m b.0 b.1 b.2) (ap (λ x. Done (Returned (Some b.0)) (at s x)) j.1 ∙ ap (λ x. Done (Returned x) (at s k)) (some_same j.0))

abbrev with_memory : State → List Binding → List Block → State
with_memory s objects m = record s { objects = objects; memory = m }

-- what is known where steps begin
record Ready (ps : List Variable) (vs : List Value) (s : State) (ss : List Variable) (ws : List (Option Value)) (room : ℕ) : Type 0 where
  fresh : (j : ℕ) → is_new (step_name j) ps ≡ true
  params : NoArrays ps
  steps : NoArrays ss
  given : Bound s.objects ps (map Some vs)
  before : Bound s.objects ss ws
  names : NamedFrom step_name 0 ss
  fits : length ss + room < 2 ^ 64

-- behind a step without a value
ready_void : (place : Place) (ps ss : List Variable) (vs : List Value) (ws : List (Option Value)) (s : State) (t : Term) (room : ℕ) → Ready ps vs s ss ws (suc room) → Ready ps vs s (ss ++ step_variable place ps ss t ∷ []) (ws ++ None ∷ []) room
ready_void place ps ss vs ws s t room g =
    let x = step_variable place ps ss t in
    record {
      fresh = g.fresh;
      params = g.params;
      steps = no_arrays_push ss x g.steps (written_no_array place ps ss g.params g.steps t);
      given = g.given;
      before = bound_push s.objects x None ss ws g.before tt;
      names = named_push step_name 0 ss x g.names (length ss) refl (omega arith);
      fits = omega (arith, g.fits, length_push ss x);
    }

-- a variable for the next step comes into scope
ready_pushed : (place : Place) (ps ss : List Variable) (vs : List Value) (ws : List (Option Value)) (s : State) (t : Term) (room : ℕ) (l : Location) → Ready ps vs s ss ws (suc room) → Ready ps vs (pushed s (step_variable place ps ss t) l) ss ws (suc room)
ready_pushed place ps ss vs ws s t room l g =
    let x = step_variable place ps ss t in
    record {
      fresh = g.fresh;
      params = g.params;
      steps = g.steps;
      given = bound_still s.objects x.name x.ty l ps (map Some vs) (g.fresh (length ss)) g.given;
      before = bound_still s.objects x.name x.ty l ss ws (named_new step_name steps_differ (length ss) 0 ss g.names (omega arith) (omega (arith, g.fits))) g.before;
      names = g.names;
      fits = g.fits;
    }

ready_value : (place : Place) (ps ss : List Variable) (vs : List Value) (ws : List (Option Value)) (s : State) (t : Term) (room : ℕ) (v : Value) → Ready ps vs s ss ws (suc room)
    → Ready ps vs (pushed s (step_variable place ps ss t) (Apart (Some v))) (ss ++ step_variable place ps ss t ∷ []) (ws ++ Some v ∷ []) room
ready_value place ps ss vs ws s t room v g =
    let x = step_variable place ps ss t in
    let h = ready_pushed place ps ss vs ws s t room (Apart (Some v)) g in
    record {
      fresh = h.fresh;
      params = h.params;
      steps = no_arrays_push ss x h.steps (written_no_array place ps ss h.params h.steps t);
      given = h.given;
      before = bound_push (pushed s x (Apart (Some v))).objects x (Some v) ss ws h.before (rw (bytes_same x.name) refl, tt);
      names = named_push step_name 0 ss x h.names (length ss) refl (omega arith);
      fits = omega (arith, h.fits, length_push ss x);
    }

abbrev reads : (c : Calls) (place : Place) → AreRows c → (s : State) (ps ss : List Variable) (vs : List Value) (ws : List (Option Value)) (room : ℕ) → Ready ps vs s ss ws room → Read (pen_over place ps ss) c s vs ws
reads c place rows s ps ss vs ws room g = read_of c place rows s ps ss vs ws g.params g.steps g.given g.before

-- one step, as a statement alone or with a name, and what follows
step_leads : (c : Calls) (place : Place) → AreRows c → (ps ss : List Variable) (vs : List Value) (ws : List (Option Value)) (s : State) (t : Term) (room : ℕ) → Ready ps vs s ss ws (suc room) → (ts us : List CType) → IsFormed ts us t
    → (later : List ℕ → Bool) → later (step_variable place ps ss t).name ≡ false
    → (m : List Block) (o : Option Value) (n : List Block) → step_in vs ws t m ≡ Some (o, n)
    → (s2 : State) × (act (step_statement place ps ss t) later c (at s m) ≡ Done Next (at s2 n)) × (s2.left ≡ s.left) × Ready ps vs s2 (ss ++ step_variable place ps ss t ∷ []) (ws ++ o ∷ []) room
step_leads c place rows ps ss vs ws s t room g ts us f later l m o n e = by_case (is_void t) e
  where
    p : Pen
    p = pen_over place ps ss

    x : Variable
    x = step_variable place ps ss t

    by_case : (b : Bool) → (if b then storing_in vs ws t else then_acts (value_in vs ws t) (λ v. just (Some (Some v)))) m ≡ Some (o, n)
        → (s2 : State) × (act (if b then tree.Run (written p t) else tree.Declare (object_of place x (Some (written p t)) ∷ [])) later c (at s m) ≡ Done Next (at s2 n)) × (s2.left ≡ s.left) × Ready ps vs s2 (ss ++ x ∷ []) (ws ++ o ∷ []) room
    by_case true h =
        let d = void_leads p c s vs ws (reads c place rows s ps ss vs ws (suc room) g) ts us t f later m o n h in
        (s, d.1, refl, subst (λ q. Ready ps vs s (ss ++ x ∷ []) (ws ++ q ∷ []) room) (sym d.0) (ready_void place ps ss vs ws s t room g))
    by_case false h =
        let b = acted (value_in vs ws t) (λ v. just (Some (Some v))) m o n h in
        let j = just_is (Some (Some b.0)) b.1 o n b.3 in
        let s1 = pushed s x (Apart None) in
        let given = leads p c s1 vs ws (reads c place rows s1 ps ss vs ws (suc room) (ready_pushed place ps ss vs ws s t room (Apart None) g)) ts us t f m b.0 b.1 b.2 in
        let one = declared_step c s place x (written p t) m b.1 b.0 later (written_no_array place ps ss g.params g.steps t) (takes_over place ps ss x.name t) l given in (
          pushed s x (Apart (Some b.0)),
          one ∙ ap (λ k. Done Next (at (pushed s x (Apart (Some b.0))) k)) j.1,
          refl,
          subst (λ q. Ready ps vs (pushed s x (Apart (Some b.0))) (ss ++ x ∷ []) (ws ++ q ∷ []) room) (some_same j.0) (ready_value place ps ss vs ws s t room b.0 g),
        )

body_leads : (c : Calls) (place : Place) → AreRows c → (ps ss : List Variable) (vs : List Value) (ws : List (Option Value)) (s : State) (all : List Term) (r : Option Term) → Ready ps vs s ss ws (length all)
    → (ts us : List CType) → FormedFrom ts us all r → (m : List Block) (zs : List (Option Value)) (n : List Block) → steps_in vs ws all m ≡ Some (zs, n) → (o : Option Value) (k : List Block) → result_in vs r zs n ≡ Some (o, k)
    → (objects : List Binding) × (sequence (body place ps ss all r) c (at s m) ≡ Done (flow_of r o) (record { objects = objects; memory = k; left = s.left }))
body_leads c place rows ps ss vs ws s [] r g ts us f m zs n e o k d =
    let j = just_is (Some ws) m zs n e in
    let h = subst (λ x. result_in vs r ws x ≡ Some (o, k)) (sym j.1) (subst (λ y. result_in vs r y n ≡ Some (o, k)) (sym (some_same j.0)) d) in
    (s.objects, result_leads c place s ps ss vs ws (reads c place rows s ps ss vs ws 0 g) ts us r f m o k h)
body_leads c place rows ps ss vs ws s (t ∷ all) r g ts us f m zs n e o k d =
    let x = step_variable place ps ss t in
    let b = acted (step_in vs ws t) (λ q. steps_in vs (ws ++ q ∷ []) all) m zs n e in
    let one = step_leads c place rows ps ss vs ws s t (length all) g ts us f.0 (λ z. takes_statements z (body place ps (ss ++ x ∷ []) all r)) (takes_body place ps (ss ++ x ∷ []) all r x.name) m b.0 b.1 b.2 in
    let q = body_leads c place rows ps (ss ++ x ∷ []) vs (ws ++ b.0 ∷ []) one.0 all r one.3 ts (us ++ type_of ts us t ∷ []) f.1 b.1 zs n b.3 o k d in
    (q.0, rw one.1 (subst (λ left. sequence (body place ps (ss ++ x ∷ []) all r) c (at one.0 b.1) ≡ Done (flow_of r o) (record { objects = q.0; memory = k; left = left })) one.2 q.1))

-- ---- parameters, and the call

one_begun : (s : State) (place : Place) (rest : Statements) (x : Variable) (v : Value) → takes_statements x.name rest ≡ false → begin_parameter rest (object_of place x None) v s ≡ Done tt (pushed s x (Apart (Some v)))
one_begun s place rest x v h = rw (h, bytes_same x.name, bytes_same x.name) refl

begun : (s : State) (place : Place) (rest : Statements) → ((x : List ℕ) → takes_statements x rest ≡ false) → (ps : List Variable) (vs : List Value) (qs : List Variable) (us : List (Option Value)) → Bound s.objects qs us → NewParameters qs ps → length ps ≡ length vs
    → (objects : List Binding) × (begin_parameters rest (map (λ x. object_of place x None) ps) vs s ≡ Done tt (record s { objects = objects })) × Bound objects (qs ++ ps) (us ++ map Some vs)
begun s place rest t [] [] qs us h n f = (s.objects, refl, rw (append-nil qs, append-nil us) h)
begun s place rest t (x ∷ xs) (v ∷ vs) qs us h n f =
    let s1 = pushed s x (Apart (Some v)) in
    let own : Bound s1.objects (x ∷ []) (Some v ∷ []) = (rw (bytes_same x.name) refl, tt) in
    let b = bound_push s1.objects x (Some v) qs us (bound_still s.objects x.name x.ty (Apart (Some v)) qs us n.0 h) own in
    let r = begun s1 place rest t xs vs (qs ++ x ∷ []) (us ++ Some v ∷ []) b n.1 (omega (arith, f)) in
    (r.0, rw (one_begun s place rest x v (t x.name)) r.1, subst (λ ys. Bound r.0 ys (us ++ Some v ∷ map Some vs)) (append_assoc qs (x ∷ []) xs) (subst (λ ws. Bound r.0 ((qs ++ x ∷ []) ++ xs) ws) (append_assoc us (Some v ∷ []) (map Some vs)) r.2))
begun s place rest t [] (v ∷ vs) qs us h n f = absurd (omega (arith, f))
begun s place rest t (x ∷ xs) [] qs us h n f = absurd (omega (arith, f))

params_length : (k : ℕ) (ts : List CType) → length (params_from k ts) ≡ length ts
params_length k [] = refl
params_length k (t ∷ ts) = ap suc (params_length (k + 1) ts)

last_flow : (ts us : List CType) (vs : List Value) (ws : List (Option Value)) (p : Pen) (r : Option Term) (m : List Block) (o : Option Value) (k : List Block) → result_in vs r ws m ≡ Some (o, k) → (t : State) → result (result_type p r) (flow_of r o) t ≡ Done o t
last_flow ts us vs ws p None m o k e t = ap (λ x. Done x t) (some_same (just_is (Some None) m o k e).0)
last_flow ts us vs ws p (Some r) m o k e t = refl

none_ended : (m : List Block) → ended_from (length m) m ≡ m
none_ended [] = refl
none_ended (b ∷ m) = ap (λ rest. b ∷ rest) (none_ended m)

-- the value and the memory, no turn, and the objects as before
pub call_leads : (c : Calls) → AreRows c → (tables : List Binding) (place : Place) (own : List ℕ) (q : Sequence) → WellFormed q → length q.params < 2 ^ 64 → length q.steps < 2 ^ 64 → (vs : List Value) → length q.params ≡ length vs
    → (s : State) (o : Option Value) (k : List Block) → sequence_in q vs s.memory ≡ Some (o, k) → call_of tables (function_of place own q) c vs s ≡ Done o (record s { memory = k })
call_leads c rows tables place own q f few short vs same s o k e =
    let ps = params_from 0 q.params in
    let s0 : State = record s { objects = tables } in
    let d = acted (steps_in vs [] q.steps) (result_in vs q.result) s.memory o k e in
    let b = begun s0 place (body place ps [] q.steps q.result) (takes_body place ps [] q.steps q.result) ps vs [] [] tt (params_are_new [] 0 q.params tt refl (omega (arith, few))) (params_length 0 q.params ∙ same) in
    let g : Ready ps vs (record s0 { objects = b.0 }) [] [] (length q.steps) = record {
      fresh = λ j. steps_are_new j 0 q.params;
      params = params_no_array 0 q.params f.0;
      steps = tt;
      given = b.2;
      before = tt;
      names = tt;
      fits = omega (arith, short);
    } in
    let h = body_leads c place rows ps [] vs [] (record s0 { objects = b.0 }) q.steps q.result g q.params [] f.1 s.memory d.0 d.1 d.2 o k d.3 in
    let z = last_flow q.params [] vs d.0 (pen_over place ps (steps_after place ps [] q.steps)) q.result d.1 o k d.3 (record { objects = h.0; memory = k; left = s.left }) in
    rw (b.1, h.1, z, sym (sequence_keeps q vs s.memory o k e), none_ended k) refl
