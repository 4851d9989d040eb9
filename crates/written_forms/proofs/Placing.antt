-- The law of rows whose sequence stands in place of the call.
use Rattle.std.proofs.Common.{◌≡◌, ℕ, List, [], ◌∷◌, Bool, true, Option, Some, None, refl, sym, ap, subst}
use Rattle.lane_core.specs.declared.number.Num.{Num}
use Rattle.lane_core.specs.declared.table.ParamKind.{ParamKind}
use Rattle.lane_core.specs.declared.table.ParamKind.TheVariants as kind
use Rattle.lane_core.specs.Table.{params_of}
use Rattle.const_imm.specs.Constant.{value_of}
use Rattle.c_text.specs.declared.tokens.Place.{Place}
use Rattle.c_tree.specs.declared.types.CType.{CType}
use Rattle.c_tree.specs.Tree.{Tree, Trees, Node, Call, NoTrees, More}
use Rattle.c_memory.specs.declared.value.Value.{Value}
use Rattle.c_memory.specs.MeaningState.{State, Out, Done, Turns, Undefined, then_do, ◌>>=◌, pure}
use Rattle.c_memory.specs.Meaning.{Calls, expression, its_value, values}
use Rattle.intel_table.specs.declared.IntelOp.{IntelOp}
use Rattle.intel_table.specs.Rows.{find_of, signature_of}
use Rattle.seq_core.specs.Terms.{Sequence}
use Rattle.seq_core.specs.InPlace.{stands_in_place, in_place, RunsAmong, HoldsWhereItStood, RunsOutWhereItStood}
use Rattle.seq_core.specs.Listed.{listed}
use Rattle.simulation.specs.Alike.{Given, Arguments, Objects, Alike, After, Ends, Sim}
use Rattle.simulation.specs.Steps.{after_same}
use Rattle.written_forms.specs.TypedValues.{TypedValues}
use Rattle.written_forms.specs.Seen.{Sees}
use Rattle.written_forms.specs.Moved.{Plans, operands, immediate_among, are_plain, all_true, moved, moved_all, all_stated}
use Rattle.written_forms.specs.Ready.{Filled, GivesAlike, IsConstant, HasImmediate, Setting, types_of, CallsRow, AreReady}
use Rattle.written_forms.proofs.Constants.{runs}
use Rattle.written_forms.proofs.Calling.{CallsAgree}
use Rattle.written_forms.proofs.Arguments.{AllAlike, of_types, source_gives}
use Rattle.written_forms.proofs.Running.{Operands, Ended, ends, Stated}
use Rattle.written_forms.proofs.AmongOthers.{readable, whole, no_compounds, runs_among, runs_out_among}
use Rattle.written_forms.proofs.PlainOperands.{PlainlyEnded, plain_ends, plainly_readable}
use Rattle.written_forms.proofs.StatedOperands.{read_stated, operands_stated}

-- the laws of sequences in place
pub record PlaceLaw : Type 0 where
  pub gives : (place : Place) (params : List Tree) (simple : List Bool) (q : Sequence) → HoldsWhereItStood place params simple q
  pub out : (place : Place) (params : List Tree) (simple : List Bool) (q : Sequence) → RunsOutWhereItStood place params simple q

-- ---- a row's values are those of its operands, with the immediate in its place

abbrev pub and_constant : Option Num → List Value → List Value
and_constant None vs = vs
and_constant (Some m) vs = Value.Int m ∷ vs

abbrev pub fill : List ParamKind → Trees → List Value → List Value
fill (kind.Immediate ∷ ks) (More a rest) us = and_constant (value_of a) (fill ks rest us)
fill (k ∷ ks) (More a rest) (u ∷ us) = u ∷ fill ks rest us
fill _ _ us = []

pub filled_by : (ks : List ParamKind) (all : Trees) (imm : ℕ) (us ws : List Value) → HasImmediate ks all imm → Arguments TypedValues (types_of (operands ks all)) us ws
    → Filled ks us (fill ks all us) imm
filled_by [] NoTrees imm [] [] h a = tt
filled_by (kind.Immediate ∷ ks) (More a rest) imm us ws h i = at (value_of a) h.0 (filled_by ks rest imm us ws h.1 i)
  where
    at : (o : Option Num) → IsConstant o imm → Filled ks us (fill ks rest us) imm → Filled (kind.Immediate ∷ ks) us (and_constant o (fill ks rest us)) imm
    at None j next = absurd j
    at (Some m) j next = (j, next)
filled_by (k ∷ ks) (More a rest) imm (u ∷ us) (w ∷ ws) h i = (refl, filled_by ks rest imm us ws h i.1)
filled_by (k ∷ ks) (More a rest) imm [] ws h i = absurd i
filled_by (k ∷ ks) (More a rest) imm (u ∷ us) [] h i = absurd i
filled_by [] (More a rest) imm us ws h i = absurd h
filled_by [] NoTrees imm (u ∷ us) ws h i = absurd i
filled_by [] NoTrees imm [] (w ∷ ws) h i = absurd i
filled_by (kind.Immediate ∷ ks) NoTrees imm us ws h i = absurd h
filled_by (k ∷ ks) NoTrees imm us ws h i = absurd h

one_more : (c : Calls) (rest ops : Trees) (f g : List Value → List Value) → ((v : Value) (us : List Value) → g (v ∷ us) ≡ v ∷ f us) → (o : Out Value)
    → ((s : State) → values rest c s ≡ then_do (values ops c s) (λ us. λ x. Done (f us) x))
    → then_do o (λ v. values rest c >>= (λ vs. pure (v ∷ vs))) ≡ then_do (then_do o (λ v. values ops c >>= (λ us. pure (v ∷ us)))) (λ us. λ x. Done (g us) x)
one_more c rest ops f g same Undefined h = refl
one_more c rest ops f g same Turns h = refl
one_more c rest ops f g same (Done v s) h = rw (h s) (at (values ops c s))
  where
    at : (q : Out (List Value))
        → then_do (then_do q (λ us. λ x. Done (f us) x)) (λ vs. λ x. Done (v ∷ vs) x) ≡ then_do (then_do q (λ us. λ x. Done (v ∷ us) x)) (λ us. λ x. Done (g us) x)
    at Undefined = refl
    at Turns = refl
    at (Done us x) = ap (λ z. Done z x) (sym (same v us))

constant_more : (c : Calls) (a : Tree) (rest ops : Trees) (f : List Value → List Value) (m : Num) (o : Option Num) (s : State) → o ≡ Some m
    → expression a c s ≡ Done (Some (Value.Int m)) s → values rest c s ≡ then_do (values ops c s) (λ us. λ x. Done (f us) x)
    → values (More a rest) c s ≡ then_do (values ops c s) (λ us. λ x. Done (and_constant o (f us)) x)
constant_more c a rest ops f m o s e gives h = rw (gives, h, e) (at (values ops c s))
  where
    at : (q : Out (List Value))
        → then_do (then_do q (λ us. λ x. Done (f us) x)) (λ vs. λ x. Done (Value.Int m ∷ vs) x) ≡ then_do q (λ us. λ x. Done (Value.Int m ∷ f us) x)
    at Undefined = refl
    at Turns = refl
    at (Done us x) = refl

pub values_split : (c : Calls) (w : Setting) (sees : Sees) (ks : List ParamKind) (all : Trees) (imm : ℕ) → HasImmediate ks all imm → AreReady w sees all → (s : State)
    → values all c s ≡ then_do (values (operands ks all) c s) (λ us. λ x. Done (fill ks all us) x)
values_split c w sees [] NoTrees imm h r s = refl
values_split c w sees (kind.Immediate ∷ ks) (More a rest) imm h r s = at (value_of a) refl h.0 (values_split c w sees ks rest imm h.1 r.1 s)
  where
    at : (o : Option Num) → value_of a ≡ o → IsConstant o imm → values rest c s ≡ then_do (values (operands ks rest) c s) (λ us. λ x. Done (fill ks rest us) x)
        → values (More a rest) c s ≡ then_do (values (operands ks rest) c s) (λ us. λ x. Done (and_constant o (fill ks rest us)) x)
    at None e j next = absurd j
    at (Some m) e j next = constant_more c a rest (operands ks rest) (fill ks rest) m (Some m) s refl ((runs w sees a r.0 m e).gives c s) next
values_split c w sees (k ∷ ks) (More a rest) imm h r s =
    one_more c rest (operands ks rest) (fill ks rest) (fill (k ∷ ks) (More a rest)) (λ v us. refl) (its_value (expression a c) s) (λ y. values_split c w sees ks rest imm h r.1 y)
values_split c w sees [] (More a rest) imm h r s = absurd h
values_split c w sees (kind.Immediate ∷ ks) NoTrees imm h r s = absurd h
values_split c w sees (k ∷ ks) NoTrees imm h r s = absurd h

pub operands_moved : (plans : Plans) (sees : Sees) (ks : List ParamKind) (all : Trees) → operands ks (moved_all plans sees all) ≡ moved_all plans sees (operands ks all)
operands_moved plans sees [] all = none all
  where
    none : (all : Trees) → operands [] (moved_all plans sees all) ≡ moved_all plans sees (operands [] all)
    none NoTrees = refl
    none (More a rest) = refl
operands_moved plans sees (kind.Immediate ∷ ks) NoTrees = refl
operands_moved plans sees (kind.Immediate ∷ ks) (More a rest) = operands_moved plans sees ks rest
operands_moved plans sees (k ∷ ks) NoTrees = refl
operands_moved plans sees (k ∷ ks) (More a rest) = ap (More (moved plans sees a)) (operands_moved plans sees ks rest)

-- ---- the row

module _ (law : PlaceLaw) (n : ℕ) (E : Objects) (c d : Calls) (w : Setting) (sees : Sees) (calls : CallsAgree n w c d) (t : CType) (f : List ℕ) (op : IntelOp) (all : Trees)
    (found : find_of f ≡ Some op) (is : CallsRow w sees t f op all) (ready : AreReady w sees all) (p place : Place) where
  abbrev ks : List ParamKind
  ks = params_of (signature_of op)

  abbrev ops : Trees
  ops = operands ks all

  abbrev moved_ops : Trees
  moved_ops = moved_all w.plans sees ops

  abbrev others : Trees
  others = all_stated moved_ops

  row_given : (us ws : List Value) → Arguments TypedValues (types_of ops) us ws → GivesAlike op (immediate_among ks all) is.plan us ws
  row_given us ws h = is.stands.gives us ws (of_types n E c d w sees calls t f op all found is us ws h)

  source_done : (us ws : List Value) (h : Arguments TypedValues (types_of ops) us ws) (s : State) → c f (fill ks all us) s ≡ Done (Some (row_given us ws h).v) s
  source_done us ws h s =
      source_gives n E c d w sees calls t f op all found is us (fill ks all us) (row_given us ws h).v (filled_by ks all (immediate_among ks all) us ws is.immediate h) (row_given us ws h).row s

  result_alike : (us ws : List Value) (h : Arguments TypedValues (types_of ops) us ws) → TypedValues t (row_given us ws h).v (row_given us ws h).w
  result_alike us ws h = subst (λ z. TypedValues z (row_given us ws h).v (row_given us ws h).w) (sym is.result) (row_given us ws h).values

  abbrev Placed : State → Out (List Value) → Type 0
  Placed y o =
      Ends (Given TypedValues t) (After n E y) (then_do (then_do o (λ us. λ x. Done (fill ks all us) x)) (c f)) (expression (in_place place (listed others) is.plan.result) d y)

  mixed_ends : (flags : List Bool) → stands_in_place flags is.plan ≡ true → (k : Operands n E c d flags ops others) → (y : State) (o : Out (List Value)) → Ended n E c d flags ops others k y o → Placed y o
  mixed_ends flags st k y Undefined h = tt
  mixed_ends flags st k y Turns h =
      let g = row_given h.0 h.1 h.2.values in
      let reads = λ (z : State) (i : Stated n E c d z). readable n E c d place flags ops others k h.1 h.2.agree z i in
      rw (law.out place (listed others) flags is.plan is.stands.callable.0 st d calls.neon h.1 y
      (runs_out_among n E c d place flags (listed others) h.1 reads 0 flags others h.1 y (whole flags) (whole (listed others)) (whole h.1) h.3) g.w g.sequence) tt
  mixed_ends flags st k y (Done us u) h =
      let g = row_given us h.0 h.2.values in
      let reads = λ (z : State) (i : Stated n E c d z). readable n E c d place flags ops others k h.0 h.2.agree z i in
      rw (
        source_done us h.0 h.2.values u,
        law.gives place (listed others) flags is.plan is.stands.callable.0 st d calls.neon h.0 y h.1
            (runs_among n E c d place flags (listed others) h.0 reads 0 flags others h.0 y h.1 (whole flags) (whole (listed others)) (whole h.0) h.3) g.w g.sequence,
      )
      (result_alike us h.0 h.2.values, h.4)

  plain_placed : stands_in_place (all_true ops) is.plan ≡ true → (x y : State) → Alike n E x y → (o : Out (List Value)) → PlainlyEnded d ops moved_ops x y o → Placed y o
  plain_placed st x y al Undefined h = tt
  plain_placed st x y al Turns h = absurd h
  plain_placed st x y al (Done us u) h =
      let ws = h.1.0 in
      let g = row_given us ws h.1.1 in
      let none = no_compounds (all_true ops) 0 ops (whole (all_true ops)) in
      let run = subst (λ ns. RunsAmong d place (listed others) ws (all_true ops) y ns y) (sym none) (plainly_readable d place ops others ws y (read_stated d moved_ops ws y h.1.2), refl) in
      rw (source_done us ws h.1.1 u, law.gives place (listed others) (all_true ops) is.plan is.stands.callable.0 st d calls.neon ws y y run g.w g.sequence)
      (result_alike us ws h.1.1, subst (λ z. After n E y z y) (sym h.0) (after_same n E x y al))

  abbrev Moves : Type 0
  Moves = Sim n (Given TypedValues t) E E (expression (Node p t (Call f all)) c) (expression (in_place place (listed others) is.plan.result) d)

  pub mixed_sim : (flags : List Bool) → stands_in_place flags is.plan ≡ true → Operands n E c d flags ops moved_ops → Moves
  mixed_sim flags st k = record {
    by = λ x y al. rw (values_split c w sees ks all (immediate_among ks all) is.immediate ready x)
        (let shown = operands_stated n E c d flags ops moved_ops k in mixed_ends flags st shown y (values ops c x) (ends n E c d flags ops others shown is.carried x y al));
  }

  pub plain_sim : are_plain ops ≡ true → stands_in_place (all_true ops) is.plan ≡ true → AllAlike n E c d w.plans sees ops → Moves
  plain_sim h st k = record {
    by = λ x y al. rw (values_split c w sees ks all (immediate_among ks all) is.immediate ready x)
        (plain_placed st x y al (values ops c x) (plain_ends n E c d w.plans sees ops h k x y al));
  }
