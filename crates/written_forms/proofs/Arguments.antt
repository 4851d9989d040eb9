-- Laws of the arguments of calls: those of functions, and the operands of rows with their immediate.
use Rattle.std.proofs.Common.{◌≡◌, ℕ, suc, List, [], ◌∷◌, length, true, Option, Some, None, refl, sym, ap, ◌∙◌, subst}
use Rattle.std.specs.Prelude.{pos}
use Rattle.std.proofs.lemmas.List.{length-map}
use Rattle.lane_core.specs.declared.number.Num.{Num}
use Rattle.lane_core.specs.declared.table.ParamKind.{ParamKind}
use Rattle.lane_core.specs.declared.table.ParamKind.TheVariants as kind
use Rattle.lane_core.specs.Table.{params_of}
use Rattle.const_imm.specs.Constant.{value_of}
use Rattle.c_text.specs.declared.tokens.Place.{Place}
use Rattle.c_tree.specs.declared.types.CType.{CType}
use Rattle.c_tree.specs.Tree.{Tree, Trees, Node, Call, NoTrees, More}
use Rattle.c_memory.specs.declared.blocks.Block.{Block}
use Rattle.c_memory.specs.declared.value.Value.{Value}
use Rattle.c_memory.specs.Matching.{written_type}
use Rattle.c_memory.specs.MeaningRows.{row_done, row_result}
use Rattle.c_memory.specs.MeaningState.{State, Out, Done, Turns, Undefined, Does, then_do, ◌>>=◌, pure}
use Rattle.c_memory.specs.Meaning.{Calls, expression, values, type_of}
use Rattle.intel_table.specs.declared.IntelOp.{IntelOp}
use Rattle.intel_table.specs.Rows.{find_of, signature_of, range_of}
use Rattle.simulation.specs.Alike.{Given, Arguments, Objects, Sim}
use Rattle.simulation.specs.Steps.{bind_sim, pure_sim, first_as, second_as}
use Rattle.simulation.specs.ExpressionLaws.{valued_sim}
use Rattle.written_forms.specs.TypedValues.{TypedValues}
use Rattle.written_forms.specs.Seen.{Sees}
use Rattle.written_forms.specs.Moved.{Plans, operands, immediate_among, helper_name, moved, moved_all}
use Rattle.written_forms.specs.Ready.{table, operand_types, Filled, IsConstant, HasImmediate, Setting, types_of, CallsRow, AreReady}
use Rattle.written_forms.proofs.Constants.{runs}
use Rattle.written_forms.proofs.Calling.{CallsAgree}

-- each expression of a list and what it is written as
abbrev pub AllAlike : ℕ → Objects → Calls → Calls → Plans → Sees → Trees → Type 0
AllAlike n E c d plans sees NoTrees = Unit {0}
AllAlike n E c d plans sees (More a rest) =
    Sim n (Given TypedValues (type_of a)) E E (expression a c) (expression (moved plans sees a) d) × AllAlike n E c d plans sees rest

bind_pure : {A : Type 0} (o : Out A) → then_do o pure ≡ o
bind_pure (Done a s) = refl
bind_pure Turns = refl
bind_pure Undefined = refl

module _ (n : ℕ) (E : Objects) (c d : Calls) (w : Setting) (sees : Sees) where
  pub all_sim : (all : Trees) → AllAlike n E c d w.plans sees all → Sim n (Arguments TypedValues (types_of all)) E E (values all c) (values (moved_all w.plans sees all) d)
  all_sim NoTrees h = pure_sim [] [] tt
  all_sim (More a rest) h =
      bind_sim (valued_sim n TypedValues c d E E a (moved w.plans sees a) h.0) (λ u v i. bind_sim (all_sim rest h.1) (λ us vs j. pure_sim (u ∷ us) (v ∷ vs) (i, j)))

  -- the source's values are the operands' with the immediate in its place, and the others are related to the operands'
  pub record AreFilled (ks : List ParamKind) (all : Trees) (imm : ℕ) (vs ws : List Value) : Type 0 where
    pub us : List Value
    pub filled : Filled ks us vs imm
    pub operands : Arguments TypedValues (types_of (operands ks all)) us ws

  -- an immediate is evaluated and passed over
  constant_first : (ks : List ParamKind) (a : Tree) (rest : Trees) (imm : ℕ) (q : Does (List Value)) (m : Num) → m.value ≡ pos imm
      → ((s : State) → expression a c s ≡ Done (Some (Value.Int m)) s)
      → Sim n (AreFilled ks rest imm) E E (values rest c) q → Sim n (AreFilled (kind.Immediate ∷ ks) (More a rest) imm) E E (values (More a rest) c) q
  constant_first ks a rest imm q m e gives h =
      first_as (λ s. rw (gives s) refl) (second_as (λ t. bind_pure (q t))
      (bind_sim h (λ vs ws r. pure_sim (Value.Int m ∷ vs) ws (record { us = r.us; filled = (e, r.filled); operands = r.operands }))))

  -- an operand, and then the rest
  operand_first : (k : ParamKind) (ks : List ParamKind) (a : Tree) (rest : Trees) (imm : ℕ)
      → ((us vs ws : List Value) (u v : Value) → AreFilled ks rest imm vs ws → TypedValues (type_of a) u v → AreFilled (k ∷ ks) (More a rest) imm (u ∷ vs) (v ∷ ws))
      → Sim n (Given TypedValues (type_of a)) E E (expression a c) (expression (moved w.plans sees a) d)
      → Sim n (AreFilled ks rest imm) E E (values rest c) (values (operands ks (moved_all w.plans sees rest)) d)
      → Sim n (AreFilled (k ∷ ks) (More a rest) imm) E E (values (More a rest) c) (values (More (moved w.plans sees a) (operands ks (moved_all w.plans sees rest))) d)
  operand_first k ks a rest imm put h l =
      bind_sim (valued_sim n TypedValues c d E E a (moved w.plans sees a) h) (λ u v i. bind_sim l (λ vs ws r. pure_sim (u ∷ vs) (v ∷ ws) (put r.us vs ws u v r i)))

  filled_sim : (ks : List ParamKind) (all : Trees) (imm : ℕ) → HasImmediate ks all imm → AreReady w sees all → AllAlike n E c d w.plans sees all
      → Sim n (AreFilled ks all imm) E E (values all c) (values (operands ks (moved_all w.plans sees all)) d)
  filled_sim [] NoTrees imm h r l = pure_sim [] [] (record { us = []; filled = tt; operands = tt })
  filled_sim (kind.Immediate ∷ ks) (More a rest) imm h r l = at (filled_sim ks rest imm h.1 r.1 l.1) (value_of a) refl h.0
    where
      at : Sim n (AreFilled ks rest imm) E E (values rest c) (values (operands ks (moved_all w.plans sees rest)) d) → (o : Option Num) → value_of a ≡ o → IsConstant o imm
          → Sim n (AreFilled (kind.Immediate ∷ ks) (More a rest) imm) E E (values (More a rest) c) (values (operands ks (moved_all w.plans sees rest)) d)
      at next None e i = absurd i
      at next (Some m) e i =
          constant_first ks a rest imm (values (operands ks (moved_all w.plans sees rest)) d) m i (λ s. (runs w sees a r.0 m e).gives c s) next
  filled_sim (k ∷ ks) (More a rest) imm h r l =
      operand_first k ks a rest imm (λ us vs ws u v q i. record { us = u ∷ q.us; filled = (refl, q.filled); operands = (i, q.operands) }) l.0 (filled_sim ks rest imm h r.1 l.1)
  filled_sim [] (More a rest) imm h r l = absurd h
  filled_sim (kind.Immediate ∷ ks) NoTrees imm h r l = absurd h
  filled_sim (k ∷ ks) NoTrees imm h r l = absurd h

-- ---- a call of a row's function

pub as_many : (ts : List CType) (vs ws : List Value) → Arguments TypedValues ts vs ws → length ws ≡ length ts
as_many [] [] [] h = refl
as_many (t ∷ ts) (v ∷ vs) (w ∷ ws) h = ap suc (as_many ts vs ws h.1)
as_many [] [] (w ∷ ws) h = absurd h
as_many [] (v ∷ vs) ws h = absurd h
as_many (t ∷ ts) [] ws h = absurd h
as_many (t ∷ ts) (v ∷ vs) [] h = absurd h

module _ (n : ℕ) (E : Objects) (c d : Calls) (w : Setting) (sees : Sees) (calls : CallsAgree n w c d) (t : CType) (f : List ℕ) (op : IntelOp) (all : Trees)
    (found : find_of f ≡ Some op) (is : CallsRow w sees t f op all) where
  abbrev pub ks : List ParamKind
  ks = params_of (signature_of op)

  abbrev pub imm : ℕ
  imm = immediate_among ks all

  -- the operands have the row's types
  pub of_types : (us ws : List Value) → Arguments TypedValues (types_of (operands ks all)) us ws → Arguments TypedValues (operand_types ks) us ws
  of_types us ws h = subst (λ ts. Arguments TypedValues ts us ws) is.types h

  pub source_gives : (us vs : List Value) (v : Value) → Filled ks us vs imm
      → ((more : List Value) → Filled ks us more imm → (memory : List Block) → row_result table op more memory ≡ Some (Some v, memory)) → (s : State) → c f vs s ≡ Done (Some v) s
  source_gives us vs v h gives s = calls.rows f op found vs s ∙ ap (row_done s) (gives vs h s.memory)

  pub helper_sim : AreReady w sees all → AllAlike n E c d w.plans sees all → w.helps f imm ≡ true → (p q : Place) (z : CType)
      → Sim n (Given TypedValues t) E E (expression (Node p t (Call f all)) c) (expression (Node q z (Call (helper_name f (range_of op) imm) (operands ks (moved_all w.plans sees all)))) d)
  helper_sim ready alike helps p q z =
      subst (λ u. Sim n (Given TypedValues u) E E (values all c >>= c f) (values (operands ks (moved_all w.plans sees all)) d >>= d (helper_name f (range_of op) imm))) (sym is.result)
      (bind_sim (filled_sim n E c d w sees ks all imm is.immediate ready alike) (λ vs ws r.
      let args = of_types r.us ws r.operands in
      let g = is.stands.gives r.us ws args in
      let long : length is.plan.params ≡ length ws = ap length is.stands.params ∙ length-map (operand_types ks) written_type ∙ sym (as_many (operand_types ks) r.us ws args) in
      first_as (λ s. sym (source_gives r.us vs g.v r.filled g.row s)) (second_as (λ s. sym (calls.helpers f op imm is.plan found is.is helps ws (Some g.w) long g.sequence s))
      (pure_sim (Some g.v) (Some g.w) g.values))))
