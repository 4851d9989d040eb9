-- A sequence that gives a row's value for all registers stands for the row.
use Rattle.std.proofs.Common.{◌≡◌, inl, inr, ℕ, ◌≤◌, List, [], ◌∷◌, map, Bool, true, false, ◌&&◌, Option, Some, None, refl, sym, ap, ◌∙◌, subst, arith, rules, nat_le, if◌then◌else◌}
use Rattle.std.specs.Prelude.{option_map, pos, int_le, unsigned_abs, ◌++◌}
use Rattle.std.specs.Option.{option_and_then}
use Rattle.lane_core.specs.declared.number.Num.{Num}
use Rattle.lane_core.specs.declared.table.Arg.{Arg}
use Rattle.lane_core.specs.declared.table.ImmRange.{ImmRange}
use Rattle.lane_core.specs.declared.table.ImmRange.TheVariants.{NoImmediate, Span, Scale}
use Rattle.lane_core.specs.declared.table.ParamKind.{ParamKind}
use Rattle.lane_core.specs.declared.table.ParamKind.TheVariants as kind
use Rattle.lane_core.specs.Register.{IsRegister}
use Rattle.lane_core.specs.Table.{params_of, reads, FitsKinds, Fits, FitsResult, InImmRange}
use Rattle.c_tree.specs.declared.types.CType.{CType}
use Rattle.c_memory.specs.declared.blocks.Block.{Block}
use Rattle.c_memory.specs.declared.value.Value.{Value}
use Rattle.c_memory.specs.Matching.{written_type}
use Rattle.c_memory.specs.MeaningRows.{fits_kind, fits_kinds, is_in_range, argument, arguments, immediate, row_result}
use Rattle.intel_table.specs.declared.IntelOp.{IntelOp}
use Rattle.intel_table.specs.Laws.{gives_its_kind}
use Rattle.intel_table.specs.Rows.{signature_of, range_of, eval_of}
use Rattle.seq_core.specs.Terms.{Sequence}
use Rattle.seq_core.specs.Values.{as_arg, all_carried, evaluated, sequence_value}
use Rattle.simulation.specs.Alike.{Arguments}
use Rattle.type_rules.specs.Passing.{kind_type}
use Rattle.written_forms.specs.TypedValues.{TypedValues}
use Rattle.written_forms.specs.Ready.{table, operand_types, Filled, GivesAlike}
use Rattle.written_forms.specs.Vectors.{AreVectors, has_immediate, IsVectorRow, AreRegisters, vector_arguments, VectorRowsStand}

-- operands are registers, the same in both
pub record OfRegisters (ks : List ParamKind) (vs ws : List Value) : Type 0 where
  pub rs : List (List ℕ)
  pub first : vs ≡ map Value.R16 rs
  pub second : ws ≡ map Value.R16 rs
  pub are : AreRegisters ks rs

data AreVector : Value → Value → Type 0 where
  vector : (r : List ℕ) → IsRegister 16 r → AreVector (Value.R16 r) (Value.R16 r)

are_vector : (v w : Value) → TypedValues CType.M128 v w → AreVector v w
are_vector (Value.R16 a) (Value.R16 b) h = subst (λ z. AreVector (Value.R16 a) (Value.R16 z)) h.0.1 (vector a h.0.0)
are_vector v w h = absurd h.0

add_vector : (bytes : ℕ) (ks : List ParamKind) (vs ws : List Value) (v w : Value) → AreVector v w → OfRegisters ks vs ws → OfRegisters (kind.Reg bytes ∷ ks) (v ∷ vs) (w ∷ ws)
add_vector bytes ks vs ws _ _ (vector r i) q =
    record { rs = r ∷ q.rs; first = ap (λ l. Value.R16 r ∷ l) q.first; second = ap (λ l. Value.R16 r ∷ l) q.second; are = (i, q.are) }

of_registers : (ks : List ParamKind) → AreVectors ks → (vs ws : List Value) → Arguments TypedValues (operand_types ks) vs ws → OfRegisters ks vs ws
of_registers [] h [] [] a = record { rs = []; first = refl; second = refl; are = tt }
of_registers (kind.Immediate ∷ ks) h vs ws a = let r = of_registers ks h vs ws a in record { rs = r.rs; first = r.first; second = r.second; are = r.are }
of_registers (kind.Reg bytes ∷ ks) h (v ∷ vs) (w ∷ ws) a =
    add_vector bytes ks vs ws v w (are_vector v w (subst (λ n. TypedValues (kind_type (kind.Reg n)) v w) h.0 a.0)) (of_registers ks h.1 vs ws a.1)
of_registers (kind.Reg bytes ∷ ks) h [] ws a = absurd a
of_registers (kind.Reg bytes ∷ ks) h (v ∷ vs) [] a = absurd a
of_registers [] h [] (w ∷ ws) a = absurd a
of_registers [] h (v ∷ vs) ws a = absurd a
of_registers (kind.Lane l w2 ∷ ks) h vs ws a = absurd h
of_registers (kind.Pair ∷ ks) h vs ws a = absurd h
of_registers (kind.Scalar t ∷ ks) h vs ws a = absurd h
of_registers (kind.PointerTo e c ∷ ks) h vs ws a = absurd h
of_registers (kind.Nothing ∷ ks) h vs ws a = absurd h

-- ---- the row

pub and_true : {a b : Bool} → a ≡ true → b ≡ true → (a && b) ≡ true
and_true h i = rw (h, i) refl

pub not_negative : (m : Num) (imm : ℕ) → m.value ≡ pos imm → int_le (pos 0) m.value ≡ true
not_negative m imm e = rw e (search (rules, arith))

-- what the source's values are, for each parameter
module _ (imm : ℕ) where
  fits : (ks : List ParamKind) → AreVectors ks → (rs : List (List ℕ)) (all : List Value) → AreRegisters ks rs → Filled ks (map Value.R16 rs) all imm → fits_kinds ks all ≡ true
  fits [] h [] [] a f = refl
  fits (kind.Immediate ∷ ks) h rs (Value.Int m ∷ all) a f = and_true (not_negative m imm f.0) (fits ks h rs all a f.1)
  fits (kind.Reg bytes ∷ ks) h (r ∷ rs) (v ∷ all) a f =
      subst (λ z. (fits_kind (kind.Reg bytes) z && fits_kinds ks all) ≡ true) f.0 (rw h.0 (fits ks h.1 rs all a.1 f.1))
  fits [] h (r ∷ rs) all a f = absurd a
  fits [] h [] (v ∷ all) a f = absurd f
  fits (kind.Immediate ∷ ks) h rs [] a f = absurd f
  fits (kind.Immediate ∷ ks) h rs (Value.R8 r ∷ all) a f = absurd f
  fits (kind.Immediate ∷ ks) h rs (Value.R16 r ∷ all) a f = absurd f
  fits (kind.Immediate ∷ ks) h rs (Value.R32 r ∷ all) a f = absurd f
  fits (kind.Immediate ∷ ks) h rs (Value.At r ∷ all) a f = absurd f
  fits (kind.Reg bytes ∷ ks) h [] all a f = absurd a
  fits (kind.Reg bytes ∷ ks) h (r ∷ rs) [] a f = absurd f
  fits (kind.Lane l w ∷ ks) h rs all a f = absurd h
  fits (kind.Pair ∷ ks) h rs all a f = absurd h
  fits (kind.Scalar t ∷ ks) h rs all a f = absurd h
  fits (kind.PointerTo e c ∷ ks) h rs all a f = absurd h
  fits (kind.Nothing ∷ ks) h rs all a f = absurd h

  same_arguments : (ks : List ParamKind) → AreVectors ks → (rs : List (List ℕ)) (all : List Value) → AreRegisters ks rs → Filled ks (map Value.R16 rs) all imm
      → arguments ks all ≡ vector_arguments ks rs
  same_arguments [] h [] [] a f = refl
  same_arguments (kind.Immediate ∷ ks) h rs (Value.Int m ∷ all) a f = ap (λ l. Arg.Nothing ∷ l) (same_arguments ks h rs all a f.1)
  same_arguments (kind.Reg bytes ∷ ks) h (r ∷ rs) (v ∷ all) a f =
      subst (λ z. (argument z ∷ arguments ks all) ≡ (Arg.R16 r ∷ vector_arguments ks rs)) f.0 (ap (λ l. Arg.R16 r ∷ l) (same_arguments ks h.1 rs all a.1 f.1))
  same_arguments [] h (r ∷ rs) all a f = absurd a
  same_arguments [] h [] (v ∷ all) a f = absurd f
  same_arguments (kind.Immediate ∷ ks) h rs [] a f = absurd f
  same_arguments (kind.Immediate ∷ ks) h rs (Value.R8 r ∷ all) a f = absurd f
  same_arguments (kind.Immediate ∷ ks) h rs (Value.R16 r ∷ all) a f = absurd f
  same_arguments (kind.Immediate ∷ ks) h rs (Value.R32 r ∷ all) a f = absurd f
  same_arguments (kind.Immediate ∷ ks) h rs (Value.At r ∷ all) a f = absurd f
  same_arguments (kind.Reg bytes ∷ ks) h [] all a f = absurd a
  same_arguments (kind.Reg bytes ∷ ks) h (r ∷ rs) [] a f = absurd f
  same_arguments (kind.Lane l w ∷ ks) h rs all a f = absurd h
  same_arguments (kind.Pair ∷ ks) h rs all a f = absurd h
  same_arguments (kind.Scalar t ∷ ks) h rs all a f = absurd h
  same_arguments (kind.PointerTo e c ∷ ks) h rs all a f = absurd h
  same_arguments (kind.Nothing ∷ ks) h rs all a f = absurd h

  same_number : (ks : List ParamKind) → AreVectors ks → (rs : List (List ℕ)) (all : List Value) → AreRegisters ks rs → Filled ks (map Value.R16 rs) all imm
      → (has_immediate ks ≡ false → imm ≡ 0) → immediate ks all ≡ imm
  same_number [] h [] [] a f z = sym (z refl)
  same_number (kind.Immediate ∷ ks) h rs (Value.Int m ∷ all) a f z = ap unsigned_abs f.0
  same_number (kind.Reg bytes ∷ ks) h (r ∷ rs) (v ∷ all) a f z = same_number ks h.1 rs all a.1 f.1 z
  same_number [] h (r ∷ rs) all a f z = absurd a
  same_number [] h [] (v ∷ all) a f z = absurd f
  same_number (kind.Immediate ∷ ks) h rs [] a f z = absurd f
  same_number (kind.Immediate ∷ ks) h rs (Value.R8 r ∷ all) a f z = absurd f
  same_number (kind.Immediate ∷ ks) h rs (Value.R16 r ∷ all) a f z = absurd f
  same_number (kind.Immediate ∷ ks) h rs (Value.R32 r ∷ all) a f z = absurd f
  same_number (kind.Immediate ∷ ks) h rs (Value.At r ∷ all) a f z = absurd f
  same_number (kind.Reg bytes ∷ ks) h [] all a f z = absurd a
  same_number (kind.Reg bytes ∷ ks) h (r ∷ rs) [] a f z = absurd f
  same_number (kind.Lane l w ∷ ks) h rs all a f z = absurd h
  same_number (kind.Pair ∷ ks) h rs all a f z = absurd h
  same_number (kind.Scalar t ∷ ks) h rs all a f z = absurd h
  same_number (kind.PointerTo e c ∷ ks) h rs all a f z = absurd h
  same_number (kind.Nothing ∷ ks) h rs all a f z = absurd h

unread : (ks : List ParamKind) → AreVectors ks → reads ks ≡ false
unread [] h = refl
unread (kind.Reg bytes ∷ ks) h = unread ks h.1
unread (kind.Immediate ∷ ks) h = unread ks h
unread (kind.Lane l w ∷ ks) h = absurd h
unread (kind.Pair ∷ ks) h = absurd h
unread (kind.Scalar t ∷ ks) h = absurd h
unread (kind.PointerTo e c ∷ ks) h = absurd h
unread (kind.Nothing ∷ ks) h = absurd h

fit_arguments : (ks : List ParamKind) → AreVectors ks → (rs : List (List ℕ)) → AreRegisters ks rs → FitsKinds ks (vector_arguments ks rs)
fit_arguments [] h [] a = tt
fit_arguments (kind.Immediate ∷ ks) h rs a = (tt, fit_arguments ks h rs a)
fit_arguments (kind.Reg bytes ∷ ks) h (r ∷ rs) a = ((h.0, a.0), fit_arguments ks h.1 rs a.1)
fit_arguments [] h (r ∷ rs) a = absurd a
fit_arguments (kind.Reg bytes ∷ ks) h [] a = absurd a
fit_arguments (kind.Lane l w ∷ ks) h rs a = absurd h
fit_arguments (kind.Pair ∷ ks) h rs a = absurd h
fit_arguments (kind.Scalar t ∷ ks) h rs a = absurd h
fit_arguments (kind.PointerTo e c ∷ ks) h rs a = absurd h
fit_arguments (kind.Nothing ∷ ks) h rs a = absurd h

pub in_range : (r : ImmRange) (imm : ℕ) → InImmRange r imm → is_in_range r imm ≡ true
in_range NoImmediate imm h = rw h refl
in_range (Span l g) imm h =
    let a : l ≤ imm = h.0 in
    let b : imm ≤ g = h.1 in
    let c : nat_le l imm ≡ true = search (rules, a) in
    let d : nat_le imm g ≡ true = search (rules, b) in
    rw (c, d) refl
in_range Scale imm h = elim h [ inl e ↦ rw e refl | inr h2 ↦ elim h2 [ inl e ↦ rw e refl | inr h3 ↦ elim h3 [ inl e ↦ rw e refl | inr e ↦ rw e refl ] ] ]

-- the value is a register
data IsVector : Arg → Type 0 where
  is_vector : (r : List ℕ) → IsRegister 16 r → IsVector (Arg.R16 r)

a_vector : (k : ParamKind) (a : Arg) → k ≡ kind.Reg 16 → FitsResult k a → IsVector a
a_vector k a e f = at a (subst (λ z. FitsResult z a) e f)
  where
    at : (a : Arg) → FitsResult (kind.Reg 16) a → IsVector a
    at (Arg.R16 r) f = is_vector r f.1
    at (Arg.R8 r) f = let wrong : 16 ≡ 8 = f.0 in absurd (omega (arith, wrong))
    at (Arg.R32 r) f = let wrong : 16 ≡ 32 = f.0 in absurd (omega (arith, wrong))
    at Arg.Nothing f = absurd f
    at (Arg.Int n) f = absurd f

-- ---- the sequence

carried_registers : (ks : List ParamKind) → AreVectors ks → (rs : List (List ℕ)) → AreRegisters ks rs → all_carried (map written_type (operand_types ks)) (map Arg.R16 rs) ≡ Some (map Value.R16 rs)
carried_registers [] h [] a = refl
carried_registers (kind.Immediate ∷ ks) h rs a = carried_registers ks h rs a
carried_registers (kind.Reg bytes ∷ ks) h (r ∷ rs) a = rw (h.0, carried_registers ks h.1 rs a.1) refl
carried_registers [] h (r ∷ rs) a = absurd a
carried_registers (kind.Reg bytes ∷ ks) h [] a = absurd a
carried_registers (kind.Lane l w ∷ ks) h rs a = absurd h
carried_registers (kind.Pair ∷ ks) h rs a = absurd h
carried_registers (kind.Scalar t ∷ ks) h rs a = absurd h
carried_registers (kind.PointerTo e c ∷ ks) h rs a = absurd h
carried_registers (kind.Nothing ∷ ks) h rs a = absurd h

-- a sequence whose value is a register as an argument has it
its_register : (o : Option (Option Value)) (r : List ℕ) → option_map as_arg o ≡ Some (Arg.R16 r) → o ≡ Some (Some (Value.R16 r))
its_register (Some (Some (Value.R16 a))) r e = let same : a ≡ r = cc in ap (λ z. Some (Some (Value.R16 z))) same
its_register (Some (Some (Value.Int n))) r e = absurd (cc)
its_register (Some (Some (Value.R8 a))) r e = absurd (cc)
its_register (Some (Some (Value.R32 a))) r e = absurd (cc)
its_register (Some (Some (Value.At a))) r e = absurd (cc)
its_register (Some None) r e = absurd (cc)
its_register None r e = absurd (cc)

module _ (op : IntelOp) (imm : ℕ) (q : Sequence) (is : IsVectorRow op) (range : InImmRange (range_of op) imm) (zero_imm : has_immediate (params_of (signature_of op)) ≡ false → imm ≡ 0)
    (params : q.params ≡ map written_type (operand_types (params_of (signature_of op)))) where
  abbrev ks : List ParamKind
  ks = params_of (signature_of op)

  row_gives : (rs : List (List ℕ)) (r : List ℕ) → AreRegisters ks rs → eval_of op (vector_arguments ks rs) imm ≡ Arg.R16 r → (all : List Value) → Filled ks (map Value.R16 rs) all imm
      → (memory : List Block) → row_result table op all memory ≡ Some (Some (Value.R16 r), memory)
  row_gives rs r a e all f memory =
      rw (
        fits imm ks is.params rs all a f,
        same_number imm ks is.params rs all a f zero_imm,
        in_range (range_of op) imm range,
        is.still,
        unread ks is.params,
        same_arguments imm ks is.params rs all a f,
        e,
        is.result,
      ) refl

  sequence_gives : (rs : List (List ℕ)) (r : List ℕ) → AreRegisters ks rs → evaluated q (map Arg.R16 rs) ≡ Some (Arg.R16 r) → sequence_value q (map Value.R16 rs) ≡ Some (Some (Value.R16 r))
  sequence_gives rs r a e =
      let carried : all_carried q.params (map Arg.R16 rs) ≡ Some (map Value.R16 rs) = ap (λ ts. all_carried ts (map Arg.R16 rs)) params ∙ carried_registers ks is.params rs a in
      let given : option_map as_arg (sequence_value q (map Value.R16 rs)) ≡ Some (Arg.R16 r) = sym (ap (λ o. option_map as_arg (option_and_then (sequence_value q) o)) carried) ∙ e in
      its_register (sequence_value q (map Value.R16 rs)) r given

  pub gives_alike : ((rs : List (List ℕ)) → AreRegisters ks rs → evaluated q (map Arg.R16 rs) ≡ Some (eval_of op (vector_arguments ks rs) imm)) → (vs ws : List Value)
      → Arguments TypedValues (operand_types ks) vs ws → GivesAlike op imm q vs ws
  gives_alike value vs ws a =
      let o = of_registers ks is.params vs ws a in
      let fit : Fits (signature_of op) (vector_arguments ks o.rs) = subst (λ l. FitsKinds l (vector_arguments ks o.rs))
      (sym (ap (λ b. if b then ks ++ ((signature_of op).result ∷ []) else ks) (unread ks is.params))) (fit_arguments ks is.params o.rs o.are) in
      at o (eval_of op (vector_arguments ks o.rs) imm) refl (a_vector (signature_of op).result (eval_of op (vector_arguments ks o.rs) imm) is.result
      (gives_its_kind op (vector_arguments ks o.rs) imm fit range))
    where
      at : (o : OfRegisters ks vs ws) (x : Arg) → eval_of op (vector_arguments ks o.rs) imm ≡ x → IsVector x → GivesAlike op imm q vs ws
      at o x e (is_vector r i) = record {
        v = Value.R16 r;
        w = Value.R16 r;
        values = subst (λ k. TypedValues (kind_type k) (Value.R16 r) (Value.R16 r)) (sym is.result) ((i, refl), i);
        row = λ all f memory. row_gives o.rs r o.are e all (subst (λ l. Filled ks l all imm) o.first f) memory;
        sequence = ap (sequence_value q) o.second ∙ sequence_gives o.rs r o.are (value o.rs o.are ∙ ap Some e);
      }

pub vector_rows_stand : VectorRowsStand
vector_rows_stand op imm q is range zero_imm callable params value =
    record { callable = callable; params = params; gives = gives_alike op imm q is range zero_imm params value }
