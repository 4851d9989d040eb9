-- A sequence that gives a row's value for all registers and integers stands for the row.
use Rattle.std.proofs.Common.{◌≡◌, ℕ, List, [], ◌∷◌, map, true, false, Option, Some, None, refl, sym, ap, ◌∙◌, subst, arith}
use Rattle.std.specs.Prelude.{option_map, ℤ, pos, unsigned_abs, if◌then◌else◌, ◌++◌}
use Rattle.std.specs.Option.{option_and_then}
use Rattle.lane_core.specs.declared.number.IntType.{IntType}
use Rattle.lane_core.specs.declared.number.IntType.TheVariants as int
use Rattle.lane_core.specs.declared.number.Num.{Num}
use Rattle.lane_core.specs.declared.table.Arg.{Arg}
use Rattle.lane_core.specs.declared.table.ParamKind.{ParamKind}
use Rattle.lane_core.specs.declared.table.ParamKind.TheVariants as kind
use Rattle.lane_core.specs.IntRange.{InRange}
use Rattle.lane_core.specs.Register.{IsRegister}
use Rattle.lane_core.specs.Table.{params_of, reads, FitsKinds, Fits, FitsResult, InImmRange}
use Rattle.scalar_core.specs.TwosComplement.{bits_of}
use Rattle.scalar_core.specs.Wrapping.{bits-below}
use Rattle.scalar_core.specs.Numbers.{num_of}
use Rattle.c_tree.specs.declared.types.CType.{CType}
use Rattle.c_memory.specs.declared.blocks.Block.{Block}
use Rattle.c_memory.specs.declared.value.Value.{Value}
use Rattle.c_memory.specs.Matching.{written_integer, written_type}
use Rattle.c_memory.specs.MeaningRows.{fits_kinds, argument, arguments, immediate, given, row_result}
use Rattle.intel_table.specs.declared.IntelOp.{IntelOp}
use Rattle.intel_table.specs.Laws.{gives_its_kind}
use Rattle.intel_table.specs.Rows.{signature_of, range_of, eval_of}
use Rattle.seq_core.specs.Claims.{IsCallable}
use Rattle.seq_core.specs.Formed.{sequence_type}
use Rattle.seq_core.specs.Terms.{Sequence}
use Rattle.seq_core.specs.Values.{as_arg, all_carried, evaluated, sequence_value}
use Rattle.simulation.specs.Alike.{Arguments}
use Rattle.type_rules.specs.Passing.{kind_type}
use Rattle.written_forms.specs.TypedValues.{TypedValues}
use Rattle.written_forms.specs.Ready.{table, operand_types, Filled, GivesAlike}
use Rattle.written_forms.specs.Vectors.{has_immediate}
use Rattle.written_forms.specs.Scalars.{IsValue, AreValues, IsValueRow, but_immediate, ValueRowsStand}
use Rattle.written_forms.proofs.VectorRows.{and_true, not_negative, in_range}
use Rattle.written_forms.proofs.PassedNumbers.{value_back, type_back, number_back}
use Rattle.written_forms.proofs.ValueTypes.{HasIntegerOf, HaveIntegersOf, sequence_typed}

-- ---- operands

-- the operands of a source, and those that they are written as, for each parameter but the immediate
data Operands : List ParamKind → List Value → List Value → Type 0 where
  none : Operands [] [] []
  constant : (ks : List ParamKind) (vs ws : List Value) → Operands ks vs ws → Operands (kind.Immediate ∷ ks) vs ws
  register : (ks : List ParamKind) (vs ws : List Value) (r : List ℕ) → IsRegister 16 r → Operands ks vs ws → Operands (kind.Reg 16 ∷ ks) (Value.R16 r ∷ vs) (Value.R16 r ∷ ws)
  number : (ks : List ParamKind) (vs ws : List Value) (t : IntType) (m n : Num) → n.ty ≡ written_integer t → m.value ≡ n.value → Operands ks vs ws
      → Operands (kind.Scalar t ∷ ks) (Value.Int m ∷ vs) (Value.Int n ∷ ws)

add_register : (ks : List ParamKind) (vs ws : List Value) (v w : Value) → TypedValues CType.M128 v w → Operands ks vs ws → Operands (kind.Reg 16 ∷ ks) (v ∷ vs) (w ∷ ws)
add_register ks vs ws (Value.R16 a) (Value.R16 b) h o =
    subst (λ z. Operands (kind.Reg 16 ∷ ks) (Value.R16 a ∷ vs) (Value.R16 z ∷ ws)) h.0.1 (register ks vs ws a h.0.0 o)
add_register ks vs ws v w h o = absurd h.0

add_number : (ks : List ParamKind) (vs ws : List Value) (t : IntType) (v w : Value) → TypedValues (CType.Int t) v w → Operands ks vs ws → Operands (kind.Scalar t ∷ ks) (v ∷ vs) (w ∷ ws)
add_number ks vs ws t (Value.Int m) (Value.Int n) h o = number ks vs ws t m n (h.0.0 ∙ ap written_integer h.1) h.0.1 o
add_number ks vs ws t v w h o = absurd h.0

are_operands : (ks : List ParamKind) → AreValues ks → (vs ws : List Value) → Arguments TypedValues (operand_types ks) vs ws → Operands ks vs ws
are_operands [] h [] [] a = none
are_operands (kind.Immediate ∷ ks) h vs ws a = constant ks vs ws (are_operands ks h vs ws a)
are_operands (kind.Reg bytes ∷ ks) h (v ∷ vs) (w ∷ ws) a =
    subst (λ b. Operands (kind.Reg b ∷ ks) (v ∷ vs) (w ∷ ws)) (sym h.0)
    (add_register ks vs ws v w (subst (λ b. TypedValues (kind_type (kind.Reg b)) v w) h.0 a.0) (are_operands ks h.1 vs ws a.1))
are_operands (kind.Scalar t ∷ ks) h (v ∷ vs) (w ∷ ws) a = add_number ks vs ws t v w a.0 (are_operands ks h.1 vs ws a.1)
are_operands [] h [] (w ∷ ws) a = absurd a
are_operands [] h (v ∷ vs) ws a = absurd a
are_operands (kind.Reg bytes ∷ ks) h [] ws a = absurd a
are_operands (kind.Reg bytes ∷ ks) h (v ∷ vs) [] a = absurd a
are_operands (kind.Scalar t ∷ ks) h [] ws a = absurd a
are_operands (kind.Scalar t ∷ ks) h (v ∷ vs) [] a = absurd a
are_operands (kind.Lane l w ∷ ks) h vs ws a = absurd h.0
are_operands (kind.Pair ∷ ks) h vs ws a = absurd h.0
are_operands (kind.PointerTo e c ∷ ks) h vs ws a = absurd h.0
are_operands (kind.Nothing ∷ ks) h vs ws a = absurd h.0

unread : (ks : List ParamKind) (vs ws : List Value) → Operands ks vs ws → reads ks ≡ false
unread _ _ _ none = refl
unread _ _ _ (constant ks vs ws o) = unread ks vs ws o
unread _ _ _ (register ks vs ws r i o) = unread ks vs ws o
unread _ _ _ (number ks vs ws t m n e f o) = unread ks vs ws o

-- ---- the row's values, with the immediate in its place

data Filling (imm : ℕ) : List ParamKind → List Value → List Value → Type 0 where
  empty : Filling imm [] [] []
  with_constant : (ks : List ParamKind) (vs all : List Value) (m : Num) → m.value ≡ pos imm → Filling imm ks vs all → Filling imm (kind.Immediate ∷ ks) vs (Value.Int m ∷ all)
  with_register : (ks : List ParamKind) (vs all : List Value) (r : List ℕ) → Filling imm ks vs all → Filling imm (kind.Reg 16 ∷ ks) (Value.R16 r ∷ vs) (Value.R16 r ∷ all)
  with_number : (ks : List ParamKind) (vs all : List Value) (t : IntType) (m : Num) → Filling imm ks vs all → Filling imm (kind.Scalar t ∷ ks) (Value.Int m ∷ vs) (Value.Int m ∷ all)

filling : (imm : ℕ) (ks : List ParamKind) (vs ws : List Value) → Operands ks vs ws → (all : List Value) → Filled ks vs all imm → Filling imm ks vs all
filling imm _ _ _ none [] f = empty
filling imm _ _ _ none (v ∷ all) f = absurd f
filling imm _ _ _ (constant ks vs ws o) (Value.Int m ∷ all) f = with_constant ks vs all m f.0 (filling imm ks vs ws o all f.1)
filling imm _ _ _ (constant ks vs ws o) [] f = absurd f
filling imm _ _ _ (constant ks vs ws o) (v ∷ all) f = absurd f
filling imm _ _ _ (register ks vs ws r i o) (v ∷ all) f =
    subst (λ z. Filling imm (kind.Reg 16 ∷ ks) (Value.R16 r ∷ vs) (z ∷ all)) f.0 (with_register ks vs all r (filling imm ks vs ws o all f.1))
filling imm _ _ _ (register ks vs ws r i o) [] f = absurd f
filling imm _ _ _ (number ks vs ws t m n e g o) (v ∷ all) f =
    subst (λ z. Filling imm (kind.Scalar t ∷ ks) (Value.Int m ∷ vs) (z ∷ all)) f.0 (with_number ks vs all t m (filling imm ks vs ws o all f.1))
filling imm _ _ _ (number ks vs ws t m n e g o) [] f = absurd f

fits : (imm : ℕ) (ks : List ParamKind) (vs all : List Value) → Filling imm ks vs all → fits_kinds ks all ≡ true
fits imm _ _ _ empty = refl
fits imm _ _ _ (with_constant ks vs all m e g) = and_true (not_negative m imm e) (fits imm ks vs all g)
fits imm _ _ _ (with_register ks vs all r g) = fits imm ks vs all g
fits imm _ _ _ (with_number ks vs all t m g) = fits imm ks vs all g

-- the arguments of the row's formula
abbrev row_arguments : List ParamKind → List Value → List Arg
row_arguments (kind.Immediate ∷ ks) vs = Arg.Nothing ∷ row_arguments ks vs
row_arguments (k ∷ ks) (v ∷ vs) = argument v ∷ row_arguments ks vs
row_arguments _ _ = []

same_arguments : (imm : ℕ) (ks : List ParamKind) (vs all : List Value) → Filling imm ks vs all → arguments ks all ≡ row_arguments ks vs
same_arguments imm _ _ _ empty = refl
same_arguments imm _ _ _ (with_constant ks vs all m e g) = ap (λ l. Arg.Nothing ∷ l) (same_arguments imm ks vs all g)
same_arguments imm _ _ _ (with_register ks vs all r g) = ap (λ l. Arg.R16 r ∷ l) (same_arguments imm ks vs all g)
same_arguments imm _ _ _ (with_number ks vs all t m g) = ap (λ l. argument (Value.Int m) ∷ l) (same_arguments imm ks vs all g)

same_number : (imm : ℕ) (ks : List ParamKind) (vs all : List Value) → Filling imm ks vs all → (has_immediate ks ≡ false → imm ≡ 0) → immediate ks all ≡ imm
same_number imm _ _ _ empty z = sym (z refl)
same_number imm _ _ _ (with_constant ks vs all m e g) z = ap unsigned_abs e
same_number imm _ _ _ (with_register ks vs all r g) z = same_number imm ks vs all g z
same_number imm _ _ _ (with_number ks vs all t m g) z = same_number imm ks vs all g z

fit_arguments : (ks : List ParamKind) (vs ws : List Value) → Operands ks vs ws → FitsKinds ks (row_arguments ks vs)
fit_arguments _ _ _ none = tt
fit_arguments _ _ _ (constant ks vs ws o) = (tt, fit_arguments ks vs ws o)
fit_arguments _ _ _ (register ks vs ws r i o) = ((refl, i), fit_arguments ks vs ws o)
fit_arguments _ _ _ (number ks vs ws t m n e f o) = (bits-below int.ULong m.value, fit_arguments ks vs ws o)

-- ---- the sequence's values

-- an integer of the source, passed and read in the type that its own is written as
passed_number : (t : IntType) (m n : Num) → n.ty ≡ written_integer t → m.value ≡ n.value → num_of (written_integer t) (pos (bits_of int.ULong m.value)) ≡ n
passed_number t m n e f =
    ap (λ s. num_of s (pos (bits_of int.ULong m.value))) (sym e) ∙ ap (λ z. num_of n.ty (pos (bits_of int.ULong z))) f ∙ number_back n

carried_all : (ks : List ParamKind) (vs ws : List Value) → Operands ks vs ws → all_carried (map written_type (operand_types ks)) (but_immediate ks (row_arguments ks vs)) ≡ Some ws
carried_all _ _ _ none = refl
carried_all _ _ _ (constant ks vs ws o) = carried_all ks vs ws o
carried_all _ _ _ (register ks vs ws r i o) = ap (λ x. option_map (λ l. Value.R16 r ∷ l) x) (carried_all ks vs ws o)
carried_all _ _ _ (number ks vs ws t m n e f o) =
    ap (λ k. option_map (λ l. Value.Int k ∷ l) (all_carried (map written_type (operand_types ks)) (but_immediate ks (row_arguments ks vs)))) (passed_number t m n e f)
    ∙ ap (λ x. option_map (λ l. Value.Int n ∷ l) x) (carried_all ks vs ws o)

have_integers : (ks : List ParamKind) (vs ws : List Value) → Operands ks vs ws → HaveIntegersOf (map written_type (operand_types ks)) ws
have_integers _ _ _ none = tt
have_integers _ _ _ (constant ks vs ws o) = have_integers ks vs ws o
have_integers _ _ _ (register ks vs ws r i o) = (tt, have_integers ks vs ws o)
have_integers _ _ _ (number ks vs ws t m n e f o) = (e, have_integers ks vs ws o)

-- a sequence whose value as an argument is a register or a number has it
its_register : (o : Option (Option Value)) (r : List ℕ) → option_map as_arg o ≡ Some (Arg.R16 r) → o ≡ Some (Some (Value.R16 r))
its_register (Some (Some (Value.R16 a))) r e = let same : a ≡ r = cc in ap (λ z. Some (Some (Value.R16 z))) same
its_register (Some (Some (Value.Int n))) r e = absurd (cc)
its_register (Some (Some (Value.R8 a))) r e = absurd (cc)
its_register (Some (Some (Value.R32 a))) r e = absurd (cc)
its_register (Some (Some (Value.At a))) r e = absurd (cc)
its_register (Some None) r e = absurd (cc)
its_register None r e = absurd (cc)

its_number : (o : Option (Option Value)) (n : ℕ) → option_map as_arg o ≡ Some (Arg.Int n) → (m : Num) × (o ≡ Some (Some (Value.Int m))) × (bits_of int.ULong m.value ≡ n)
its_number (Some (Some (Value.Int m))) n e = (m, refl, inner e)
  where
    inner : Some (Arg.Int (bits_of int.ULong m.value)) ≡ Some (Arg.Int n) → bits_of int.ULong m.value ≡ n
    inner g = cc
its_number (Some (Some (Value.R16 a))) n e = absurd (cc)
its_number (Some (Some (Value.R8 a))) n e = absurd (cc)
its_number (Some (Some (Value.R32 a))) n e = absurd (cc)
its_number (Some (Some (Value.At a))) n e = absurd (cc)
its_number (Some None) n e = absurd (cc)
its_number None n e = absurd (cc)

-- ---- what both give

data IsGiven : ParamKind → Arg → Type 0 where
  a_register : (r : List ℕ) → IsRegister 16 r → IsGiven (kind.Reg 16) (Arg.R16 r)
  a_number : (t : IntType) (n : ℕ) → IsGiven (kind.Scalar t) (Arg.Int n)

is_register : (a : Arg) → FitsResult (kind.Reg 16) a → IsGiven (kind.Reg 16) a
is_register (Arg.R16 r) f = a_register r f.1
is_register (Arg.R8 r) f = let wrong : 16 ≡ 8 = f.0 in absurd (omega (arith, wrong))
is_register (Arg.R32 r) f = let wrong : 16 ≡ 32 = f.0 in absurd (omega (arith, wrong))
is_register Arg.Nothing f = absurd f
is_register (Arg.Int n) f = absurd f

is_given : (k : ParamKind) (a : Arg) → IsValue k → FitsResult k a → IsGiven k a
is_given (kind.Reg bytes) a h f = subst (λ b. IsGiven (kind.Reg b) a) (sym h) (is_register a (subst (λ b. FitsResult (kind.Reg b) a) h f))
is_given (kind.Scalar t) (Arg.Int n) h f = a_number t n
is_given (kind.Scalar t) (Arg.R8 r) h f = absurd f
is_given (kind.Scalar t) (Arg.R16 r) h f = absurd f
is_given (kind.Scalar t) (Arg.R32 r) h f = absurd f
is_given (kind.Scalar t) Arg.Nothing h f = absurd f
is_given (kind.Lane l w) a h f = absurd h
is_given kind.Pair a h f = absurd h
is_given kind.Immediate a h f = absurd h
is_given (kind.PointerTo e c) a h f = absurd h
is_given kind.Nothing a h f = absurd h

-- `signed char` has the values that plain `char` has in the source
range_back : (t : IntType) (z : ℤ) → InRange (written_integer t) z → InRange t z
range_back int.Char z h = h
range_back _ z h = h

-- the row's number and the sequence's, which have the same bits
numbers_alike : (t : IntType) (n : ℕ) (m : Num) → m.ty ≡ written_integer t → bits_of int.ULong m.value ≡ n → TypedValues (CType.Int t) (Value.Int (num_of t (pos n))) (Value.Int m)
numbers_alike t n m e f =
    let inside : InRange t m.value = range_back t m.value (subst (λ s. InRange s m.value) e m.in_range) in
    let same : (num_of t (pos n)).value ≡ m.value = ap (λ b. (num_of t (pos b)).value) (sym f) ∙ value_back t m.value inside in
    ((e ∙ ap written_integer (sym (type_back t (pos n))), same), type_back t (pos n))

module _ (op : IntelOp) (imm : ℕ) (q : Sequence) (is : IsValueRow op) (range : InImmRange (range_of op) imm) (zero_imm : has_immediate (params_of (signature_of op)) ≡ false → imm ≡ 0)
    (callable : IsCallable q) (params : q.params ≡ map written_type (operand_types (params_of (signature_of op)))) (result : sequence_type q ≡ written_type (kind_type (signature_of op).result)) where
  abbrev ks : List ParamKind
  ks = params_of (signature_of op)

  row_gives : (vs ws : List Value) → Operands ks vs ws → (all : List Value) → Filled ks vs all imm → (memory : List Block)
      → row_result table op all memory ≡ Some (given (signature_of op).result (eval_of op (row_arguments ks vs) imm), memory)
  row_gives vs ws o all f memory =
      let g = filling imm ks vs ws o all f in
      rw (
        fits imm ks vs all g,
        same_number imm ks vs all g zero_imm,
        in_range (range_of op) imm range,
        is.still,
        unread ks vs ws o,
        same_arguments imm ks vs all g,
      ) refl

  sequence_gives : (vs ws : List Value) → Operands ks vs ws → (a : Arg) → evaluated q (but_immediate ks (row_arguments ks vs)) ≡ Some a → option_map as_arg (sequence_value q ws) ≡ Some a
  sequence_gives vs ws o a e =
      let carried : all_carried q.params (but_immediate ks (row_arguments ks vs)) ≡ Some ws =
      ap (λ ts. all_carried ts (but_immediate ks (row_arguments ks vs))) params ∙ carried_all ks vs ws o in
      sym (ap (λ x. option_map as_arg (option_and_then (sequence_value q) x)) carried) ∙ e

  both_give : (vs ws : List Value) → Operands ks vs ws → (k : ParamKind) (a : Arg) → IsGiven k a → (signature_of op).result ≡ k → eval_of op (row_arguments ks vs) imm ≡ a
      → evaluated q (but_immediate ks (row_arguments ks vs)) ≡ Some a → GivesAlike op imm q vs ws
  both_give vs ws o _ _ (a_register r i) e f h = record {
    v = Value.R16 r;
    w = Value.R16 r;
    values = subst (λ k. TypedValues (kind_type k) (Value.R16 r) (Value.R16 r)) (sym e) ((i, refl), i);
    row = λ all g memory. row_gives vs ws o all g memory ∙ ap (λ k. Some (given k (eval_of op (row_arguments ks vs) imm), memory)) e ∙ ap (λ a. Some (given (kind.Reg 16) a, memory)) f;
    sequence = its_register (sequence_value q ws) r (sequence_gives vs ws o (Arg.R16 r) h);
  }
  both_give vs ws o _ _ (a_number t n) e f h =
      let d = its_number (sequence_value q ws) n (sequence_gives vs ws o (Arg.Int n) h) in
      let typed : d.0.ty ≡ written_integer t = subst (λ c. HasIntegerOf c (Value.Int d.0)) (result ∙ ap (λ k. written_type (kind_type k)) e)
      (sequence_typed q callable.0 ws (subst (λ ts. HaveIntegersOf ts ws) (sym params) (have_integers ks vs ws o)) (Value.Int d.0) d.1) in
      record {
        v = Value.Int (num_of t (pos n));
        w = Value.Int d.0;
        values = subst (λ k. TypedValues (kind_type k) (Value.Int (num_of t (pos n))) (Value.Int d.0)) (sym e) (numbers_alike t n d.0 typed d.2);
        row = λ all g memory. row_gives vs ws o all g memory ∙ ap (λ k. Some (given k (eval_of op (row_arguments ks vs) imm), memory)) e ∙ ap (λ a. Some (given (kind.Scalar t) a, memory)) f;
        sequence = d.1;
      }

  pub gives_alike : ((args : List Arg) → Fits (signature_of op) args → evaluated q (but_immediate ks args) ≡ Some (eval_of op args imm)) → (vs ws : List Value)
      → Arguments TypedValues (operand_types ks) vs ws → GivesAlike op imm q vs ws
  gives_alike value vs ws a =
      let o = are_operands ks is.params vs ws a in
      let args = row_arguments ks vs in
      let fit : Fits (signature_of op) args =
      subst (λ l. FitsKinds l args) (sym (ap (λ b. if b then ks ++ ((signature_of op).result ∷ []) else ks) (unread ks vs ws o))) (fit_arguments ks vs ws o) in
      both_give vs ws o (signature_of op).result (eval_of op args imm) (is_given (signature_of op).result (eval_of op args imm) is.result (gives_its_kind op args imm fit range)) refl refl (value args fit)

pub value_rows_stand : ValueRowsStand
value_rows_stand op imm q is range zero_imm callable params result value =
    record { callable = callable; params = params; gives = gives_alike op imm q is range zero_imm callable params result value }
