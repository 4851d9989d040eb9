-- An integer that a well-formed sequence gives has the type of the sequence's value.
use Rattle.std.proofs.Common.{◌≡◌, ℕ, zero, suc, List, [], ◌∷◌, ◌++◌, Bool, true, false, ◌&&◌, Option, Some, None, refl, sym, subst, arith}
use Rattle.std.specs.Prelude.{option_map, slice_get, if◌then◌else◌, IfSome, IsTrue, ℤ, pos}
use Rattle.std.specs.Option.{option_and_then, unwrap_or}
use Rattle.lane_core.specs.declared.number.IntType.{IntType}
use Rattle.lane_core.specs.declared.number.IntType.TheVariants as int
use Rattle.lane_core.specs.declared.number.Num.{Num}
use Rattle.lane_core.specs.declared.number.BinOp.{BinOp}
use Rattle.lane_core.specs.declared.table.Arg.{Arg}
use Rattle.lane_core.specs.declared.table.ParamKind.{ParamKind}
use Rattle.lane_core.specs.declared.table.ParamKind.TheVariants as kind
use Rattle.lane_core.specs.Table.{params_of}
use Rattle.scalar_core.specs.Numbers.{num_of}
use Rattle.scalar_core.specs.NumberLaws.{converted_type}
use Rattle.scalar_core.specs.Ranks.{promoted, common_of}
use Rattle.scalar_core.specs.Operators.{is_comparison, is_shift, left_type, binary_type, binary_of, HasType}
use Rattle.scalar_core.specs.OperatorLaws.{binary_typed}
use Rattle.const_imm.specs.Constant.{is_true}
use Rattle.c_tree.specs.declared.types.CType.{CType}
use Rattle.c_memory.specs.declared.value.Value.{Value}
use Rattle.c_memory.specs.MeaningRows.{given}
use Rattle.neon_table.specs.declared.NeonOp.{NeonOp}
use Rattle.neon_table.specs.Rows.{signature_of, eval_of}
use Rattle.seq_core.specs.Rows.{is_without_memory}
use Rattle.seq_core.specs.Terms.{Term, Param, Step, Const, Int, Call, PairOf, Half, Scalar, Convert, Choice, Shifted, ByteAt, SetByte, Sequence}
use Rattle.seq_core.specs.Values.{fits_operands, placed, called, operated, turned, chosen, step_value, value_of, values_of, steps_from, result_over, sequence_value}
use Rattle.seq_core.specs.Formed.{type_of_kind, operator_type, type_of, is_promoted, IsPromoted, IsBeside, IsFormed, IsResult, FormedFrom, WellFormed, given_type, type_behind, sequence_type}

-- where the type is an integer's, so is the value's
abbrev pub HasIntegerOf : CType → Value → Type 0
HasIntegerOf (CType.Int t) (Value.Int n) = n.ty ≡ t
HasIntegerOf t v = Unit {0}

abbrev pub HaveIntegersOf : List CType → List Value → Type 0
HaveIntegersOf [] [] = Unit {0}
HaveIntegersOf (t ∷ ts) (v ∷ vs) = HasIntegerOf t v × HaveIntegersOf ts vs
HaveIntegersOf _ _ = ⊥

abbrev Steps : List CType → List (Option Value) → Type 0
Steps [] [] = Unit {0}
Steps (t ∷ ts) (o ∷ os) = IfSome o (HasIntegerOf t) × Steps ts os
Steps _ _ = ⊥

bound : {A B : Type 0} (o : Option A) (f : A → Option B) (v : B) → option_and_then f o ≡ Some v → (a : A) × (o ≡ Some a) × (f a ≡ Some v)
bound (Some a) f v h = (a, refl, h)
bound None f v h = absurd (grind (arith, h))

inner : {A : Type 0} {a b : A} → Some a ≡ Some b → a ≡ b
inner h = cc

-- ---- parameters and steps

param_typed : (ts : List CType) (ps : List Value) → HaveIntegersOf ts ps → (n : ℕ) (v : Value) → slice_get ps n ≡ Some v → HasIntegerOf (unwrap_or (slice_get ts n) CType.Void) v
param_typed [] [] a n v h = absurd (grind (arith, h))
param_typed (t ∷ ts) (p ∷ ps) a zero v h = subst (HasIntegerOf t) (inner h) a.0
param_typed (t ∷ ts) (p ∷ ps) a (suc n) v h = param_typed ts ps a.1 n v h
param_typed [] (p ∷ ps) a n v h = absurd a
param_typed (t ∷ ts) [] a n v h = absurd a

step_typed : (us : List CType) (ss : List (Option Value)) → Steps us ss → (n : ℕ) (v : Value) → step_value ss n ≡ Some v → HasIntegerOf (unwrap_or (slice_get us n) CType.Void) v
step_typed [] [] a n v h = absurd (grind (arith, h))
step_typed (t ∷ ts) (Some p ∷ ps) a zero v h = subst (HasIntegerOf t) (inner h) a.0
step_typed (t ∷ ts) (None ∷ ps) a zero v h = absurd (grind (arith, h))
step_typed (t ∷ ts) (p ∷ ps) a (suc n) v h = step_typed ts ps a.1 n v h
step_typed [] (p ∷ ps) a n v h = absurd a
step_typed (t ∷ ts) [] a n v h = absurd a

one_more : (us : List CType) (ss : List (Option Value)) (t : CType) (v : Value) → Steps us ss → HasIntegerOf t v → Steps (us ++ t ∷ []) (ss ++ Some v ∷ [])
one_more [] [] t v a h = (h, tt)
one_more (u ∷ us) (s ∷ ss) t v a h = (a.0, one_more us ss t v a.1 h)
one_more [] (s ∷ ss) t v a h = absurd a
one_more (u ∷ us) [] t v a h = absurd a

-- ---- calls

number_type : (t : IntType) (z : ℤ) → (num_of t z).ty ≡ t
unfolding num_of
number_type t z = refl

given_typed : (k : ParamKind) (a : Arg) (v : Value) → given k a ≡ Some v → HasIntegerOf (type_of_kind k) v
given_typed (kind.Scalar t) (Arg.Int n) v h = subst (HasIntegerOf (CType.Int t)) (inner h) (number_type t (pos n))
given_typed (kind.Scalar t) (Arg.R8 r) v h = subst (HasIntegerOf (CType.Int t)) (inner h) tt
given_typed (kind.Scalar t) (Arg.R16 r) v h = subst (HasIntegerOf (CType.Int t)) (inner h) tt
given_typed (kind.Scalar t) (Arg.R32 r) v h = subst (HasIntegerOf (CType.Int t)) (inner h) tt
given_typed (kind.Scalar t) Arg.Nothing v h = absurd (grind (arith, h))
given_typed (kind.Reg bytes) a v h = tt
given_typed (kind.Lane lanes wide) a v h = tt
given_typed kind.Pair a v h = tt
given_typed kind.Immediate a v h = tt
given_typed (kind.PointerTo e c) a v h = tt
given_typed kind.Nothing a v h = tt

if_called : (b : Bool) (k : ParamKind) (a : Arg) (v : Value) → (if b then given k a else None) ≡ Some v → HasIntegerOf (type_of_kind k) v
if_called true k a v h = given_typed k a v h
if_called false k a v h = absurd (grind (arith, h))

called_typed : (op : NeonOp) (imm : ℕ) (vs : List Value) (v : Value) → called op imm vs ≡ Some v → HasIntegerOf (type_of_kind (signature_of op).result) v
called_typed op imm vs v h =
    let ks = params_of (signature_of op) in
    if_called (is_without_memory op && fits_operands ks vs) (signature_of op).result (eval_of op (placed ks vs) imm) v h

-- ---- operators

promoted_stays : (t : IntType) → IsTrue (is_promoted t) → promoted t ≡ t
unfolding promoted
promoted_stays int.Int h = refl
promoted_stays int.UInt h = refl
promoted_stays int.Long h = refl
promoted_stays int.ULong h = refl
promoted_stays int.LLong h = refl
promoted_stays int.ULLong h = refl
promoted_stays _ h = absurd (grind (arith, h))

common_stays : (t : IntType) → IsTrue (is_promoted t) → common_of t t ≡ t
unfolding common_of promoted
common_stays int.Int h = refl
common_stays int.UInt h = refl
common_stays int.Long h = refl
common_stays int.ULong h = refl
common_stays int.LLong h = refl
common_stays int.ULLong h = refl
common_stays _ h = absurd (grind (arith, h))

-- an operator between operands that promotion leaves gives its left operand's type, or `int` (C11 6.3.1.8, 6.5.7p3)
left_stays : (o : BinOp) (b : Bool) (s t : IntType) → IsTrue (is_promoted s) → IsBeside b (CType.Int s) (CType.Int t) → (if b then promoted s else common_of s t) ≡ s
left_stays o true s t h k = promoted_stays s h
left_stays o false s t h k = subst (λ u. common_of s u ≡ s) (sym (same k)) (common_stays s h)
  where
    same : CType.Int t ≡ CType.Int s → t ≡ s
    same e = cc

operator_typed : (c : Bool) (s l : IntType) (n : Num) → l ≡ s → n.ty ≡ (if c then int.Int else l) → HasIntegerOf (if c then CType.Int int.Int else CType.Int s) (Value.Int n)
operator_typed true s l n e h = h
operator_typed false s l n e h = subst (λ t. n.ty ≡ t) e h

operated_typed : (o : BinOp) (s t : IntType) (a b : Num) (v : Value) → IsTrue (is_promoted s) → IsBeside (is_shift o) (CType.Int s) (CType.Int t) → a.ty ≡ s → b.ty ≡ t
    → option_map Value.Int (binary_of o a b) ≡ Some v → HasIntegerOf (operator_type o (CType.Int s)) v
operated_typed o s t a b v p k e f h = at (binary_of o a b) (binary_typed o a b) h
  where
    at : (r : Option Num) → HasType (binary_type o a.ty b.ty) r → option_map Value.Int r ≡ Some v → HasIntegerOf (operator_type o (CType.Int s)) v
    at None i g = absurd (grind (arith, g))
    at (Some n) i g =
        let typed : n.ty ≡ binary_type o s t = subst (λ x. n.ty ≡ binary_type o x t) e (subst (λ y. n.ty ≡ binary_type o a.ty y) f i) in
        subst (HasIntegerOf (operator_type o (CType.Int s))) (inner g)
        (operator_typed (is_comparison o) s (left_type o s t) n (left_stays o (is_shift o) s t p k) typed)

-- the operand beside a promoted integer is an integer
beside : (b : Bool) (s : IntType) (u : CType) → IsBeside b (CType.Int s) u → (t : IntType) × (u ≡ CType.Int t)
beside true s (CType.Int t) k = (t, refl)
beside true s u k = absurd k
beside false s u k = (s, k)

scalar_typed : (o : BinOp) (t u : CType) (x y v : Value) → IsPromoted t → IsBeside (is_shift o) t u → HasIntegerOf t x → HasIntegerOf u y → operated o x y ≡ Some v → HasIntegerOf (operator_type o t) v
scalar_typed o (CType.Int s) u (Value.Int a) (Value.Int b) v p k h i e =
    let d = beside (is_shift o) s u k in
    operated_typed o s d.0 a b v p (subst (IsBeside (is_shift o) (CType.Int s)) d.1 k) h (subst (λ z. HasIntegerOf z (Value.Int b)) d.1 i) e
scalar_typed o t u (Value.Int a) (Value.Int b) v p k h i e = absurd p
scalar_typed o t u x y v p k h i e = absurd (grind (arith, e))

turned_typed : (t : IntType) (x v : Value) → turned t x ≡ Some v → HasIntegerOf (CType.Int t) v
turned_typed t (Value.Int n) v e = subst (HasIntegerOf (CType.Int t)) (inner e) (converted_type t n)
turned_typed t x v e = absurd (grind (arith, e))

branch_typed : (b : Bool) (x y : Option Value) (t : CType) (v : Value) → (x ≡ Some v → HasIntegerOf t v) → (y ≡ Some v → HasIntegerOf t v) → (if b then x else y) ≡ Some v → HasIntegerOf t v
branch_typed true x y t v f g e = f e
branch_typed false x y t v f g e = g e

chosen_typed : (c : Value) (x y : Option Value) (t : CType) (v : Value) → (x ≡ Some v → HasIntegerOf t v) → (y ≡ Some v → HasIntegerOf t v) → chosen c x y ≡ Some v → HasIntegerOf t v
chosen_typed (Value.Int n) x y t v f g e = branch_typed (is_true n) x y t v f g e
chosen_typed c x y t v f g e = absurd (grind (arith, e))

-- ---- terms and sequences

value_typed : (ts us : List CType) (ps : List Value) (ss : List (Option Value)) → HaveIntegersOf ts ps → Steps us ss → (t : Term) → IsFormed ts us t → (v : Value) → value_of ps ss t ≡ Some v
    → HasIntegerOf (type_of ts us t) v
value_typed ts us ps ss p q (Param n) f v h = param_typed ts ps p n v h
value_typed ts us ps ss p q (Step n) f v h = step_typed us ss q n v h
value_typed ts us ps ss p q (Const r) f v h = tt
value_typed ts us ps ss p q (Int n) f v h = subst (HasIntegerOf (CType.Int n.ty)) (inner h) refl
value_typed ts us ps ss p q (Call op all imm) f v h = let b = bound (values_of ps ss all) (called op imm) v h in called_typed op imm b.0 v b.2
value_typed ts us ps ss p q (PairOf a e) f v h = tt
value_typed ts us ps ss p q (Half a k) f v h = tt
value_typed ts us ps ss p q (Scalar o a e) f v h =
    let b = bound (value_of ps ss a) (λ x. option_and_then (operated o x) (value_of ps ss e)) v h in
    let d = bound (value_of ps ss e) (operated o b.0) v b.2 in
    scalar_typed o (type_of ts us a) (type_of ts us e) b.0 d.0 v f.0 f.1 (value_typed ts us ps ss p q a f.2 b.0 b.1) (value_typed ts us ps ss p q e f.3 d.0 d.1) d.2
value_typed ts us ps ss p q (Convert t a) f v h = let b = bound (value_of ps ss a) (turned t) v h in turned_typed t b.0 v b.2
value_typed ts us ps ss p q (Choice c a e) f v h =
    let b = bound (value_of ps ss c) (λ x. chosen x (value_of ps ss a) (value_of ps ss e)) v h in
    chosen_typed b.0 (value_of ps ss a) (value_of ps ss e) (type_of ts us a) v (λ g. value_typed ts us ps ss p q a f.4 v g)
    (λ g. subst (λ t. HasIntegerOf t v) f.2 (value_typed ts us ps ss p q e f.5 v g)) b.2
value_typed ts us ps ss p q (Shifted a e) f v h = absurd (grind (arith, h))
value_typed ts us ps ss p q (ByteAt a) f v h = absurd (grind (arith, h))
value_typed ts us ps ss p q (SetByte a e) f v h = absurd (grind (arith, h))

result_typed : (ts us : List CType) (ps : List Value) (ss : List (Option Value)) → HaveIntegersOf ts ps → Steps us ss → (r : Option Term) → IsResult ts us r → (v : Value) → result_over ps r ss ≡ Some (Some v)
    → HasIntegerOf (given_type ts us r) v
result_typed ts us ps ss p q None f v h = absurd (cc)
result_typed ts us ps ss p q (Some t) f v h = at (value_of ps ss t) refl h
  where
    at : (o : Option Value) → value_of ps ss t ≡ o → option_map Some o ≡ Some (Some v) → HasIntegerOf (type_of ts us t) v
    at None e g = absurd (grind (arith, g))
    at (Some w) e g = subst (HasIntegerOf (type_of ts us t)) (inner (inner g)) (value_typed ts us ps ss p q t f.1 w e)

behind_typed : (ts us : List CType) (ps : List Value) (ss : List (Option Value)) → HaveIntegersOf ts ps → Steps us ss → (all : List Term) (r : Option Term) → FormedFrom ts us all r → (v : Value)
    → option_and_then (result_over ps r) (steps_from ps ss all) ≡ Some (Some v) → HasIntegerOf (type_behind ts us all r) v
behind_typed ts us ps ss p q [] r f v h = result_typed ts us ps ss p q r f v h
behind_typed ts us ps ss p q (t ∷ rest) r f v h =
    at (value_of ps ss t) refl (λ w e g. behind_typed ts (us ++ type_of ts us t ∷ []) ps (ss ++ Some w ∷ []) p (one_more us ss (type_of ts us t) w q (value_typed ts us ps ss p q t f.0 w e)) rest r f.1 v g) h
  where
    at : (o : Option Value) → value_of ps ss t ≡ o
        → ((w : Value) → value_of ps ss t ≡ Some w → option_and_then (result_over ps r) (steps_from ps (ss ++ Some w ∷ []) rest) ≡ Some (Some v) → HasIntegerOf (type_behind ts (us ++ type_of ts us t ∷ []) rest r) v)
        → option_and_then (result_over ps r) (option_and_then (λ w. steps_from ps (ss ++ Some w ∷ []) rest) o) ≡ Some (Some v) → HasIntegerOf (type_behind ts (us ++ type_of ts us t ∷ []) rest r) v
    at None e k g = absurd (grind (arith, g))
    at (Some w) e k g = k w e g

pub sequence_typed : (s : Sequence) → WellFormed s → (ps : List Value) → HaveIntegersOf s.params ps → (v : Value) → sequence_value s ps ≡ Some (Some v) → HasIntegerOf (sequence_type s) v
sequence_typed s f ps p v h = behind_typed s.params [] ps [] p tt s.steps s.result f.1 v h
