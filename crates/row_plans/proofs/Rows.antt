-- The kinds of the rows that have sequences, and the types of these.
use Rattle.std.proofs.Common.{◌≡◌, ℕ, zero, suc, ◌≤◌, List, [], ◌∷◌, ◌++◌, length, map, take, true, false, Option, Some, None, refl, ap, arith, rules}
use Rattle.std.specs.Prelude.{option_map}
use Rattle.lane_core.specs.declared.table.Arg.{Arg}
use Rattle.lane_core.specs.declared.table.Arg.TheVariants as arg
use Rattle.lane_core.specs.declared.table.ParamKind.{ParamKind}
use Rattle.lane_core.specs.declared.table.ParamKind.TheVariants as kind
use Rattle.lane_core.specs.Table.{params_of, reads, FitsKinds}
use Rattle.c_tree.specs.declared.types.CType.{CType}
use Rattle.c_memory.specs.Matching.{written_type}
use Rattle.intel_lanes.specs.declared.lanes.Width.{Width}
use Rattle.intel_lanes.specs.declared.lanes.Width.TheVariants.{Byte, Word, Dword, Qword}
use Rattle.intel_forms.specs.declared.sizes.Size.TheVariants.{Xmm}
use Rattle.intel_forms.specs.declared.scalars.Scalar.{Scalar}
use Rattle.intel_forms.specs.declared.scalars.Scalar.TheVariants as scalar
use Rattle.intel_forms.specs.declared.forms.Form.{Form}
use Rattle.intel_forms.specs.declared.forms.Form.TheVariants as form
use Rattle.intel_forms.specs.Forms.{signature_of, accesses_of}
use Rattle.intel_forms.specs.Scalars.{scalar_signature}
use Rattle.type_rules.specs.Passing.{kind_type}
use Rattle.seq_core.specs.Terms.{Term, Sequence}
use Rattle.seq_core.specs.Formed.{vector, type_of, type_behind}
use Rattle.seq_arith.specs.Plans as arith
use Rattle.seq_arith.specs.Calls as arith_calls
use Rattle.seq_arith.specs.Claims as arith_claims
use Rattle.seq_pack.specs.Plans as pack
use Rattle.seq_pack.specs.Calls as pack_calls
use Rattle.seq_pack.specs.Listed.{carrier_of, carriers_of, types_after}
use Rattle.shuffle_plans.specs.Plans.{is_one_block, vectors_of}
use Rattle.shuffle_plans.specs.Claims as shuffle
use Rattle.written_forms.specs.Ready.{operand_types}
use Rattle.written_forms.specs.Vectors.{AreVectors}
use Rattle.written_forms.specs.Scalars.{IsValue, AreValues, but_immediate}

-- ---- kinds

-- a row of registers alone, and one of registers and integers; both touch no memory
pub record IsVectorForm (f : Form) : Type 0 where
  pub params : AreVectors (params_of (signature_of f))
  pub result : (signature_of f).result ≡ kind.Reg 16
  pub still : accesses_of f ≡ 0

pub record IsValueForm (f : Form) : Type 0 where
  pub params : AreValues (params_of (signature_of f))
  pub result : IsValue (signature_of f).result
  pub still : accesses_of f ≡ 0

pub arith_form : (f : Form) (imm : ℕ) (q : Sequence) → option_map (λ p. arith.sequence_of p imm) (arith.planned f) ≡ Some q → IsVectorForm f
arith_form (form.One Xmm o) imm q h = record { params = (refl, tt); result = refl; still = refl }
arith_form (form.Two Xmm o) imm q h = record { params = (refl, (refl, tt)); result = refl; still = refl }
arith_form (form.Counted Xmm s w) imm q h = record { params = (refl, (refl, tt)); result = refl; still = refl }
arith_form (form.OneImm Xmm o) imm q h = record { params = (refl, tt); result = refl; still = refl }
arith_form (form.TwoImm Xmm o) imm q h = record { params = (refl, (refl, tt)); result = refl; still = refl }
arith_form _ imm q h = absurd (grind (arith, h))

pub shuffle_form : (f : Form) → is_one_block f ≡ true → IsVectorForm f × (shuffle.carriers_of f ≡ arith_claims.carriers_of (params_of (signature_of f)))
shuffle_form (form.One Xmm o) h = (record { params = (refl, tt); result = refl; still = refl }, refl)
shuffle_form (form.Two Xmm o) h = (record { params = (refl, (refl, tt)); result = refl; still = refl }, refl)
shuffle_form (form.OneImm Xmm o) h = (record { params = (refl, tt); result = refl; still = refl }, refl)
shuffle_form (form.TwoImm Xmm o) h = (record { params = (refl, (refl, tt)); result = refl; still = refl }, refl)
shuffle_form (form.Broadcast Xmm w) h = (record { params = (refl, tt); result = refl; still = refl }, refl)
shuffle_form _ h = absurd (grind (arith, h))

set_params : (w : Width) → AreValues (params_of (scalar_signature (scalar.Set Xmm w)))
set_params Byte = search rules depth 40
set_params Word = search rules depth 40
set_params Dword = search rules depth 40
set_params Qword = search rules depth 40

scalar_form : (row : Scalar) (imm : ℕ) (q : Sequence) → option_map (λ p. pack.sequence_of p imm) (pack.planned_scalar row) ≡ Some q → IsValueForm (form.Scalar row)
scalar_form (scalar.SetZero Xmm) imm q h = record { params = tt; result = refl; still = refl }
scalar_form (scalar.SetAll Xmm w) imm q h = record { params = (tt, tt); result = refl; still = refl }
scalar_form (scalar.ToVector w) imm q h = record { params = (tt, tt); result = refl; still = refl }
scalar_form (scalar.FromVector w) imm q h = record { params = (refl, tt); result = tt; still = refl }
scalar_form (scalar.Extract Xmm w) imm q h = record { params = (refl, tt); result = tt; still = refl }
scalar_form (scalar.Insert Xmm w) imm q h = record { params = (refl, (tt, tt)); result = refl; still = refl }
scalar_form (scalar.Set Xmm w) imm q h = record { params = set_params w; result = refl; still = refl }
scalar_form (scalar.SetReversed Xmm w) imm q h = record { params = set_params w; result = refl; still = refl }
scalar_form (scalar.ByteSigns Xmm) imm q h = record { params = (refl, tt); result = tt; still = refl }
scalar_form (scalar.Tested Xmm t) imm q h = record { params = (refl, (refl, tt)); result = tt; still = refl }
scalar_form scalar.TestedOnes imm q h = record { params = (refl, tt); result = tt; still = refl }
scalar_form _ imm q h = absurd (grind (arith, h))

pub pack_form : (f : Form) (imm : ℕ) (q : Sequence) → option_map (λ p. pack.sequence_of p imm) (pack.planned f) ≡ Some q → IsValueForm f
pack_form (form.One Xmm o) imm q h = record { params = (refl, tt); result = refl; still = refl }
pack_form (form.Two Xmm o) imm q h = record { params = (refl, (refl, tt)); result = refl; still = refl }
pack_form (form.TwoImm Xmm o) imm q h = record { params = (refl, (refl, tt)); result = refl; still = refl }
pack_form (form.BlendBytes Xmm) imm q h = record { params = (refl, (refl, (refl, tt))); result = refl; still = refl }
pack_form (form.Extend Xmm s w) imm q h = record { params = (refl, tt); result = refl; still = refl }
pack_form (form.Scalar row) imm q h = scalar_form row imm q h
pack_form _ imm q h = absurd (grind (arith, h))

pub of_vectors : (ks : List ParamKind) → AreVectors ks → AreValues ks
of_vectors [] h = tt
of_vectors (kind.Immediate ∷ ks) h = of_vectors ks h
of_vectors (kind.Reg bytes ∷ ks) h = (h.0, of_vectors ks h.1)
of_vectors (kind.Lane l w ∷ ks) h = absurd h
of_vectors (kind.Pair ∷ ks) h = absurd h
of_vectors (kind.Scalar t ∷ ks) h = absurd h
of_vectors (kind.PointerTo e c ∷ ks) h = absurd h
of_vectors (kind.Nothing ∷ ks) h = absurd h

pub unread : (ks : List ParamKind) → AreValues ks → reads ks ≡ false
unread [] h = refl
unread (kind.Immediate ∷ ks) h = unread ks h
unread (kind.Reg bytes ∷ ks) h = unread ks h.1
unread (kind.Scalar t ∷ ks) h = unread ks h.1
unread (kind.Lane l w ∷ ks) h = absurd h.0
unread (kind.Pair ∷ ks) h = absurd h.0
unread (kind.PointerTo e c ∷ ks) h = absurd h.0
unread (kind.Nothing ∷ ks) h = absurd h.0

-- ---- types

pub carriers_written : (ks : List ParamKind) → AreVectors ks → arith_claims.carriers_of ks ≡ map written_type (operand_types ks)
carriers_written [] h = refl
carriers_written (kind.Immediate ∷ ks) h = carriers_written ks h
carriers_written (kind.Reg bytes ∷ ks) h = rw h.0 (ap (λ l. vector ∷ l) (carriers_written ks h.1))
carriers_written (kind.Lane l w ∷ ks) h = absurd h
carriers_written (kind.Pair ∷ ks) h = absurd h
carriers_written (kind.Scalar t ∷ ks) h = absurd h
carriers_written (kind.PointerTo e c ∷ ks) h = absurd h
carriers_written (kind.Nothing ∷ ks) h = absurd h

pub carrier_written : (k : ParamKind) → IsValue k → carrier_of k ≡ written_type (kind_type k)
carrier_written (kind.Reg bytes) h = rw h refl
carrier_written (kind.Scalar t) h = refl
carrier_written (kind.Lane l w) h = absurd h
carrier_written kind.Pair h = absurd h
carrier_written kind.Immediate h = absurd h
carrier_written (kind.PointerTo e c) h = absurd h
carrier_written kind.Nothing h = absurd h

pub values_written : (ks : List ParamKind) → AreValues ks → carriers_of ks ≡ map written_type (operand_types ks)
values_written [] h = refl
values_written (kind.Immediate ∷ ks) h = values_written ks h
values_written (kind.Reg bytes ∷ ks) h = rw h.0 (ap (λ l. vector ∷ l) (values_written ks h.1))
values_written (kind.Scalar t ∷ ks) h = ap (λ l. carrier_of (kind.Scalar t) ∷ l) (values_written ks h.1)
values_written (kind.Lane l w ∷ ks) h = absurd h.0
values_written (kind.Pair ∷ ks) h = absurd h.0
values_written (kind.PointerTo e c ∷ ks) h = absurd h.0
values_written (kind.Nothing ∷ ks) h = absurd h.0

inner : {A : Type 0} {a b : A} → Some a ≡ Some b → a ≡ b
inner h = cc

pub behind_is : (ps ss : List CType) (steps : List Term) (r : Option Term) (c : CType) → option_map (type_of ps (types_after ps ss steps)) r ≡ Some c → type_behind ps ss steps r ≡ c
behind_is ps ss [] None c h = absurd (grind (arith, h))
behind_is ps ss [] (Some t) c h = inner h
behind_is ps ss (s ∷ rest) r c h = behind_is ps (ss ++ type_of ps ss s ∷ []) rest r c h

-- ---- operands

pub arith_operands : (ks : List ParamKind) → AreValues ks → (args : List Arg) → FitsKinds ks args → arith_calls.operands ks args ≡ but_immediate ks args
arith_operands [] h [] f = refl
arith_operands (kind.Immediate ∷ ks) h (a ∷ args) f = arith_operands ks h args f.1
arith_operands (kind.Reg bytes ∷ ks) h (a ∷ args) f = ap (λ l. a ∷ l) (arith_operands ks h.1 args f.1)
arith_operands (kind.Scalar t ∷ ks) h (a ∷ args) f = ap (λ l. a ∷ l) (arith_operands ks h.1 args f.1)
arith_operands [] h (a ∷ args) f = absurd f
arith_operands (k ∷ ks) h [] f = absurd f
arith_operands (kind.Lane l w ∷ ks) h (a ∷ args) f = absurd h.0
arith_operands (kind.Pair ∷ ks) h (a ∷ args) f = absurd h.0
arith_operands (kind.PointerTo e c ∷ ks) h (a ∷ args) f = absurd h.0
arith_operands (kind.Nothing ∷ ks) h (a ∷ args) f = absurd h.0

pub pack_operands : (ks : List ParamKind) → AreValues ks → (args : List Arg) → FitsKinds ks args → pack_calls.operands ks args ≡ but_immediate ks args
pack_operands [] h [] f = refl
pack_operands (kind.Immediate ∷ ks) h (a ∷ args) f = pack_operands ks h args f.1
pack_operands (kind.Reg bytes ∷ ks) h (a ∷ args) f = ap (λ l. a ∷ l) (pack_operands ks h.1 args f.1)
pack_operands (kind.Scalar t ∷ ks) h (a ∷ args) f = ap (λ l. a ∷ l) (pack_operands ks h.1 args f.1)
pack_operands [] h (a ∷ args) f = absurd f
pack_operands (k ∷ ks) h [] f = absurd f
pack_operands (kind.Lane l w ∷ ks) h (a ∷ args) f = absurd h.0
pack_operands (kind.Pair ∷ ks) h (a ∷ args) f = absurd h.0
pack_operands (kind.PointerTo e c ∷ ks) h (a ∷ args) f = absurd h.0
pack_operands (kind.Nothing ∷ ks) h (a ∷ args) f = absurd h.0

pub shuffle_operands : (ks : List ParamKind) → AreVectors ks → (args : List Arg) → FitsKinds ks args → vectors_of args ≡ but_immediate ks args
shuffle_operands [] h [] f = refl
shuffle_operands (kind.Immediate ∷ ks) h (arg.Nothing ∷ args) f = shuffle_operands ks h args f.1
shuffle_operands (kind.Immediate ∷ ks) h (arg.Int n ∷ args) f = absurd f.0
shuffle_operands (kind.Immediate ∷ ks) h (arg.R8 r ∷ args) f = absurd f.0
shuffle_operands (kind.Immediate ∷ ks) h (arg.R16 r ∷ args) f = absurd f.0
shuffle_operands (kind.Immediate ∷ ks) h (arg.R32 r ∷ args) f = absurd f.0
shuffle_operands (kind.Reg bytes ∷ ks) h (arg.R8 r ∷ args) f = ap (λ l. arg.R8 r ∷ l) (shuffle_operands ks h.1 args f.1)
shuffle_operands (kind.Reg bytes ∷ ks) h (arg.R16 r ∷ args) f = ap (λ l. arg.R16 r ∷ l) (shuffle_operands ks h.1 args f.1)
shuffle_operands (kind.Reg bytes ∷ ks) h (arg.R32 r ∷ args) f = ap (λ l. arg.R32 r ∷ l) (shuffle_operands ks h.1 args f.1)
shuffle_operands (kind.Reg bytes ∷ ks) h (arg.Nothing ∷ args) f = absurd f.0
shuffle_operands (kind.Reg bytes ∷ ks) h (arg.Int n ∷ args) f = absurd f.0
shuffle_operands [] h (a ∷ args) f = absurd f
shuffle_operands (k ∷ ks) h [] f = absurd f
shuffle_operands (kind.Lane l w ∷ ks) h (a ∷ args) f = absurd h
shuffle_operands (kind.Pair ∷ ks) h (a ∷ args) f = absurd h
shuffle_operands (kind.Scalar t ∷ ks) h (a ∷ args) f = absurd h
shuffle_operands (kind.PointerTo e c ∷ ks) h (a ∷ args) f = absurd h
shuffle_operands (kind.Nothing ∷ ks) h (a ∷ args) f = absurd h

-- ---- numbers of parameters

take_few : {A : Type 0} (n : ℕ) (xs : List A) → length (take n xs) ≤ n
take_few zero xs = omega arith
take_few (suc n) [] = omega arith
take_few (suc n) (x ∷ xs) = let h = take_few n xs in omega (arith, h)

pub few_params : (n : ℕ) (xs : List ParamKind) → n ≤ 32 → length (map written_type (operand_types (take n xs))) ≤ 32
few_params n xs l = let a = take_few n xs in let b = fewer (take n xs) in omega (arith, a, b, l)
  where
    fewer : (ks : List ParamKind) → length (map written_type (operand_types ks)) ≤ length ks
    fewer [] = omega arith
    fewer (kind.Immediate ∷ ks) = let h = fewer ks in omega (arith, h)
    fewer (kind.Reg bytes ∷ ks) = let h = fewer ks in omega (arith, h)
    fewer (kind.Lane l w ∷ ks) = let h = fewer ks in omega (arith, h)
    fewer (kind.Pair ∷ ks) = let h = fewer ks in omega (arith, h)
    fewer (kind.Scalar t ∷ ks) = let h = fewer ks in omega (arith, h)
    fewer (kind.PointerTo e c ∷ ks) = let h = fewer ks in omega (arith, h)
    fewer (kind.Nothing ∷ ks) = let h = fewer ks in omega (arith, h)
