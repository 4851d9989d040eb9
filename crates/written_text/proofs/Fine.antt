-- Expressions that are printed and read as they are, and name no array in a `sizeof`.
use Rattle.std.proofs.Common.{◌≡◌, refl, ap, ◌∙◌, arith, ℕ, ◌≤◌, ◌*◌, ◌/◌, ◌-◌, Bool, true, false, [], Option, None, ℤ, pos, negsuc}
use Rattle.std.proofs.lemmas.Bool.Decides.{nat_tests}
use Rattle.std.proofs.lemmas.Int.{ints}
use Rattle.std.specs.Prelude.{codes, int_lt, if◌then◌else◌}
use Rattle.lane_core.specs.declared.number.IntType.{IntType}
use Rattle.lane_core.specs.declared.number.IntType.TheVariants as int
use Rattle.lane_core.specs.declared.number.Num.{Num}
use Rattle.lane_core.specs.declared.vector.NeonLane.{NeonLane}
use Rattle.lane_core.specs.declared.vector.NeonLane.TheVariants as lane
use Rattle.lane_core.specs.IntRange.{InRange}
use Rattle.lane_core.specs.Table.{InImmRange}
use Rattle.scalar_core.specs.Numbers.{num_of}
use Rattle.scalar_core.specs.TwosComplement.{wrapped}
use Rattle.scalar_core.specs.Wrapping.{wrapped_same, wrapped_in_range}
use Rattle.c_tree.specs.declared.types.CType.{CType}
use Rattle.c_tree.specs.Tree.{Tree, Trees, NoTrees, More}
use Rattle.c_tree.specs.Types.{is_array}
use Rattle.c_print.specs.Constants.{sign_text}
use Rattle.neon_elements.specs.Elements.{bytes_of}
use Rattle.neon_forms.specs.declared.forms.Form.{Form}
use Rattle.neon_forms.specs.declared.forms.Form.TheVariants as form
use Rattle.neon_forms.specs.Forms as forms
use Rattle.round_trip.specs.Good.{GoodConstant, IsConstantType, GoodInteger, GoodPointee, Good, GoodAll}
use Rattle.round_trip.specs.GoodUnits.{GoodObjectType, HasShape, IsNoArray}
use Rattle.reading_again.specs.Plain.{Plain, PlainAll}
use Rattle.seq_core.specs.Formed.{is_promoted, IsNamed, IsNatural, IsConstant}

-- ---- expressions

pub record Fine (e : Tree) : Type 0 where
  pub good : Good e
  pub plain : Plain e

pub record AllFine (all : Trees) : Type 0 where
  pub good : GoodAll all
  pub plain : PlainAll all

pub none_fine : AllFine NoTrees
none_fine = record { good = tt; plain = tt }

pub more_fine : (a : Tree) (rest : Trees) → Fine a → AllFine rest → AllFine (More a rest)
more_fine a rest f g = record { good = (f.good, g.good); plain = (f.plain, g.plain) }

pub first_fine : (a : Tree) (rest : Trees) → AllFine (More a rest) → Fine a
first_fine a rest f = record { good = f.good.0; plain = f.plain.0 }

pub rest_fine : (a : Tree) (rest : Trees) → AllFine (More a rest) → AllFine rest
rest_fine a rest f = record { good = f.good.1; plain = f.plain.1 }

-- ---- constants

natural_sign : (z : ℤ) → IsNatural z → sign_text z ≡ []
natural_sign (pos n) h = at (int_lt (pos n) (pos 0)) refl
  where
    at : (b : Bool) → int_lt (pos n) (pos 0) ≡ b → (if b then codes "-" else []) ≡ []
    at true e = absurd (grind (arith, ints, nat_tests, e))
    at false e = refl
natural_sign (negsuc n) h = absurd h

constant_type : (t : IntType) → is_promoted t ≡ true → IsConstantType t
constant_type int.Int h = tt
constant_type int.UInt h = tt
constant_type int.Long h = tt
constant_type int.ULong h = tt
constant_type int.LLong h = tt
constant_type int.ULLong h = tt
constant_type t h = absurd (cc)

pub good_constant : (n : Num) → IsConstant n → GoodConstant n
good_constant n h = (natural_sign n.value h.1, constant_type n.ty h.0)

-- an unsigned number isn't negative, and neither is a small one
never_negative : (z : ℤ) → InRange int.ULong z → IsNatural z
never_negative (pos n) h = tt
never_negative (negsuc n) h = absurd (omega (arith, ints, h))

pub size_constant : (n : ℕ) → GoodConstant (num_of int.ULong (pos n))
unfolding num_of
size_constant n = (natural_sign (wrapped int.ULong (pos n)) (never_negative (wrapped int.ULong (pos n)) (wrapped_in_range int.ULong (pos n))), tt)

pub small_constant : (n : ℕ) → n ≤ 255 → GoodConstant (num_of int.Int (pos n))
unfolding num_of
small_constant n h = let same : wrapped int.Int (pos n) ≡ pos n = wrapped_same int.Int (pos n) (omega (arith, ints, h), omega (arith, ints, h)) in (ap sign_text same ∙ natural_sign (pos n) tt, tt)

-- ---- immediates of Neon's rows

shift_small : (t : NeonLane) (imm : ℕ) → imm ≤ 8 * bytes_of t → imm ≤ 255
shift_small lane.U8 imm h = omega (arith, h)
shift_small lane.U16 imm h = omega (arith, h)
shift_small lane.U32 imm h = omega (arith, h)
shift_small lane.U64 imm h = omega (arith, h)
shift_small lane.S8 imm h = omega (arith, h)
shift_small lane.S16 imm h = omega (arith, h)
shift_small lane.S32 imm h = omega (arith, h)
shift_small lane.S64 imm h = omega (arith, h)

left_small : (t : NeonLane) (imm : ℕ) → imm ≤ 8 * bytes_of t - 1 → imm ≤ 255
left_small lane.U8 imm h = omega (arith, h)
left_small lane.U16 imm h = omega (arith, h)
left_small lane.U32 imm h = omega (arith, h)
left_small lane.U64 imm h = omega (arith, h)
left_small lane.S8 imm h = omega (arith, h)
left_small lane.S16 imm h = omega (arith, h)
left_small lane.S32 imm h = omega (arith, h)
left_small lane.S64 imm h = omega (arith, h)

place_small : (t : NeonLane) (imm : ℕ) → imm ≤ 16 / bytes_of t - 1 → imm ≤ 255
place_small lane.U8 imm h = omega (arith, h)
place_small lane.U16 imm h = omega (arith, h)
place_small lane.U32 imm h = omega (arith, h)
place_small lane.U64 imm h = omega (arith, h)
place_small lane.S8 imm h = omega (arith, h)
place_small lane.S16 imm h = omega (arith, h)
place_small lane.S32 imm h = omega (arith, h)
place_small lane.S64 imm h = omega (arith, h)

pub immediate_small : (f : Form) (imm : ℕ) → InImmRange (forms.range_of f) imm → imm ≤ 255
immediate_small (form.ShiftLeft t) imm h = left_small t imm h.1
immediate_small (form.ShiftRight t) imm h = shift_small t imm h.1
immediate_small (form.ShiftNarrowed rounding t) imm h = shift_small (forms.lane_of t) imm h.1
immediate_small form.Extract imm h = let l = h.1 in omega (arith, l)
immediate_small (form.DuplicateLane t) imm h = place_small t imm h.1
immediate_small (form.GetLane t) imm h = place_small t imm h.1
immediate_small (form.SetLane t) imm h = place_small t imm h.1
immediate_small f imm h = let z : imm ≡ 0 = h in omega (arith, z)

-- ---- types

-- a type that a declaration in the text names
abbrev pub IsWritten : CType → Type 0
IsWritten (CType.Int t) = GoodInteger t
IsWritten (CType.Neon l wide) = Unit {0}
IsWritten CType.Pair = Unit {0}
IsWritten (CType.Pointer e constant) = GoodPointee e
IsWritten t = ⊥

pub written_object : (t : CType) (c : Bool) → IsWritten t → GoodObjectType t c
written_object (CType.Int s) c h = h
written_object (CType.Neon l wide) c h = tt
written_object CType.Pair c h = tt
written_object (CType.Pointer e constant) c h = h
written_object t c h = absurd h

pub written_shape : (t : CType) (init : Option Tree) → IsWritten t → HasShape t None init None
written_shape (CType.Int s) init h = (refl, refl)
written_shape (CType.Neon l wide) init h = (refl, refl)
written_shape CType.Pair init h = (refl, refl)
written_shape (CType.Pointer e constant) init h = (refl, refl)
written_shape t init h = absurd h

pub written_no_array : (t : CType) → IsWritten t → IsNoArray t
written_no_array (CType.Int s) h = tt
written_no_array (CType.Neon l wide) h = tt
written_no_array CType.Pair h = tt
written_no_array (CType.Pointer e constant) h = tt
written_no_array t h = absurd h

pub written_plain : (t : CType) → IsWritten t → is_array t ≡ false
written_plain (CType.Int s) h = refl
written_plain (CType.Neon l wide) h = refl
written_plain CType.Pair h = refl
written_plain (CType.Pointer e constant) h = refl
written_plain t h = absurd h

pub named_good : (t : IntType) → IsNamed t → GoodInteger t
named_good int.Boolean h = tt
named_good int.Char h = absurd h
named_good int.SChar h = tt
named_good int.UChar h = tt
named_good int.Short h = tt
named_good int.UShort h = tt
named_good int.Int h = tt
named_good int.UInt h = tt
named_good int.Long h = tt
named_good int.ULong h = tt
named_good int.LLong h = tt
named_good int.ULLong h = tt

pub promoted_good : (t : IntType) → is_promoted t ≡ true → GoodInteger t
promoted_good int.Int h = tt
promoted_good int.UInt h = tt
promoted_good int.Long h = tt
promoted_good int.ULong h = tt
promoted_good int.LLong h = tt
promoted_good int.ULLong h = tt
promoted_good t h = absurd (cc)
