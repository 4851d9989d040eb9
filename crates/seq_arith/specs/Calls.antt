-- Calls of rows on carriers: vectors of 16 bytes, which stand for all vectors of 128 bits.
use Rattle.std.specs.Prelude.{ℕ, List, [], ◌∷◌, Some}
use Rattle.lane_core.specs.declared.table.Arg.{Arg}
use Rattle.lane_core.specs.declared.table.ParamKind.{ParamKind}
use Rattle.lane_core.specs.declared.table.ParamKind.TheVariants as kind
use Rattle.lane_core.specs.declared.vector.NeonLane.{NeonLane}
use Rattle.lane_core.specs.declared.vector.NeonLane.TheVariants.{U8, U16, U32, U64, S8, S16, S32, S64}
use Rattle.neon_forms.specs.declared.forms.Form.{Form}
use Rattle.neon_forms.specs.declared.forms.Form.TheVariants as form
use Rattle.neon_forms.specs.Forms.{unsigned_of}
use Rattle.neon_move.specs.declared.MoveOp.{MoveOp}
use Rattle.neon_move.specs.declared.MoveOp.TheVariants.{ToUnsigned, ToSigned}
use Rattle.neon_move.specs.declared.to_signed.ToSigned.TheVariants as to_signed
use Rattle.neon_move.specs.declared.to_unsigned.ToUnsigned.TheVariants as to_unsigned
use Rattle.neon_table.specs.declared.NeonOp.{NeonOp}
use Rattle.neon_table.specs.Rows.{of_move, form_of}
use Rattle.seq_core.specs.Terms.{Term, Call, NoTerms, More, Sequence}
use Rattle.seq_core.specs.Formed.{vector}

abbrev pub reread : MoveOp → Term → Term
reread row x = Call (of_move row) (More x NoTerms) 0

-- a carrier read as a vector of these elements, and such a vector as a carrier
abbrev pub into : NeonLane → Term → Term
into U8 x = x
into U16 x = reread (ToUnsigned to_unsigned.VreinterpretqU16U8) x
into U32 x = reread (ToUnsigned to_unsigned.VreinterpretqU32U8) x
into U64 x = reread (ToUnsigned to_unsigned.VreinterpretqU64U8) x
into S8 x = reread (ToSigned to_signed.VreinterpretqS8U8) x
into S16 x = reread (ToSigned to_signed.VreinterpretqS16U8) x
into S32 x = reread (ToSigned to_signed.VreinterpretqS32U8) x
into S64 x = reread (ToSigned to_signed.VreinterpretqS64U8) x

abbrev pub back : NeonLane → Term → Term
back U8 x = x
back U16 x = reread (ToUnsigned to_unsigned.VreinterpretqU8U16) x
back U32 x = reread (ToUnsigned to_unsigned.VreinterpretqU8U32) x
back U64 x = reread (ToUnsigned to_unsigned.VreinterpretqU8U64) x
back S8 x = reread (ToUnsigned to_unsigned.VreinterpretqU8S8) x
back S16 x = reread (ToUnsigned to_unsigned.VreinterpretqU8S16) x
back S32 x = reread (ToUnsigned to_unsigned.VreinterpretqU8S32) x
back S64 x = reread (ToUnsigned to_unsigned.VreinterpretqU8S64) x

-- the elements of the vectors that a row of the form takes, and of the one that it gives
abbrev pub taken : Form → NeonLane
taken (form.Each1 op t) = t
taken (form.Each2 op t) = t
taken (form.Compared op t) = t
taken (form.ShiftLeft t) = t
taken (form.ShiftRight t) = t
taken (form.PairSums t) = t
taken (form.Permuted op t) = t
taken f = U8

abbrev pub gives : Form → NeonLane
gives (form.Compared op t) = unsigned_of t
gives f = taken f

-- the call of a row on one carrier, and on two
abbrev pub on_one : NeonOp → Term → ℕ → Term
on_one row x imm = back (gives (form_of row)) (Call row (More (into (taken (form_of row)) x) NoTerms) imm)

abbrev pub on_two : NeonOp → Term → Term → Term
on_two row x y =
    back (gives (form_of row)) (Call row (More (into (taken (form_of row)) x) (More (into (taken (form_of row)) y) NoTerms)) 0)

-- a sequence without steps over one carrier, and over two
abbrev pub over_one : Term → Sequence
over_one t = record { params = vector ∷ []; steps = []; result = Some t }

abbrev pub over_two : Term → Sequence
over_two t = record { params = vector ∷ vector ∷ []; steps = []; result = Some t }

-- the arguments of a row but the place of its immediate: a sequence takes these
abbrev pub operands : List ParamKind → List Arg → List Arg
operands (kind.Immediate ∷ ks) (a ∷ rest) = operands ks rest
operands (k ∷ ks) (a ∷ rest) = a ∷ operands ks rest
operands _ args = args
