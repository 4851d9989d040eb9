-- The sequence of Neon calls of each form, over terms of carriers A and B (Arm Neon Intrinsics Reference).
use Rattle.std.specs.Prelude.{ℕ, ◌+◌, ◌==◌, List, [], ◌∷◌, replicate, get_or, Bool, true, false, Some, if◌then◌else◌}
use Rattle.lane_core.specs.Register.{build}
use Rattle.lane_core.specs.declared.vector.NeonLane.{NeonLane}
use Rattle.lane_core.specs.declared.vector.NeonLane.TheVariants.{U8, U16, U32, U64}
use Rattle.neon_move.specs.declared.MoveOp.{MoveOp}
use Rattle.neon_move.specs.declared.MoveOp.TheVariants as op
use Rattle.neon_move.specs.declared.permuting.Permuting.{Permuting}
use Rattle.neon_move.specs.declared.permuting.Permuting.TheVariants as permuting
use Rattle.neon_move.specs.declared.places.Places.{Places}
use Rattle.neon_move.specs.declared.places.Places.TheVariants as places
use Rattle.neon_move.specs.declared.to_unsigned.ToUnsigned.TheVariants as read
use Rattle.neon_move.specs.declared.bytes.Bytes.TheVariants as bytes
use Rattle.neon_table.specs.declared.NeonOp.{NeonOp}
use Rattle.neon_table.specs.Rows.{of_move}
use Rattle.seq_core.specs.Formed.{vector}
use Rattle.seq_core.specs.Terms.{Term, Param, Const, Call, PairOf, NoTerms, More, Sequence}
use Rattle.price_choice.specs.declared.forms.FormKind.{FormKind}
use Rattle.price_choice.specs.declared.forms.FormKind.TheVariants.{Dup, Ext, Rev, Zip, Uzp, Trn, Tbl}
use Rattle.price_choice.specs.declared.forms.Pick.{Pick}
use Rattle.price_choice.specs.declared.forms.Pick.TheVariants as pick
use Rattle.price_choice.specs.declared.forms.Side.{Side}
use Rattle.price_choice.specs.declared.forms.Side.TheVariants as side
use Rattle.price_choice.specs.declared.forms.Form.{Form}
use Rattle.price_choice.specs.declared.forms.Form.TheVariants.{Same, One, Two, Table, TablePair}

-- unsigned lanes of w bytes
abbrev pub lanes_of : ℕ → NeonLane
lanes_of w = if w == 1 then U8 else if w == 2 then U16 else if w == 4 then U32 else U64

-- `vdupq_laneq`
abbrev pub dup_row : NeonLane → Places
dup_row U8 = places.VdupqLaneqU8
dup_row U16 = places.VdupqLaneqU16
dup_row U32 = places.VdupqLaneqU32
dup_row _ = places.VdupqLaneqU64

-- `vrev16q`, `vrev32q`, `vrev64q`: lanes in groups of n bytes
abbrev pub rev_row : NeonLane → ℕ → Permuting
rev_row U8 n = if n == 2 then permuting.Vrev16qU8 else if n == 4 then permuting.Vrev32qU8 else permuting.Vrev64qU8
rev_row U16 n = if n == 4 then permuting.Vrev32qU16 else permuting.Vrev64qU16
rev_row _ n = permuting.Vrev64qU32

abbrev pub zip1_row : NeonLane → Permuting
zip1_row U8 = permuting.Vzip1qU8
zip1_row U16 = permuting.Vzip1qU16
zip1_row U32 = permuting.Vzip1qU32
zip1_row _ = permuting.Vzip1qU64

abbrev pub zip2_row : NeonLane → Permuting
zip2_row U8 = permuting.Vzip2qU8
zip2_row U16 = permuting.Vzip2qU16
zip2_row U32 = permuting.Vzip2qU32
zip2_row _ = permuting.Vzip2qU64

abbrev pub uzp1_row : NeonLane → Permuting
uzp1_row U8 = permuting.Vuzp1qU8
uzp1_row U16 = permuting.Vuzp1qU16
uzp1_row U32 = permuting.Vuzp1qU32
uzp1_row _ = permuting.Vuzp1qU64

abbrev pub uzp2_row : NeonLane → Permuting
uzp2_row U8 = permuting.Vuzp2qU8
uzp2_row U16 = permuting.Vuzp2qU16
uzp2_row U32 = permuting.Vuzp2qU32
uzp2_row _ = permuting.Vuzp2qU64

abbrev pub trn1_row : NeonLane → Permuting
trn1_row U8 = permuting.Vtrn1qU8
trn1_row U16 = permuting.Vtrn1qU16
trn1_row U32 = permuting.Vtrn1qU32
trn1_row _ = permuting.Vtrn1qU64

abbrev pub trn2_row : NeonLane → Permuting
trn2_row U8 = permuting.Vtrn2qU8
trn2_row U16 = permuting.Vtrn2qU16
trn2_row U32 = permuting.Vtrn2qU32
trn2_row _ = permuting.Vtrn2qU64

-- the row of a kind for such lanes; n is the form's number
abbrev pub row_of : FormKind → NeonLane → ℕ → MoveOp
row_of Dup t n = op.Places (dup_row t)
row_of Ext t n = op.Bytes bytes.VextqU8
row_of Rev t n = op.Permuting (rev_row t n)
row_of Zip t n = op.Permuting (if n == 1 then zip1_row t else zip2_row t)
row_of Uzp t n = op.Permuting (if n == 1 then uzp1_row t else uzp2_row t)
row_of Trn t n = op.Permuting (if n == 1 then trn1_row t else trn2_row t)
row_of Tbl t n = op.Bytes bytes.Vqtbl1qU8

-- the row's constant: the lane of a dup, and the count of bytes of an ext
abbrev pub constant_of : FormKind → ℕ → ℕ
constant_of Dup n = n
constant_of Ext n = n
constant_of _ n = 0

-- the call of the form, if it has one
abbrev pub calls_of : Form → List NeonOp
calls_of (Same x) = []
calls_of (One kind w n x) = of_move (row_of kind (lanes_of w) n) ∷ []
calls_of (Two kind w n x y) = of_move (row_of kind (lanes_of w) n) ∷ []
calls_of (Table x) = of_move (op.Bytes bytes.Vqtbl1qU8) ∷ []
calls_of TablePair = of_move (op.Bytes bytes.Vqtbl2qU8) ∷ []

-- a carrier read as lanes, and lanes as a carrier
abbrev pub into : NeonLane → Term → Term
into U8 t = t
into U16 t = Call (of_move (op.ToUnsigned read.VreinterpretqU16U8)) (More t NoTerms) 0
into U32 t = Call (of_move (op.ToUnsigned read.VreinterpretqU32U8)) (More t NoTerms) 0
into _ t = Call (of_move (op.ToUnsigned read.VreinterpretqU64U8)) (More t NoTerms) 0

abbrev pub back : NeonLane → Term → Term
back U8 t = t
back U16 t = Call (of_move (op.ToUnsigned read.VreinterpretqU8U16)) (More t NoTerms) 0
back U32 t = Call (of_move (op.ToUnsigned read.VreinterpretqU8U32)) (More t NoTerms) 0
back _ t = Call (of_move (op.ToUnsigned read.VreinterpretqU8U64)) (More t NoTerms) 0

-- an operand of a form
abbrev pub side_term : Side → Term → Term → Term
side_term side.A a b = a
side_term side.B a b = b
side_term side.Zero a b = Const (replicate 16 0)

-- the index of a byte in a table of one operand, and of both: behind the table's end for a zero
abbrev pub index_in : Pick → ℕ
index_in (pick.A k) = k
index_in (pick.B k) = k
index_in pick.Zero = 255

abbrev pub index_in_pair : Pick → ℕ
index_in_pair (pick.B k) = 16 + k
index_in_pair p = index_in p

-- the vector of indices
unfoldable pub indices : (Pick → ℕ) → List Pick → List ℕ
indices index want = build 1 16 (λ i. index (get_or want i pick.Zero))

abbrev pub one_call : FormKind → NeonLane → ℕ → Term → Term
one_call kind t n x = back t (Call (of_move (row_of kind t n)) (More (into t x) NoTerms) (constant_of kind n))

abbrev pub two_call : FormKind → NeonLane → ℕ → Term → Term → Term
two_call kind t n x y = back t (Call (of_move (row_of kind t n)) (More (into t x) (More (into t y) NoTerms)) (constant_of kind n))

-- what gives the bytes of the selection by that form
abbrev pub form_term : Form → List Pick → Term → Term → Term
form_term (Same x) want a b = side_term x a b
form_term (One kind w n x) want a b = one_call kind (lanes_of w) n (side_term x a b)
form_term (Two kind w n x y) want a b = two_call kind (lanes_of w) n (side_term x a b) (side_term y a b)
form_term (Table x) want a b = Call (of_move (op.Bytes bytes.Vqtbl1qU8)) (More (side_term x a b) (More (Const (indices index_in want)) NoTerms)) 0
form_term TablePair want a b = Call (of_move (op.Bytes bytes.Vqtbl2qU8)) (More (PairOf a b) (More (Const (indices index_in_pair want)) NoTerms)) 0

-- The sequence over the operands of a block. Where there is one, it is both A and B.
abbrev pub sequence_of : Bool → Form → List Pick → Sequence
sequence_of true f want = record { params = vector ∷ vector ∷ []; steps = []; result = Some (form_term f want (Param 0) (Param 1)) }
sequence_of false f want = record { params = vector ∷ []; steps = []; result = Some (form_term f want (Param 0) (Param 0)) }
