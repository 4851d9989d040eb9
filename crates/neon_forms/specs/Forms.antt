-- The forms of rows: what a row of each form takes and touches, by the Arm Neon Intrinsics Reference.
use Rattle.std.specs.Prelude.{ℕ, zero, suc, ◌-◌, ◌*◌, ◌/◌, pos, [], ◌∷◌, Bool, true, false, Option, Some, None}
use Rattle.lane_core.specs.declared.number.IntType.{IntType}
use Rattle.lane_core.specs.declared.number.IntType.TheVariants as int
use Rattle.lane_core.specs.declared.vector.NeonLane.{NeonLane}
use Rattle.lane_core.specs.declared.vector.NeonLane.TheVariants.{U8, U16, U32, U64, S8, S16, S32, S64}
use Rattle.lane_core.specs.declared.vector.Pointee.TheVariants.{Int}
use Rattle.lane_core.specs.declared.table.ParamKind.{ParamKind}
use Rattle.lane_core.specs.declared.table.ParamKind.TheVariants as kind
use Rattle.lane_core.specs.declared.table.ImmRange.{ImmRange}
use Rattle.lane_core.specs.declared.table.ImmRange.TheVariants.{NoImmediate, Span}
use Rattle.lane_core.specs.declared.table.Sig.{Sig}
use Rattle.lane_core.specs.declared.table.Access.{Access}
use Rattle.lane_core.specs.Table.{signature}
use Rattle.neon_elements.specs.Elements.{bytes_of}
use Rattle.neon_elements.specs.Vectors.{reversed_lane}
use Rattle.neon_forms.specs.declared.forms.Narrow.{Narrow}
use Rattle.neon_forms.specs.declared.forms.Narrow.TheVariants as narrow
use Rattle.neon_forms.specs.declared.forms.Transfer.{Transfer}
use Rattle.neon_forms.specs.declared.forms.Transfer.TheVariants as transfer
use Rattle.neon_forms.specs.declared.forms.Form.{Form}
use Rattle.neon_forms.specs.declared.forms.Form.TheVariants as form

-- elements of that type, and those of twice the width
abbrev pub lane_of : Narrow → NeonLane
lane_of narrow.U8 = U8
lane_of narrow.U16 = U16
lane_of narrow.U32 = U32
lane_of narrow.S8 = S8
lane_of narrow.S16 = S16
lane_of narrow.S32 = S32

abbrev pub wide_of : Narrow → NeonLane
wide_of narrow.U8 = U16
wide_of narrow.U16 = U32
wide_of narrow.U32 = U64
wide_of narrow.S8 = S16
wide_of narrow.S16 = S32
wide_of narrow.S32 = S64

-- the unsigned and the signed elements of the same width
abbrev pub unsigned_of : NeonLane → NeonLane
unsigned_of S8 = U8
unsigned_of S16 = U16
unsigned_of S32 = U32
unsigned_of S64 = U64
unsigned_of t = t

abbrev pub signed_of : NeonLane → NeonLane
signed_of U8 = S8
signed_of U16 = S16
signed_of U32 = S32
signed_of U64 = S64
signed_of t = t

-- the type of an element, `uint8_t` to `int64_t`
abbrev pub element_type : NeonLane → IntType
element_type U8 = int.UChar
element_type U16 = int.UShort
element_type U32 = int.UInt
element_type U64 = int.ULong
element_type S8 = int.SChar
element_type S16 = int.Short
element_type S32 = int.Int
element_type S64 = int.Long

-- a vector of 128 bits, of 64 bits, and an integer for an element
abbrev pub q : NeonLane → ParamKind
q t = kind.Lane t true

abbrev pub d : NeonLane → ParamKind
d t = kind.Lane t false

abbrev pub scalar : NeonLane → ParamKind
scalar t = kind.Scalar (element_type t)

-- what is read or stored
abbrev pub transferred : Transfer → ParamKind
transferred transfer.D = d U8
transferred transfer.Q = q U8
transferred transfer.Pair = kind.Pair

abbrev pub size_of : Transfer → ℕ
size_of transfer.D = 8
size_of transfer.Q = 16
size_of transfer.Pair = 32

-- `uint8_t const *`, or without `const`
abbrev pub pointer : Bool → ParamKind
pointer constant = kind.PointerTo (Int int.UChar) constant

abbrev pub signature_of : Form → Sig
signature_of (form.Each1 op t) = signature (q t) (q t ∷ [])
signature_of (form.Each2 op t) = signature (q t) (q t ∷ q t ∷ [])
signature_of (form.Compared op t) = signature (q (unsigned_of t)) (q t ∷ q t ∷ [])
signature_of (form.Select t) = signature (q t) (q (unsigned_of t) ∷ q t ∷ q t ∷ [])
signature_of (form.ShiftBy t) = signature (q t) (q t ∷ q (signed_of t) ∷ [])
signature_of (form.ShiftLeft t) = signature (q t) (q t ∷ kind.Immediate ∷ [])
signature_of (form.ShiftRight t) = signature (q t) (q t ∷ kind.Immediate ∷ [])
signature_of (form.Lengthen op t) = signature (q (wide_of t)) (d (lane_of t) ∷ d (lane_of t) ∷ [])
signature_of (form.LengthenHigh op t) = signature (q (wide_of t)) (q (lane_of t) ∷ q (lane_of t) ∷ [])
signature_of (form.PairSums t) = signature (q t) (q t ∷ q t ∷ [])
signature_of (form.LongPairSums t) = signature (q (wide_of t)) (q (lane_of t) ∷ [])
signature_of (form.Reduce op t) = signature (scalar (lane_of t)) (q (lane_of t) ∷ [])
signature_of (form.ReduceHalf op t) = signature (scalar (lane_of t)) (d (lane_of t) ∷ [])
signature_of (form.Widen t) = signature (q (wide_of t)) (d (lane_of t) ∷ [])
signature_of (form.WidenHigh t) = signature (q (wide_of t)) (q (lane_of t) ∷ [])
signature_of (form.Narrowed op t) = signature (d (lane_of t)) (q (wide_of t) ∷ [])
signature_of (form.NarrowedUnsigned t) = signature (d (unsigned_of (lane_of t))) (q (wide_of t) ∷ [])
signature_of (form.ShiftNarrowed rounding t) = signature (d (lane_of t)) (q (wide_of t) ∷ kind.Immediate ∷ [])
signature_of form.Extract = signature (q U8) (q U8 ∷ q U8 ∷ kind.Immediate ∷ [])
signature_of form.Lookup = signature (q U8) (q U8 ∷ q U8 ∷ [])
signature_of form.LookupPair = signature (q U8) (kind.Pair ∷ q U8 ∷ [])
signature_of (form.Permuted op t) = signature (q t) (q t ∷ q t ∷ [])
signature_of (form.Reversed op) = signature (q (reversed_lane op)) (q (reversed_lane op) ∷ [])
signature_of (form.DuplicateLane t) = signature (q t) (q t ∷ kind.Immediate ∷ [])
signature_of (form.Duplicate t) = signature (q t) (scalar t ∷ [])
signature_of form.Create = signature (d U8) (scalar U64 ∷ [])
signature_of (form.Combine t) = signature (q t) (d t ∷ d t ∷ [])
signature_of (form.Half part t) = signature (d t) (q t ∷ [])
signature_of (form.GetLane t) = signature (scalar t) (q t ∷ kind.Immediate ∷ [])
signature_of (form.SetLane t) = signature (q t) (scalar t ∷ q t ∷ kind.Immediate ∷ [])
signature_of (form.Reinterpret to from) = signature (q to) (q from ∷ [])
signature_of (form.ReinterpretHalf to from) = signature (d to) (d from ∷ [])
signature_of (form.Load what) = signature (transferred what) (pointer true ∷ [])
signature_of (form.Store what) = signature kind.Nothing (pointer false ∷ transferred what ∷ [])

-- an element's place
abbrev pub places : NeonLane → ImmRange
places t = Span 0 (16 / bytes_of t - 1)

abbrev pub range_of : Form → ImmRange
range_of (form.ShiftLeft t) = Span 0 (8 * bytes_of t - 1)
range_of (form.ShiftRight t) = Span 1 (8 * bytes_of t)
range_of (form.ShiftNarrowed rounding t) = Span 1 (8 * bytes_of (lane_of t))
range_of form.Extract = Span 0 15
range_of (form.DuplicateLane t) = places t
range_of (form.GetLane t) = places t
range_of (form.SetLane t) = places t
range_of _ = NoImmediate

abbrev pub accesses_of : Form → ℕ
accesses_of (form.Load what) = 1
accesses_of (form.Store what) = 1
accesses_of _ = 0

-- n bytes from the address on, which may be any
abbrev pub access_at : ℕ → Bool → ℕ → Option Access
access_at n write zero = Some (record { offset = pos 0; size = n; align = 1; write = write; at = 0 })
access_at n write (suc k) = None

abbrev pub access_of : Form → ℕ → Option Access
access_of (form.Load what) k = access_at (size_of what) false k
access_of (form.Store what) k = access_at (size_of what) true k
access_of _ k = None

-- the bytes of the register into which a row reads or from which it stores
abbrev pub register_of : Form → ℕ
register_of (form.Load what) = size_of what
register_of (form.Store what) = size_of what
register_of _ = 0
