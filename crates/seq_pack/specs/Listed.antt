-- What is due of a row's sequence: its types, its greatest number of calls, and the one Neon row that some rows have, by its name.
use Rattle.std.specs.Prelude.{◌≡◌, ℕ, List, [], ◌∷◌, ◌++◌, codes, Option, Some, None, option_map}
use Rattle.lane_core.specs.declared.table.ParamKind.{ParamKind}
use Rattle.lane_core.specs.declared.table.ParamKind.TheVariants as kind
use Rattle.lane_core.specs.declared.table.Sig.{Sig}
use Rattle.lane_core.specs.Table.{params_of}
use Rattle.c_tree.specs.declared.types.CType.{CType}
use Rattle.intel_lanes.specs.declared.blocks.One.TheVariants as one
use Rattle.intel_lanes.specs.declared.lanes.Width.{Width}
use Rattle.intel_lanes.specs.declared.lanes.Width.TheVariants.{Byte, Word, Dword, Qword}
use Rattle.intel_forms.specs.declared.sizes.Size.TheVariants.{Xmm}
use Rattle.intel_forms.specs.declared.scalars.Scalar.{Scalar}
use Rattle.intel_forms.specs.declared.scalars.Scalar.TheVariants as scalar
use Rattle.intel_forms.specs.declared.forms.Form.{Form}
use Rattle.intel_forms.specs.declared.forms.Form.TheVariants as form
use Rattle.intel_forms.specs.Scalars.{lanes_of}
use Rattle.c_memory.specs.Matching.{written_integer}
use Rattle.seq_core.specs.Terms.{Term, Sequence}
use Rattle.seq_core.specs.Formed.{vector, type_of}

-- the type of a row's parameter or result in a sequence: a vector is a carrier, and an integer has the type that its own is written as
abbrev pub carrier_of : ParamKind → CType
carrier_of (kind.Scalar t) = CType.Int (written_integer t)
carrier_of k = vector

-- of the parameters but the immediate
abbrev pub carriers_of : List ParamKind → List CType
carriers_of [] = []
carriers_of (kind.Immediate ∷ ks) = carriers_of ks
carriers_of (k ∷ ks) = carrier_of k ∷ carriers_of ks

-- the types of steps in order, behind those before
abbrev pub types_after : List CType → List CType → List Term → List CType
types_after ps ss [] = ss
types_after ps ss (t ∷ rest) = types_after ps (ss ++ type_of ps ss t ∷ []) rest

-- the sequence takes and gives what the row does
abbrev pub IsTyped : Sig → Sequence → Type 0
IsTyped sig s = (s.params ≡ carriers_of (params_of sig)) × (option_map (type_of s.params (types_after s.params [] s.steps)) s.result ≡ Some (carrier_of sig.result))

-- the width of lanes in bits
abbrev pub bits : Width → List ℕ
bits Byte = codes "8"
bits Word = codes "16"
bits Dword = codes "32"
bits Qword = codes "64"

-- a vector of zeros is a constant, whose row isn't counted
abbrev pub listed : Form → Option (List (List ℕ))
listed (form.Scalar (scalar.SetZero Xmm)) = Some []
listed (form.Scalar (scalar.SetAll Xmm width)) = Some ((codes "vdupq_n_u" ++ bits width) ∷ [])
listed _ = None

-- of rows that are scalar by nature; of others 24
abbrev pub scalar_ceiling : Scalar → ℕ
scalar_ceiling (scalar.SetZero size) = 0
scalar_ceiling (scalar.Set size width) = lanes_of size width
scalar_ceiling (scalar.SetReversed size width) = lanes_of size width
scalar_ceiling (scalar.ByteSigns size) = 8
scalar_ceiling (scalar.Tested size test) = 4
scalar_ceiling scalar.TestedOnes = 4
scalar_ceiling _ = 1

abbrev pub ceiling : Form → ℕ
ceiling (form.One size one.MinPosition) = 8
ceiling (form.Scalar row) = scalar_ceiling row
ceiling _ = 24
