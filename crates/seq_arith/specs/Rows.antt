-- The Neon row for each formula and width of lanes, where one row has it.
use Rattle.std.specs.Prelude.{Bool, true, false, Option, Some, None}
use Rattle.intel_lanes.specs.declared.lanes.Width.{Width}
use Rattle.intel_lanes.specs.declared.lanes.Width.TheVariants.{Byte, Word, Dword, Qword}
use Rattle.intel_lanes.specs.declared.lanes.Lane1.{Lane1}
use Rattle.intel_lanes.specs.declared.lanes.Lane1.TheVariants.{Absolute}
use Rattle.intel_lanes.specs.declared.lanes.Lane2.{Lane2}
use Rattle.intel_lanes.specs.declared.lanes.Lane2.TheVariants as op
use Rattle.intel_lanes.specs.declared.lanes.Shift.{Shift}
use Rattle.intel_lanes.specs.declared.lanes.Shift.TheVariants as shift
use Rattle.neon_lane.specs.declared.LaneOp.TheVariants as group
use Rattle.neon_lane.specs.declared.arithmetic.Arithmetic.{Arithmetic}
use Rattle.neon_lane.specs.declared.arithmetic.Arithmetic.TheVariants.{VabsqS8, VabsqS16, VabsqS32, VaddqU8, VaddqU16, VaddqU32, VaddqU64, VmulqU16, VmulqU32, VsubqU8, VsubqU16, VsubqU32, VsubqU64}
use Rattle.neon_lane.specs.declared.saturating.Saturating.{Saturating}
use Rattle.neon_lane.specs.declared.saturating.Saturating.TheVariants.{VqaddqS8, VqaddqS16, VqaddqU8, VqaddqU16, VqsubqS8, VqsubqS16, VqsubqU8, VqsubqU16, VrhaddqU8, VrhaddqU16}
use Rattle.neon_lane.specs.declared.extremes.Extremes.{Extremes}
use Rattle.neon_lane.specs.declared.extremes.Extremes.TheVariants.{VmaxqS8, VmaxqS16, VmaxqS32, VmaxqU8, VmaxqU16, VmaxqU32, VminqS8, VminqS16, VminqS32, VminqU8, VminqU16, VminqU32}
use Rattle.neon_lane.specs.declared.logic.Logic.{Logic}
use Rattle.neon_lane.specs.declared.logic.Logic.TheVariants.{VandqU8, VbicqU8, VeorqU8, VorrqU8}
use Rattle.neon_lane.specs.declared.choices.Choices.{Choices}
use Rattle.neon_lane.specs.declared.choices.Choices.TheVariants.{VceqqU8, VceqqU16, VceqqU32, VceqqU64, VcgtqS8, VcgtqS16, VcgtqS32, VcgtqS64}
use Rattle.neon_lane.specs.declared.shifts.Shifts.{Shifts}
use Rattle.neon_lane.specs.declared.shifts.Shifts.TheVariants.{VshlqNU8, VshlqNU16, VshlqNU32, VshlqNU64, VshrqNU8, VshrqNU16, VshrqNU32, VshrqNU64, VshrqNS8, VshrqNS16, VshrqNS32, VshrqNS64}
use Rattle.neon_lane.specs.declared.products.Products.TheVariants.{VpaddqU16, VpaddqU32}
use Rattle.neon_table.specs.declared.NeonOp.{NeonOp}
use Rattle.neon_table.specs.Rows.{of_lane}

-- the row among those of a group for bytes, words, dwords and qwords
abbrev pub sums : Width → Arithmetic → Arithmetic → Arithmetic → Arithmetic → Option NeonOp
sums Byte b w d q = Some (of_lane (group.Arithmetic b))
sums Word b w d q = Some (of_lane (group.Arithmetic w))
sums Dword b w d q = Some (of_lane (group.Arithmetic d))
sums Qword b w d q = Some (of_lane (group.Arithmetic q))

abbrev pub choices : Width → Choices → Choices → Choices → Choices → Option NeonOp
choices Byte b w d q = Some (of_lane (group.Choices b))
choices Word b w d q = Some (of_lane (group.Choices w))
choices Dword b w d q = Some (of_lane (group.Choices d))
choices Qword b w d q = Some (of_lane (group.Choices q))

abbrev pub shifts : Width → Shifts → Shifts → Shifts → Shifts → NeonOp
shifts Byte b w d q = of_lane (group.Shifts b)
shifts Word b w d q = of_lane (group.Shifts w)
shifts Dword b w d q = of_lane (group.Shifts d)
shifts Qword b w d q = of_lane (group.Shifts q)

-- among those for bytes, words and dwords
abbrev pub extremes : Width → Extremes → Extremes → Extremes → Option NeonOp
extremes Byte b w d = Some (of_lane (group.Extremes b))
extremes Word b w d = Some (of_lane (group.Extremes w))
extremes Dword b w d = Some (of_lane (group.Extremes d))
extremes Qword b w d = None

-- among those for bytes and words
abbrev pub saturating : Width → Saturating → Saturating → Option NeonOp
saturating Byte b w = Some (of_lane (group.Saturating b))
saturating Word b w = Some (of_lane (group.Saturating w))
saturating _ b w = None

abbrev pub products : Width → Option NeonOp
products Word = Some (of_lane (group.Arithmetic VmulqU16))
products Dword = Some (of_lane (group.Arithmetic VmulqU32))
products _ = None

abbrev pub pair_sums : Width → Option NeonOp
pair_sums Word = Some (of_lane (group.Products VpaddqU16))
pair_sums Dword = Some (of_lane (group.Products VpaddqU32))
pair_sums _ = None

abbrev pub absolutes : Width → Option NeonOp
absolutes Byte = Some (of_lane (group.Arithmetic VabsqS8))
absolutes Word = Some (of_lane (group.Arithmetic VabsqS16))
absolutes Dword = Some (of_lane (group.Arithmetic VabsqS32))
absolutes Qword = None

-- whole registers are worked on by bytes
abbrev pub logic : Width → Logic → Option NeonOp
logic Byte b = Some (of_lane (group.Logic b))
logic _ b = None

-- of one lane
abbrev pub row1_of : Lane1 → Width → Option NeonOp
row1_of Absolute width = absolutes width

-- of two lanes; for AndNot and Less the operands are exchanged
abbrev pub row2_of : Lane2 → Width → Option NeonOp
row2_of op.Add width = sums width VaddqU8 VaddqU16 VaddqU32 VaddqU64
row2_of op.Sub width = sums width VsubqU8 VsubqU16 VsubqU32 VsubqU64
row2_of op.AddSaturate width = saturating width VqaddqS8 VqaddqS16
row2_of op.SubSaturate width = saturating width VqsubqS8 VqsubqS16
row2_of op.AddSaturateUnsigned width = saturating width VqaddqU8 VqaddqU16
row2_of op.SubSaturateUnsigned width = saturating width VqsubqU8 VqsubqU16
row2_of op.Average width = saturating width VrhaddqU8 VrhaddqU16
row2_of op.MultiplyLow width = products width
row2_of op.Min width = extremes width VminqS8 VminqS16 VminqS32
row2_of op.Max width = extremes width VmaxqS8 VmaxqS16 VmaxqS32
row2_of op.MinUnsigned width = extremes width VminqU8 VminqU16 VminqU32
row2_of op.MaxUnsigned width = extremes width VmaxqU8 VmaxqU16 VmaxqU32
row2_of op.And width = logic width VandqU8
row2_of op.Or width = logic width VorrqU8
row2_of op.Xor width = logic width VeorqU8
row2_of op.AndNot width = logic width VbicqU8
row2_of op.Equal width = choices width VceqqU8 VceqqU16 VceqqU32 VceqqU64
row2_of op.Greater width = choices width VcgtqS8 VcgtqS16 VcgtqS32 VcgtqS64
row2_of op.Less width = choices width VcgtqS8 VcgtqS16 VcgtqS32 VcgtqS64
row2_of _ width = None

abbrev pub is_exchanged : Lane2 → Bool
is_exchanged op.AndNot = true
is_exchanged op.Less = true
is_exchanged _ = false

-- of one lane and a constant
abbrev pub shift_row_of : Shift → Width → NeonOp
shift_row_of shift.Left width = shifts width VshlqNU8 VshlqNU16 VshlqNU32 VshlqNU64
shift_row_of shift.Right width = shifts width VshrqNU8 VshrqNU16 VshrqNU32 VshrqNU64
shift_row_of shift.Arithmetic width = shifts width VshrqNS8 VshrqNS16 VshrqNS32 VshrqNS64
